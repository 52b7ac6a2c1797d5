-- What a pair is refused for: 1 to 6 of the base or the overlay with that text's line, or 15 with line 0 (document 02, item 3: "overlay
-- faults as 1 to 6 with the overlay's line .. then 15 with line 0"). Assumes nothing.
use Prim.Native.Nat.{ℕ, ◌+◌, ◌≤◌}
use native.Mathlib.Omega.{arith}
use mathlib.Core.Path.{◌≡◌, refl, subst}
use mathlib.Core.Bool.{Bool, true, false, cond}
use mathlib.Core.List.{List}
use mathlib.Core.Logic.{◌⊎◌, inl, inr}
use borrow.Author.Tests.{leb-true}
use lib.Dec.{leb}
use lib.ListN.{length}
use Rattle.std.specs.Prelude.{Ok}
use Rattle.units.specs.declared.Fault.TheVariants.{LongText, OtherBase}
use Rattle.pair.specs.declared.read.PairRefusal.{PairRefusal}
use Rattle.std.specs.Prelude.{IfErr}
use Rattle.std.specs.Prelude.{Option, None, Some, Result, Err}
use Rattle.units.specs.declared.Refusal.{Refusal}
use Rattle.units.specs.Refusals.{number_of, refused}
use Rattle.units.proofs.TestLaws.{clash}
use Rattle.fields.specs.Bytes.{bad_byte}
use Rattle.fields.specs.Lines.{lines_of, lines_from}
use Rattle.fields.specs.Readers.{no, got}
use Rattle.soc.specs.Limits.{text_max}
use Rattle.soc.specs.declared.record.Soc.{Soc}
use Rattle.text_reader.specs.Lines.{LinesRead}
use Rattle.text_reader.specs.Reading.{read_soc}
use Rattle.text.specs.LineCount.{line_count}
use Rattle.text.specs.Numbers.{TextNumber}
use Rattle.text.proofs.Refused.{alike_refuses}
use Rattle.text.proofs.RefusedLine.{Lined, bad_within, lines-within, numbered_within, low-none, refuses-none, refuses-counted, lined_most, refused-line-most}
use Rattle.overlay.specs.Overlay.{overlay, answer, unless_bad, read_overlay}
use Rattle.overlay.specs.declared.read.Overlay.{Overlay}
use Rattle.pair.specs.Pair.{fits, combined, refused_pair, joined, pair_of, read_pair}
use Rattle.pair.specs.declared.read.Meant.{Meant}
use Rattle.pair.specs.declared.read.Meant.TheVariants as meant
use Rattle.pair.specs.declared.read.PairRead.{PairRead}
use Rattle.text.proofs.Acceptance.{refused-number}
use Rattle.late_changes.proofs.OverlayRefused.{alike_overlay, overlay-number}

module _ (t : List ℕ) where
  abbrev Within : ℕ → Type 0
  Within n = (1 ≤ n) × (n ≤ line_count t)

  abbrev AllLined : Result Overlay Refusal → Type 0
  AllLined a = IfErr a (Lined t)

  lines_lined : (g : LinesRead Overlay) → overlay (lines_from 1 t 0) ≡ g → AllLined (answer g)
  unfolding answer
  lines_lined (got s ls) e = tt
  lines_lined (no r) e =
      let k = numbered_within 1 (line_count t) 1 (lines_of t) (omega arith) (omega (arith, lines-within false t)) in
      let w = alike_refuses Within (alike_overlay (λ i j. Within i) (lines_from 1 t 0) (lines_from 1 t 0) k) r e in
      record { none = refuses-none w; counted = refuses-counted w }

  bytes_lined : (b : Option ℕ) → bad_byte 1 t ≡ b → AllLined (unless_bad b (answer (overlay (lines_from 1 t 0))))
  unfolding unless_bad
  bytes_lined (Some n) e =
      let w = bad_within 1 false t n e in
      record { none = none_2; counted = λ h. (w.0, omega (arith, w.1)) }
    where
      none_2 : ◌⊎◌ (◌≡◌ {A = ℕ} 2 1) (◌≡◌ {A = ℕ} 2 6) → n ≡ 0
      none_2 (inl k) = absurd (omega arith)
      none_2 (inr k) = absurd (omega arith)
  bytes_lined None e = lines_lined (overlay (lines_from 1 t 0)) refl

  abbrev read : Result Overlay Refusal
  read = unless_bad (bad_byte 1 t) (answer (overlay (lines_from 1 t 0)))

  all-lined : AllLined (read_overlay t)
  unfolding read_overlay
  all-lined = go (leb (length t) text_max)
    where
      go : (b : Bool) → AllLined (cond b read (Err (refused LongText 0)))
      go true = bytes_lined (bad_byte 1 t) refl
      go false = record { none = λ k. refl; counted = λ h. absurd (low-none 1 (omega arith) h) }

  long-line : IfErr (read_overlay t) (λ r. length t ≤ text_max ⊎ (number_of r.fault ≡ 1))
  unfolding read_overlay
  long-line = go (leb (length t) text_max) refl
    where
      short : length t ≤ text_max → (a : Result Overlay Refusal) → IfErr a (λ r. length t ≤ text_max ⊎ (number_of r.fault ≡ 1))
      short h (Err r) = inl h
      short h (Ok s) = tt

      go : (b : Bool) → leb (length t) text_max ≡ b
          → IfErr (cond b read (Err (refused LongText 0))) (λ r. length t ≤ text_max ⊎ (number_of r.fault ≡ 1))
      go true e = short (leb-true (length t) text_max e) read
      go false e = inr refl

  module _ (r : Refusal) (e : read_overlay t ≡ Err r) where
    -- 1 and 6 come with line 0, 2 to 5 and 17 with the overlay's line, counted from 1
    pub overlay_lined : Lined t r
    overlay_lined = rw e at all-lined

    overlay-line : r.line ≤ text_max + 1
    overlay-line = (lined_most t r overlay_lined (overlay-number t r e) (rw e at long-line)).1

-- the number of a pair's refusal: a text's or 15
abbrev pub PairNumber : ℕ → Type 0
PairNumber n = TextNumber n ⊎ (n ≡ 15)

-- its number is 1 to 6, 17 or 15, and its line at most as many as a text may have
pub pair_told : (base overlay : List ℕ) (r : PairRefusal) → read_pair base overlay ≡ Err r
    → PairNumber (number_of r.refusal.fault) × (r.refusal.line ≤ text_max + 1)
unfolding read_pair pair_of joined
pair_told base overlay r h = go (read_soc base) refl (read_overlay overlay) refl h
  where
    Told : PairRefusal → Type 0
    Told q = PairNumber (number_of q.refusal.fault) × (q.refusal.line ≤ text_max + 1)

    told : (q : Refusal) (m : Meant) → refused_pair {A = PairRead} q m ≡ Err r → PairNumber (number_of q.fault) → q.line ≤ text_max + 1 → Told r
    told q m e n l = let i : record { refusal = q; meant = m } ≡ r = cc in subst Told i (n, l)

    other : (s : Soc) (v : Overlay) (t : Bool)
        → cond {A = Result PairRead PairRefusal} t (Ok (record { soc = combined s v; has = v.has })) (refused_pair (refused OtherBase 0) meant.Overlay) ≡ Err r → Told r
    other s v true h = clash cc
    other s v false h = told (refused OtherBase 0) meant.Overlay h (inr refl) (omega arith)

    go : (b : Result Soc Refusal) → read_soc base ≡ b → (o : Result Overlay Refusal) → read_overlay overlay ≡ o → pair_of b o ≡ Err r → Told r
    go (Err q) e o f h = told q meant.Base h (inl (refused-number base q e)) (refused-line-most base q e).1
    go (Ok s) e (Err q) f h = told q meant.Overlay h (inl (overlay-number overlay q f)) (overlay-line overlay q f)
    go (Ok s) e (Ok v) f h = other s v (fits s v) h
