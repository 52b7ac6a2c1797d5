-- The answer on the lines of a module of a pair taken apart: its refusal, its line and the text that is meant; or the two places and the
-- text that they are places of. Assumes nothing.
use Prim.Native.Nat.{ℕ, ◌+◌, ◌*◌, ◌/◌, ◌%◌, ◌<◌, ◌≤◌}
use mathlib.Core.Path.{◌≡◌, refl, sym}
use mathlib.Core.Bool.{Bool, true, false, cond}
use mathlib.Core.List.{List}
use native.Mathlib.Omega.{arith}
use borrow.Author.Tests.{leb-true}
use lib.Dec.{leb, ltb}
use lib.ListN.{length, get_or}
use Rattle.std.specs.Prelude.{Result, Ok, Err, ⊤}
use Rattle.units.specs.Refusals.{number_of, refused}
use Rattle.units.specs.declared.Fault.TheVariants.{LongText, NotThere}
use Rattle.units.specs.declared.Refusal.{Refusal}
use Rattle.units.proofs.TestLaws.{clash}
use Rattle.soc.specs.Limits.{text_max}
use Rattle.text_reader.specs.Reading as socread
use Rattle.overlay.specs.Overlay as overlayread
use Rattle.overlay.specs.declared.read.Overlay.{Overlay}
use Rattle.soc.specs.declared.record.Soc.{Soc}
use Rattle.pair.specs.Pair.{read_pair}
use Rattle.pair.specs.Shown.{shown_in, shown_of, lines_shown}
use Rattle.pair.specs.declared.read.Meant.TheVariants as meant
use Rattle.pair.specs.declared.read.PairRead.{PairRead}
use Rattle.pair.specs.declared.read.PairRefusal.{PairRefusal}
use Rattle.pair.specs.declared.shown.Shown.{Shown}
use Rattle.pair.proofs.ShownLaws.{lines_lie}
use Rattle.late_changes.proofs.PairOnly.{pair_only}
use Rattle.pair_entries.proofs.EntryLaws.{Told}
use Rattle.pair_entries.proofs.PairEntries.{told_number}
use Rattle.c_interface.specs.Codes.{above_max, part_figure, places_of, module_lines_code}
use Rattle.c_interface.specs.Apart.{PairSays, PlacesSay}
use Rattle.c_interface.proofs.PairApart.{figure-says}

-- a text that is accepted has no more bytes than a text may have
short : {A : Type 0} (t : List ℕ) (read : Result A Refusal) {a : A} → cond (leb (length t) text_max) read (Err (refused LongText 0)) ≡ Ok a
    → length t ≤ text_max
short {A} t read {a} h = go (leb (length t) text_max) refl h
  where
    go : (b : Bool) → leb (length t) text_max ≡ b → cond b read (Err (refused LongText 0)) ≡ Ok a → length t ≤ text_max
    go true e h = leb-true (length t) text_max e
    go false e h = clash cc

base_short : (t : List ℕ) {s : Soc} → socread.read_soc t ≡ Ok s → length t ≤ text_max
unfolding socread.read_soc
base_short t h = short t _ h

overlay-short : (t : List ℕ) {o : Overlay} → overlayread.read_overlay t ≡ Ok o → length t ≤ text_max
unfolding overlayread.read_overlay
overlay-short t h = short t _ h

-- the three parts of the figure
module _ (from to k : ℕ) (low : from < 65536) (high : to < 65536) (bit : k ≤ 1) where
  half : (131072 * (from % 65536) + 2 * (to % 65536) + k) / 2 ≡ 65536 * from + to
  half = omega arith

  lowest : (131072 * (from % 65536) + 2 * (to % 65536) + k) % 2 ≡ k
  lowest = omega (arith, half)

  highest : (131072 * (from % 65536) + 2 * (to % 65536) + k) / 131072 ≡ from
  highest = omega arith

  middle : ((131072 * (from % 65536) + 2 * (to % 65536) + k) / 2) % 65536 ≡ to
  middle = rw half (omega arith)

module _ (base overlay : List ℕ) (m : ℕ) where
  shown_told : Told (λ s. ⊤) (lines_shown base overlay m)
  unfolding lines_shown shown_of
  shown_told = go (read_pair base overlay) (told_number base overlay)
    where
      there : (t : Bool) (s : Shown) → Told (λ s. ⊤) (cond t (Ok s) (Err (record { refusal = refused NotThere 0; meant = meant.Neither })))
      there true s = tt
      there false s = (omega arith, omega arith)

      go : (p : Result PairRead PairRefusal)
          → ((r : PairRefusal) → p ≡ Err r → (number_of r.refusal.fault ≤ 17) × (r.refusal.line ≤ text_max + 1))
          → Told (λ s. ⊤) (shown_of p base overlay m)
      go (Ok p) h = there (ltb m p.soc.module_count) (shown_in base overlay m (get_or p.has m false))
      go (Err r) h = h r refl

  figure-most : (s : Shown) → ⊤ → places_of s < above_max
  unfolding part_figure
  figure-most s _ = most s.over
    where
      most : (t : Bool) → 131072 * (s.part.from % 65536) + 2 * (s.part.to % 65536) + cond t 1 0 < above_max
      most true = omega arith
      most false = omega arith

  pub lines-say : PairSays (module_lines_code base overlay m) places_of (lines_shown base overlay m)
  lines-say = figure-says (λ s. ⊤) places_of figure-most (lines_shown base overlay m) shown_told

  shown_read : {s : Shown} → lines_shown base overlay m ≡ Ok s → (p : PairRead) × (read_pair base overlay ≡ Ok p)
  unfolding lines_shown shown_of
  shown_read {s} h = go (read_pair base overlay) refl h
    where
      go : (p : Result PairRead PairRefusal) → read_pair base overlay ≡ p → shown_of p base overlay m ≡ Ok s
          → (q : PairRead) × (read_pair base overlay ≡ Ok q)
      go (Ok p) e h = (p, e)
      go (Err r) e h = clash cc

  pub places_say : {s : Shown} → lines_shown base overlay m ≡ Ok s → PlacesSay (places_of s) s
  unfolding part_figure
  places_say {s} h = at s.over refl
    where
      small : (t : Bool) → s.over ≡ t → (s.part.from ≤ s.part.to) × (s.part.to ≤ text_max)
      small true k =
          let b = (lines_lie base overlay m s (sym h)).over k in
          let l = overlay-short overlay (pair_only base overlay (shown_read h).0 (shown_read h).1).overlay_is in
          (b.order, omega (arith, b.end, l))
      small false k =
          let b = (lines_lie base overlay m s (sym h)).under k in
          let l = base_short base (pair_only base overlay (shown_read h).0 (shown_read h).1).base_is in
          (b.order, omega (arith, b.end, l))

      at : (t : Bool) → s.over ≡ t → PlacesSay (131072 * (s.part.from % 65536) + 2 * (s.part.to % 65536) + cond s.over 1 0) s
      at true k =
          let b = small true k in
          let low : s.part.from < 65536 = omega (arith, b) in
          let high : s.part.to < 65536 = omega (arith, b) in
          record {
            from = rw k (highest s.part.from s.part.to 1 low high (omega arith));
            to = rw k (middle s.part.from s.part.to 1 low high (omega arith));
            over = rw k (lowest s.part.from s.part.to 1 low high (omega arith));
          }
      at false k =
          let b = small false k in
          let low : s.part.from < 65536 = omega (arith, b) in
          let high : s.part.to < 65536 = omega (arith, b) in
          record {
            from = rw k (highest s.part.from s.part.to 0 low high (omega arith));
            to = rw k (middle s.part.from s.part.to 0 low high (omega arith));
            over = rw k (lowest s.part.from s.part.to 0 low high (omega arith));
          }
