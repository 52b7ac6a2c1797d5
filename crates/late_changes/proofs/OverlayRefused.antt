-- What an overlay is refused for has a number from 1 to 6, or 17, so 15 says that both texts are accepted and do not fit. Assumes nothing.
use Prim.Native.Nat.{ℕ, zero, suc, ◌-◌}
use native.Mathlib.Omega.{arith}
use mathlib.Core.Path.{◌≡◌, refl, ap, subst, ◌∙◌}
use mathlib.Core.Bool.{Bool, true, false, cond}
use mathlib.Core.List.{List, [], ◌∷◌}
use mathlib.Core.Logic.{inl, inr}
use lib.Dec.{leb}
use lib.ListN.{length}
use Rattle.units.specs.declared.Fault.{Fault}
use Rattle.units.specs.declared.Fault.TheVariants.{LongText, ForbiddenByte, OtherBase}
use Rattle.pair.specs.declared.read.PairRefusal.{PairRefusal}
use Rattle.std.specs.Prelude.{Option, None, Some, Result, Ok, Err}
use Rattle.overlay.specs.declared.block.Block.{Block}
use Rattle.units.specs.Refusals.{number_of, refused}
use Rattle.units.specs.declared.Refusal.{Refusal}
use Rattle.units.proofs.TestLaws.{clash}
use Rattle.fields.specs.Bytes.{bytes, bad_byte}
use Rattle.fields.specs.Lines.{Line, lines_from}
use Rattle.fields.specs.Readers.{no, got}
use Rattle.soc.specs.Limits.{text_max, modules_max, level_max}
use Rattle.text_lines.specs.Parts.{whole}
use Rattle.text_lines.specs.Kinds.{overlay_line, name_part, options_line, block_number, block_shape, block_line}
use Rattle.text_lines.specs.declared.head.Options.{Options}
use Rattle.text_reader.specs.Lines.{LinesRead}
use Rattle.soc.specs.declared.record.Soc.{Soc}
use Rattle.text_reader.specs.Reading.{read_soc}
use Rattle.text.specs.Numbers.{TextNumber}
use Rattle.text.proofs.Acceptance.{refused-number}
use Rattle.text.proofs.LineRefuses.{LineNumber, FairReader, fair_got, fair_closed, fair_bind, fair_then, fair_word, fair_name, fair_rule, fair_keyed, fair_terminals, fair_chains, options_refuses}
use Rattle.text.proofs.Refused.{none, more, going, AlikeReader, alike_bind, alike_give, alike_line, alike_module_rest, alike_refuses, same_self, refuses-text}
use Rattle.overlay.specs.Overlay.{block, goes_on, to_end, blocks, blocks_max, places, with_blocks, behind_name, overlay, answer, unless_bad, read_overlay}
use Rattle.overlay.specs.declared.read.Overlay.{Overlay}
use Rattle.pair.specs.Pair.{fits, combined, refused_pair, joined, pair_of, read_pair}
use Rattle.pair.specs.declared.read.Meant.{Meant}
use Rattle.pair.specs.declared.read.Meant.TheVariants as meant
use Rattle.pair.specs.declared.read.PairRead.{PairRead}

-- lines

overlay-line-refuses : (fs : List (List ℕ)) (c : Fault) → whole overlay_line fs ≡ Err c → LineNumber (number_of c)
unfolding overlay_line name_part
overlay-line-refuses fs = fair_closed (overlay_line fs) (fair_then (fair_word (bytes "Overlay")) (fair_bind fair_name (λ f. fair_got _)) fs)

fair_number : (low : ℕ) → FairReader (block_number low)
unfolding block_number
fair_number low = fair_bind (fair_keyed (bytes "Module") 0 (modules_max - 1)) (λ m. fair_then (fair_rule (leb low m)) (fair_got m))

fair_shape : FairReader block_shape
unfolding block_shape
fair_shape = fair_bind (fair_keyed (bytes "Level") 0 level_max) (λ v. fair_bind fair_terminals (λ t. fair_chains v t))

block-line-refuses : (low : ℕ) (fs : List (List ℕ)) (c : Fault) → whole (block_line low) fs ≡ Err c → LineNumber (number_of c)
unfolding block_line
block-line-refuses low fs = fair_closed (block_line low fs) (fair_bind (fair_number low) (λ m. fair_bind fair_shape (λ s. fair_got _)) fs)

-- readings

module _ (R : ℕ → ℕ → Type 0) where
  alike_block : (o : Options) (low : ℕ) → AlikeReader R (block o low)
  unfolding block
  alike_block o low = alike_bind R (alike_line R (block_line low) (block-line-refuses low)) (λ b. alike_bind R (alike_module_rest R o b.number b.shape) (λ d. alike_give R _))

  alike_end : {p : List Line → LinesRead (List Block)} → AlikeReader R p → AlikeReader R (to_end p)
  unfolding goes_on
  alike_end f [] [] none = going none
  alike_end f [] (m ∷ ms) s = elim s [ ]
  alike_end f (l ∷ ls) [] s = elim s [ ]
  alike_end f (l ∷ ls) (m ∷ ms) (more r e s) = f (l ∷ ls) (m ∷ ms) (more r e s)

  alike_blocks : (o : Options) (n low : ℕ) → AlikeReader R (blocks o n low)
  unfolding blocks
  alike_blocks o zero low = alike_give R []
  alike_blocks o (suc n) low = alike_bind R (alike_block o low) (λ b. alike_bind R (alike_end (alike_blocks o n (suc b.number))) (λ bs. alike_give R (b ∷ bs)))

  pub alike_overlay : AlikeReader R overlay
  unfolding overlay behind_name with_blocks places
  alike_overlay =
      alike_bind R (alike_line R overlay_line overlay-line-refuses)
      (λ name. alike_bind R (alike_line R options_line options_refuses) (λ o. alike_bind R (alike_bind R (alike_blocks o blocks_max 0) (λ bs. alike_give R _)) (λ p. alike_give R _)))

pub overlay-refuses : (ls : List Line) (r : Refusal) → overlay ls ≡ no r → TextNumber (number_of r.fault)
overlay-refuses ls r h =
    let k = alike_refuses (λ n. Unit {0}) (alike_overlay (λ i j. Unit {0}) ls ls (same_self (λ n. Unit {0}) ls (λ n. tt))) r h in
    refuses-text (number_of r.fault) k.numbers

-- a refusal's number is from 1 to 6, or 17
pub overlay-number : (t : List ℕ) (r : Refusal) → read_overlay t ≡ Err r → TextNumber (number_of r.fault)
unfolding read_overlay unless_bad answer
overlay-number t r h = go (leb (length t) text_max) (bad_byte 1 t) (overlay (lines_from 1 t 0)) refl h
  where
    -- one that is said before a line is read
    early : (q : Refusal) → q ≡ r → TextNumber (number_of q.fault) → TextNumber (number_of r.fault)
    early q i n = subst (λ x. TextNumber (number_of x.fault)) i n

    go : (u : Bool) (b : Option ℕ) (g : LinesRead Overlay) → overlay (lines_from 1 t 0) ≡ g
        → cond u (unless_bad b (answer g)) (Err (refused LongText 0)) ≡ Err r → TextNumber (number_of r.fault)
    go true None (got v ls) e a = clash cc
    go true None (no q) e a = early q (cc) (overlay-refuses (lines_from 1 t 0) q e)
    go true (Some n) g e a = early (refused ForbiddenByte n) (cc) (inl (omega arith, omega arith))
    go false b g e a = early (refused LongText 0) (cc) (inl (omega arith, omega arith))

not_fifteen : (n : ℕ) → TextNumber n → n ≡ 15 → ⊥
not_fifteen n (inl k) h = omega (arith, k.1, h)
not_fifteen n (inr e) h = omega (arith, e, h)

-- both texts are accepted and do not fit
pub record Unfit (base overlay : List ℕ) : Type 0 where
  pub under : Soc
  pub over : Overlay
  pub base_is : read_soc base ≡ Ok under
  pub overlay_is : read_overlay overlay ≡ Ok over
  pub unfit : fits under over ≡ false

-- 15 is said only there
pub pair_fifteen : (base overlay : List ℕ) (r : PairRefusal) → read_pair base overlay ≡ Err r → number_of r.refusal.fault ≡ 15 → Unfit base overlay
unfolding read_pair pair_of joined
pair_fifteen base overlay r h n = go (read_soc base) refl (read_overlay overlay) refl h
  where
    none : (q : Refusal) (m : Meant) → refused_pair {A = PairRead} q m ≡ Err r → TextNumber (number_of q.fault) → ⊥
    none q m e k =
        let i : record { refusal = q; meant = m } ≡ r = cc in
        not_fifteen (number_of q.fault) k (ap (λ (x : PairRefusal). number_of x.refusal.fault) i ∙ n)

    other : (s : Soc) (v : Overlay) (t : Bool) → fits s v ≡ t
        → cond {A = Result PairRead PairRefusal} t (Ok (record { soc = combined s v; has = v.has })) (refused_pair (refused OtherBase 0) meant.Overlay) ≡ Err r → fits s v ≡ false
    other s v true g h = clash cc
    other s v false g h = g

    go : (b : Result Soc Refusal) → read_soc base ≡ b → (o : Result Overlay Refusal) → read_overlay overlay ≡ o → pair_of b o ≡ Err r
        → Unfit base overlay
    go (Err q) e o f h = absurd (none q meant.Base h (refused-number base q e))
    go (Ok s) e (Err q) f h = absurd (none q meant.Overlay h (overlay-number overlay q f))
    go (Ok s) e (Ok v) f h = record { under = s; over = v; base_is = e; overlay_is = f; unfit = other s v (fits s v) refl h }
