-- Which texts are accepted as an overlay: exactly those that are short enough, have no bad byte, and describe an overlay that keeps the
-- limits. Assumes nothing.
use Prim.Native.Nat.{ℕ, ◌≤◌}
use native.Mathlib.Omega.{arith}
use mathlib.Core.Path.{◌≡◌, refl, sym, ◌∙◌}
use mathlib.Core.Bool.{Bool, true, false, cond}
use mathlib.Core.List.{List}
use mathlib.Core.Logic.{◌↔◌, ◌⊎◌, inl, inr}
use borrow.Author.Tests.{leb-true, le-leb}
use lib.Dec.{leb}
use lib.ListN.{length}
use Rattle.units.specs.declared.Fault.TheVariants.{LongText, ForbiddenByte}
use Rattle.std.specs.Prelude.{Option, None, Some, Result, Ok, Err}
use Rattle.units.specs.Refusals.{number_of, refused}
use Rattle.units.specs.declared.Refusal.{Refusal}
use Rattle.units.proofs.TestLaws.{clash}
use Rattle.fields.specs.Bytes.{bad_byte}
use Rattle.fields.specs.Lines.{lines_from}
use Rattle.fields.specs.Readers.{no, got}
use Rattle.soc.specs.Limits.{text_max}
use Rattle.text_reader.specs.Lines.{LinesRead}
use Rattle.text.specs.Describes.{field_lines}
use Rattle.text.specs.Numbers.{TextNumber}
use Rattle.overlay.specs.Overlay.{overlay, answer, unless_bad, read_overlay}
use Rattle.overlay.specs.declared.read.Overlay.{Overlay}
use Rattle.late_changes.specs.DescribesOverlay.{DescribesOverlay}
use Rattle.late_changes.specs.OverlayRules.{good_overlay, SizedOverlay}
use Rattle.late_changes.proofs.OverlayRefused.{overlay-refuses}
use Rattle.late_changes.proofs.OverlayReadLaws.{OverlayIs, overlay_only, reads_described}

-- the answer accepts t, for this overlay
abbrev Right : List ℕ → Result Overlay Refusal → Type 0
Right t a = (v : Overlay) × (a ≡ Ok v) × (length t ≤ text_max) × (bad_byte 1 t ≡ None) × OverlayIs v (lines_from 1 t 0)

-- the answer refuses, with this refusal
abbrev Wrong : Result Overlay Refusal → Type 0
Wrong a = (r : Refusal) × (a ≡ Err r) × TextNumber (number_of r.fault)

module _ (t : List ℕ) where
  lines_outcome : length t ≤ text_max → bad_byte 1 t ≡ None → (g : LinesRead Overlay) → overlay (lines_from 1 t 0) ≡ g
      → Right t (answer g) ⊎ Wrong (answer g)
  unfolding answer
  lines_outcome h k (no r) e =
      inr (r, refl, overlay-refuses (lines_from 1 t 0) r e)
  lines_outcome h k (got v ls) e = inl (v, refl, h, k, (overlay_only (lines_from 1 t 0) v ls e).0)

  bytes_outcome : length t ≤ text_max → (b : Option ℕ) → bad_byte 1 t ≡ b
      → Right t (unless_bad b (answer (overlay (lines_from 1 t 0)))) ⊎ Wrong (unless_bad b (answer (overlay (lines_from 1 t 0))))
  unfolding unless_bad
  bytes_outcome h (Some n) e = inr (refused ForbiddenByte n, refl, inl (omega arith, omega arith))
  bytes_outcome h None e = lines_outcome h e (overlay (lines_from 1 t 0)) refl

  outcome : Right t (read_overlay t) ⊎ Wrong (read_overlay t)
  unfolding read_overlay
  outcome = go (leb (length t) text_max) refl
    where
      read : Result Overlay Refusal
      read = unless_bad (bad_byte 1 t) (answer (overlay (lines_from 1 t 0)))

      go : (b : Bool) → leb (length t) text_max ≡ b
          → Right t (cond b read (Err (refused LongText 0))) ⊎ Wrong (cond b read (Err (refused LongText 0)))
      go true e = bytes_outcome (leb-true (length t) text_max e) (bad_byte 1 t) refl
      go false e = inr (refused LongText 0, refl, inl (omega arith, omega arith))

  -- it accepts, or it refuses with a number from 1 to 6, or with 17
  pub overlay_accepts_or_refuses : ((v : Overlay) × (read_overlay t ≡ Ok v))
      ⊎ ((r : Refusal) × (read_overlay t ≡ Err r) × TextNumber (number_of r.fault))
  overlay_accepts_or_refuses = go outcome
    where
      go : Right t (read_overlay t) ⊎ Wrong (read_overlay t) → ((v : Overlay) × (read_overlay t ≡ Ok v)) ⊎ Wrong (read_overlay t)
      go (inl (v, e, h, k, l)) = inl (v, e)
      go (inr w) = inr w

  module _ (v : Overlay) (a : read_overlay t ≡ Ok v) where
    accepted-is : (length t ≤ text_max) × (bad_byte 1 t ≡ None) × OverlayIs v (lines_from 1 t 0)
    accepted-is = go outcome
      where
        go : Right t (read_overlay t) ⊎ Wrong (read_overlay t)
            → (length t ≤ text_max) × (bad_byte 1 t ≡ None) × OverlayIs v (lines_from 1 t 0)
        go (inl (q, e, h, k, l)) =
            let o : Ok q ≡ Ok v = sym e ∙ a in
            let i : q ≡ v = cc in
            (h, k, rw i at l)
        go (inr (r, e, n)) = let o : Err r ≡ Ok v = sym e ∙ a in clash cc

    pub overlay-short : length t ≤ text_max
    overlay-short = accepted-is.0

    pub overlay-allowed : bad_byte 1 t ≡ None
    overlay-allowed = accepted-is.1

    pub overlay_described : DescribesOverlay v (field_lines t)
    overlay_described = accepted-is.2.described

    pub overlay-good : good_overlay v ≡ true
    overlay-good = accepted-is.2.good

    pub overlay-sized : SizedOverlay v
    overlay-sized = accepted-is.2.sized

pub describes_accepted : (t : List ℕ) (v : Overlay) → SizedOverlay v → length t ≤ text_max → bad_byte 1 t ≡ None
    → DescribesOverlay v (field_lines t)
    → good_overlay v ≡ true
    → read_overlay t ≡ Ok v
unfolding read_overlay unless_bad answer
describes_accepted t v z h b d g = simp (le-leb (length t) text_max h, b, reads_described v (lines_from 1 t 0) z g d)

-- a text is accepted with overlay v exactly when it has at most 61,440 bytes, all of them allowed, describes v, and v keeps the limits
pub overlay_exactly : (t : List ℕ) (v : Overlay) → SizedOverlay v
    → (read_overlay t ≡ Ok v)
    ↔ ((length t ≤ text_max) × (bad_byte 1 t ≡ None) × DescribesOverlay v (field_lines t) × (good_overlay v ≡ true))
overlay_exactly t v sized = (
  λ e. (overlay-short t v e, overlay-allowed t v e, overlay_described t v e, overlay-good t v e),
  λ d. describes_accepted t v sized d.0 d.1 d.2 d.3,
)
