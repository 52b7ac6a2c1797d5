-- When a pair is accepted, and what its combined description is then: one that is good, whose arrays have their lengths, and that written and read
-- again is the same record. Assumes nothing.
use Prim.Native.Nat.{ℕ}
use mathlib.Core.Path.{◌≡◌, refl, ap, ◌∙◌}
use mathlib.Core.Bool.{Bool, true, false, cond}
use mathlib.Core.List.{List}
use Rattle.units.specs.declared.Fault.TheVariants.{OtherBase}
use Rattle.std.specs.Prelude.{Result, Ok, Err}
use Rattle.units.specs.Refusals.{refused}
use Rattle.units.specs.declared.Refusal.{Refusal}
use Rattle.units.proofs.TestLaws.{clash}
use Rattle.soc.specs.Rules.{good_soc}
use Rattle.soc.specs.Sized.{Sized}
use Rattle.soc.specs.declared.record.Soc.{Soc}
use Rattle.text_reader.specs.Reading.{read_soc}
use Rattle.text_writer.specs.WrittenSoc.{written_soc}
use Rattle.text.proofs.Acceptance.{accepted-good, accepted-sized}
use Rattle.text.proofs.TextLaws.{round_trip}
use Rattle.overlay.specs.Overlay.{read_overlay}
use Rattle.overlay.specs.declared.read.Overlay.{Overlay}
use Rattle.pair.specs.Pair.{fits, combined, refused_pair, joined, pair_of, read_pair}
use Rattle.pair.specs.declared.read.Meant.TheVariants as meant
use Rattle.pair.specs.declared.read.PairRead.{PairRead}
use Rattle.late_changes.proofs.GoodOverlay.{read-good}
use Rattle.late_changes.proofs.GoodPair.{combined-good}
use Rattle.late_changes.proofs.SizedPair.{combined-sized}

-- the answer to a base and an overlay that fits: the combined description, and which modules are the overlay's
abbrev pub pair_with : Soc → Overlay → PairRead
pair_with s o = record { soc = combined s o; has = o.has }

-- both texts are accepted and the overlay fits; the answer p is what they make together
pub record Accepted (base overlay : List ℕ) (p : PairRead) : Type 0 where
  pub under : Soc
  pub over : Overlay
  pub base_is : read_soc base ≡ Ok under
  pub overlay_is : read_overlay overlay ≡ Ok over
  pub fit : fits under over ≡ true
  pub is : p ≡ pair_with under over

joined_only : (s : Soc) (o : Overlay) (p : PairRead) → joined s o ≡ Ok p → (fits s o ≡ true) × (p ≡ pair_with s o)
unfolding joined
joined_only s o p h = go (fits s o) h
  where
    go : (t : Bool) → cond t (Ok (pair_with s o)) (refused_pair (refused OtherBase 0) meant.Overlay) ≡ Ok p → (t ≡ true) × (p ≡ pair_with s o)
    go true h = (refl, cc)
    go false h = clash cc

-- it is accepted only so
pub pair_only : (base overlay : List ℕ) (p : PairRead) → read_pair base overlay ≡ Ok p → Accepted base overlay p
unfolding read_pair pair_of
pair_only base overlay p h = go (read_soc base) refl (read_overlay overlay) refl h
  where
    go : (b : Result Soc Refusal) → read_soc base ≡ b → (o : Result Overlay Refusal) → read_overlay overlay ≡ o → pair_of b o ≡ Ok p
        → Accepted base overlay p
    go (Err r) e o f h = clash cc
    go (Ok s) e (Err r) f h = clash cc
    go (Ok s) e (Ok v) f h =
        let j = joined_only s v p h in
        record { under = s; over = v; base_is = e; overlay_is = f; fit = j.0; is = j.1 }

module _ (base overlay : List ℕ) (p : PairRead) (h : read_pair base overlay ≡ Ok p) where
  pub pair-sized : Sized p.soc
  pair-sized =
      let a = pair_only base overlay p h in
      let s = a.under in
      let z = combined-sized s a.over (accepted-sized base s a.base_is) (accepted-good base s a.base_is) a.fit (read-good overlay a.over a.overlay_is) in
      rw (ap (λ (q : PairRead). q.soc) a.is) z

  pub pair-good : good_soc p.soc ≡ true
  pair-good =
      let a = pair_only base overlay p h in
      let s = a.under in
      ap (λ (q : PairRead). good_soc q.soc) a.is ∙ combined-good s a.over (accepted-good base s a.base_is) a.fit (read-good overlay a.over a.overlay_is)

  -- the combined description, written and read again, is the same record
  pub pair_rewritten : read_soc (written_soc p.soc) ≡ Ok p.soc
  pair_rewritten = round_trip p.soc pair-sized pair-good
