-- Laws of the relation between overlays and texts: a text describes at most one overlay, whether it keeps the limits or not. Assumes
-- nothing.
use Prim.Native.Nat.{ℕ, ◌≤◌}
use native.Mathlib.Omega.{arith}
use mathlib.Core.Path.{◌≡◌, refl, sym, ap, ap₂, subst, ◌∙◌}
use mathlib.Core.Bool.{Bool, true, false}
use mathlib.Core.List.{List, [], ◌∷◌, ◌++◌}
use lib.ListN.{length, get_or, drop}
use Rattle.units.specs.Places.{all_of}
use Rattle.units.proofs.TestLaws.{clash, and_both}
use Rattle.fields.specs.Bytes.{bytes}
use Rattle.soc.specs.Limits.{modules_max}
use Rattle.soc.specs.Rules.{spare_test, spare_module}
use Rattle.soc.specs.Sized.{Sized}
use Rattle.soc.specs.declared.record.Module.{Module}
use Rattle.text_lines.specs.LineFields.{name_fields, options_fields, level_fields}
use Rattle.text.specs.Describes.{spare_in, Spare, field_lines}
use Rattle.text.proofs.Once.{decimal_once, module_once, options_once, name_once}
use Rattle.text.proofs.SparePlaces.{AllSized, sized-first, sized-rest}
use Rattle.overlay.specs.declared.read.Overlay.{Overlay}
use Rattle.late_changes.specs.DescribesOverlay.{head_of, overlay_fields, BlocksLines, DescribesOverlay}
use Rattle.late_changes.specs.OverlayRules.{SizedOverlay}
use Rattle.late_changes.proofs.BlockPlaces.{spare-sized}
use Rattle.late_changes.proofs.OverlayReadLaws.{sized-places}

-- the first line of blocks from m on is not that of a module before m
level-number : (m k : ℕ) (d e : Module) → level_fields m d ≡ level_fields k e → m ≡ k
unfolding level_fields
level-number m k d e h = decimal_once m k (ap (λ fs. get_or fs 1 []) h)

first-number : {power xy : Bool} {m : ℕ} {hs : List Bool} {ds : List Module} {ls : List (List (List ℕ))} → BlocksLines power xy m hs ds ls
    → (k : ℕ) (e : Module) (ks : List (List (List ℕ))) → ls ≡ level_fields k e ∷ ks
    → m ≤ k
first-number BlocksLines.none k e ks h = clash cc
first-number (BlocksLines.block {m} {d} {hs} {ds} {ls} {ms} l r) k e ks h =
    let i = l.lines_are in
    let j : level_fields m d ≡ level_fields k e = cc in
    omega (arith, level-number m k d e j)
first-number (BlocksLines.spare {m} {d} {hs} {ds} {ls} z r) k e ks h = let i = first-number r k e ks h in omega arith

-- as many places from the same lines are equal
record PlacesOnce (hs is : List Bool) (ds es : List Module) : Type 0 where
  has : hs ≡ is
  modules : ds ≡ es

blocks_once : {power xy : Bool} {m : ℕ} {hs is : List Bool} {ds es : List Module} {ls ks : List (List (List ℕ))}
    → BlocksLines power xy m hs ds ls
    → BlocksLines power xy m is es ks
    → length hs ≡ length is → AllSized ds → AllSized es → all_of spare_in ds ≡ true → all_of spare_in es ≡ true → ls ≡ ks
    → PlacesOnce hs is ds es
unfolding all_of
blocks_once BlocksLines.none BlocksLines.none n y z p q h = record { has = refl; modules = refl }
blocks_once BlocksLines.none (BlocksLines.block l r) n y z p q h = absurd (omega arith)
blocks_once BlocksLines.none (BlocksLines.spare e r) n y z p q h = absurd (omega arith)
blocks_once (BlocksLines.block l r) BlocksLines.none n y z p q h = absurd (omega arith)
blocks_once (BlocksLines.spare e r) BlocksLines.none n y z p q h = absurd (omega arith)
blocks_once {power = v} {xy = w} (BlocksLines.block {m} {d} {ds = ds} l r) (BlocksLines.block {d = e} {ds = es} k s) n y z p q h =
    let a = and_both (spare_in d) (all_of spare_in ds) p in
    let b = and_both (spare_in e) (all_of spare_in es) q in
    let c = module_once d e (sized-first d ds y) (sized-first e es z) a.0 b.0 v w m _ _ l k _ _ h in
    let t = blocks_once r s (omega arith) (sized-rest d ds y) (sized-rest e es z) a.1 b.1 c.1 in
    record { has = ap (λ x. true ∷ x) t.has; modules = ap₂ ◌∷◌ c.0 t.modules }
blocks_once (BlocksLines.block {m} {d} {hs} {ds} {ls} {ms} l r) (BlocksLines.spare {d = e} {hs = is} {ds = es} {ls = ks} i s) n y z p q h =
    let j = l.lines_are in
    let f : ks ≡ level_fields m d ∷ (l.position ++ _ ∷ l.tests) ++ ms = sym h ∙ ap (λ x. x ++ ms) j in
    absurd (omega (arith, first-number s m d _ f))
blocks_once (BlocksLines.spare {m} {d} {hs} {ds} {ls} i r) (BlocksLines.block {d = e} {ms = ns} l s) n y z p q h =
    let j = l.lines_are in
    let f : ls ≡ level_fields m e ∷ (l.position ++ _ ∷ l.tests) ++ ns = h ∙ ap (λ x. x ++ ns) j in
    absurd (omega (arith, first-number r m e _ f))
blocks_once (BlocksLines.spare {m} {d} {hs} {ds} {ls} i r) (BlocksLines.spare {d = e} {hs = is} {ds = es} {ls = ks} j s) n y z p q h =
    let a = and_both (spare_in d) (all_of spare_in ds) p in
    let b = and_both (spare_in e) (all_of spare_in es) q in
    let t = blocks_once r s (omega arith) (sized-rest d ds y) (sized-rest e es z) a.1 b.1 h in
    record { has = ap (λ x. false ∷ x) t.has; modules = ap₂ ◌∷◌ (i ∙ sym j) t.modules }

-- the line with the name
head_sized : (v : Overlay) → SizedOverlay v → Sized (head_of v)
head_sized v z = record { name = z.name; modules = refl; each = λ i h. spare-sized modules_max i }

head_spare : (v : Overlay) (ls : List (List (List ℕ))) → DescribesOverlay v ls → Spare (head_of v)
unfolding spare_module spare_test all_of
head_spare v ls d = record { room = d.room; name = d.name_spare; modules = refl; within = refl }

head_once : (v w : Overlay) → overlay_fields v ≡ overlay_fields w → name_fields (head_of v) ≡ name_fields (head_of w)
unfolding overlay_fields name_fields
head_once v w e = ap (λ fs. bytes "SocName" ∷ drop 1 fs) e

pub overlay-lines_once : (ls : List (List (List ℕ))) (v w : Overlay) → SizedOverlay v → SizedOverlay w → DescribesOverlay v ls
    → DescribesOverlay w ls → v ≡ w
overlay-lines_once ls v w y z p q =
    let e = sym p.lines_are ∙ q.lines_are in
    let f : overlay_fields v ≡ overlay_fields w = cc in
    let g : options_fields (head_of v) ≡ options_fields (head_of w) = cc in
    let k : p.blocks ≡ q.blocks = cc in
    let n = head_once v w f in
    let name = name_once (head_of v) (head_of w) (head_sized v y) (head_sized w z) (head_spare v ls p) (head_spare w ls q) n in
    let o = options_once (head_of v) (head_of w) g in
    let c = subst (λ x. BlocksLines x v.xy 0 v.has v.modules p.blocks) o.0 p.blocks_are in
    let a = subst (λ x. BlocksLines w.power x 0 v.has v.modules p.blocks) o.1 c in
    let b = blocks_once a q.blocks_are (y.has ∙ sym z.has) (sized-places v y) (sized-places w z) p.within q.within k in
    λ i. record {
      name_len = name.0 i;
      name = name.1 i;
      power = o.0 i;
      xy = o.1 i;
      has = b.has i;
      modules = b.modules i;
    }

-- a text describes one overlay at most
pub overlay_described_once : (t : List ℕ) (v w : Overlay) → SizedOverlay v → SizedOverlay w → DescribesOverlay v (field_lines t)
    → DescribesOverlay w (field_lines t) → v ≡ w
overlay_described_once t = overlay-lines_once (field_lines t)
