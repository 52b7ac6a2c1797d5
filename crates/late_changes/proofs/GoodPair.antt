-- The combined description of a pair that is accepted is good, so that whatever takes a record takes it. Assumes nothing.
use Prim.Native.Nat.{◌+◌}
use native.Mathlib.Omega.{arith}
use mathlib.Core.Path.{◌≡◌, refl, sym, ap, ◌∙◌}
use mathlib.Core.Bool.{Bool, true, false, ◌&&◌}
use lib.Dec.{leb, eqb}
use lib.ListN.{take, drop}
use Rattle.units.specs.Places.{all_of}
use Rattle.units.proofs.TestLaws.{and_both, and_holds}
use Rattle.fields.specs.Bytes.{same_bytes}
use Rattle.soc.specs.Limits.{modules_max}
use Rattle.soc.specs.Rules.{good_name, good_modules, spare_module, good_soc}
use Rattle.soc.specs.declared.record.Soc.{Soc}
use Rattle.overlay.specs.declared.read.Overlay.{Overlay}
use Rattle.pair.specs.Pair.{same_flag, same_head, places_fit, fits, laid, combined}
use Rattle.late_changes.specs.Blocks.{GoodPlaces}
use Rattle.late_changes.proofs.Laid.{laid-good, laid-behind}

pub same_flag_lem : (a b : Bool) → same_flag a b ≡ true → a ≡ b
same_flag_lem true true e = refl
same_flag_lem true false e = sym e
same_flag_lem false true e = e
same_flag_lem false false e = refl

-- what an overlay that fits says of its options and its places
pub head_options : (s : Soc) (o : Overlay) → same_head s o ≡ true → (s.power ≡ o.power) × (s.xy ≡ o.xy)
unfolding same_head
head_options s o h =
    let f = same_flag s.power o.power && same_flag s.xy o.xy in
    let n = and_both (eqb s.name_len o.name_len) (same_bytes s.name o.name && f) h in
    let b = and_both (same_bytes s.name o.name) f n.1 in
    let c = and_both (same_flag s.power o.power) (same_flag s.xy o.xy) b.1 in
    (same_flag_lem s.power o.power c.0, same_flag_lem s.xy o.xy c.1)

pub combined-good : (s : Soc) (o : Overlay) → good_soc s ≡ true → fits s o ≡ true → GoodPlaces o.power o.xy o.has o.modules → good_soc (combined s o) ≡ true
unfolding fits good_soc good_name combined
combined-good s o g f p =
    let n = s.module_count in
    let ms = good_modules s.power s.xy 0 0 (take n s.modules) in
    let sp = all_of spare_module (drop n s.modules) in
    let a = and_both (good_name s) (leb 1 n && (leb n modules_max && (ms && sp))) g in
    let b = and_both (leb 1 n) (leb n modules_max && (ms && sp)) a.1 in
    let c = and_both (leb n modules_max) (ms && sp) b.1 in
    let d = and_both ms sp c.1 in
    let h = and_both (same_head s o) (places_fit n 0 o.has o.modules s.modules) f in
    let e = head_options s o h.0 in
    let q : GoodPlaces s.power s.xy o.has o.modules = rw (e.0, e.1) p in
    let u = laid-good s.power s.xy n n 0 0 o.has o.modules s.modules d.0 h.1 (λ i t. let z : 0 + i ≡ i = omega arith in rw z (q.each i t)) in
    let v : all_of spare_module (drop n (laid o.has o.modules s.modules)) ≡ true = ap (all_of spare_module) (laid-behind n n 0 o.has o.modules s.modules (omega arith) h.1) ∙ d.1 in
    and_holds a.0 (and_holds b.0 (and_holds c.0 (and_holds u v)))
