-- The arrays of the combined description have their lengths; so, written and read again, it is the same record. Assumes nothing.
use Prim.Native.Nat.{ℕ, zero, suc, ◌+◌, ◌<◌}
use native.Mathlib.Omega.{arith}
use mathlib.Core.Path.{◌≡◌, refl, sym, ap, ◌∙◌}
use mathlib.Core.Bool.{Bool, true, false, cond, ◌&&◌}
use mathlib.Core.List.{List, [], ◌∷◌}
use lib.Dec.{leb}
use lib.ListN.{length, get_or, take, drop}
use lib.Seq.{get_or-take}
use Rattle.units.specs.Places.{all_of}
use Rattle.units.proofs.PlaceLaws.{front-has}
use Rattle.units.proofs.TestLaws.{and_both}
use Rattle.soc.specs.Limits.{modules_max}
use Rattle.soc.specs.Record.{no_module}
use Rattle.soc.specs.Rules.{level_rule, good_name, good_module, good_modules, spare_module, good_soc}
use Rattle.soc.specs.Sized.{SizedModule, Sized}
use Rattle.soc.specs.declared.record.Module.{Module}
use Rattle.soc.specs.declared.record.Soc.{Soc}
use Rattle.overlay.specs.declared.read.Overlay.{Overlay}
use Rattle.pair.specs.Pair.{same_head, places_fit, fits, laid, combined}
use Rattle.late_changes.specs.Blocks.{GoodPlaces}
use Rattle.late_changes.proofs.Laid.{rule_of, laid-length, laid-at}
use Rattle.late_changes.proofs.PairAnswers.{places_only}

-- each module of a text keeps the limits and rules behind some level
pub good-at : (power xy : Bool) (m last : ℕ) (ds : List Module) (i : ℕ) → good_modules power xy m last ds ≡ true → i < length ds
    → (l : ℕ) × (good_module power xy (m + i) l (get_or ds i no_module) ≡ true)
unfolding good_modules
good-at power xy m last [] i g h = absurd (omega arith)
good-at power xy m last (d ∷ ds) zero g h =
    let z : m + 0 ≡ m = omega arith in
    let a = and_both (good_module power xy m last d) (good_modules power xy (suc m) d.level ds) g in
    (last, ap (λ n. good_module power xy n last d) z ∙ a.0)
good-at power xy m last (d ∷ ds) (suc i) g h =
    let a = and_both (good_module power xy m last d) (good_modules power xy (suc m) d.level ds) g in
    let r = good-at power xy (suc m) d.level ds i a.1 (omega arith) in
    let z : m + suc i ≡ suc m + i = omega arith in
    (r.0, ap (λ n. good_module power xy n r.0 (get_or ds i no_module)) z ∙ r.1)

pub combined-sized : (s : Soc) (o : Overlay) → Sized s → good_soc s ≡ true → fits s o ≡ true → GoodPlaces o.power o.xy o.has o.modules → Sized (combined s o)
unfolding fits good_soc combined
combined-sized s o z g f p =
    record { name = z.name; modules = laid-length o.has o.modules s.modules ∙ z.modules; each = λ i h. placed i h (get_or o.has i false) refl }
  where
    n : ℕ
    n = s.module_count

    good : good_modules s.power s.xy 0 0 (take n s.modules) ≡ true
    good =
        let ms = good_modules s.power s.xy 0 0 (take n s.modules) in
        let sp = all_of spare_module (drop n s.modules) in
        let a = and_both (good_name s) (leb 1 n && (leb n modules_max && (ms && sp))) g in
        let b = and_both (leb 1 n) (leb n modules_max && (ms && sp)) a.1 in
        let c = and_both (leb n modules_max) (ms && sp) b.1 in
        (and_both ms sp c.1).0

    fit : places_fit n 0 o.has o.modules s.modules ≡ true
    fit = (and_both (same_head s o) (places_fit n 0 o.has o.modules s.modules) f).1

    over : (i : ℕ) → i < modules_max → get_or o.has i false ≡ true → SizedModule (get_or o.modules i no_module)
    over i h e =
        let q = places_only n 0 i o.has o.modules s.modules fit (omega (arith, h, p.modules_length)) (omega (arith, h, z.modules)) e in
        let k : i < n = omega (arith, q.0) in
        let t : i < length (take n s.modules) = front-has n s.modules i k (omega (arith, h, z.modules)) in
        let r = good-at s.power s.xy 0 0 (take n s.modules) i good t in
        let u : get_or (take n s.modules) i no_module ≡ get_or s.modules i no_module = get_or-take n s.modules i no_module k in
        let j : 0 + i ≡ i = omega arith in
        let v : level_rule i r.0 (get_or o.modules i no_module).level ≡ true =
        ap (level_rule i r.0) (q.1 ∙ ap (λ (d : Module). d.level) (sym u))
        ∙ ap (λ m. level_rule m r.0 (get_or (take n s.modules) i no_module).level) (sym j)
        ∙ rule_of s.power s.xy (0 + i) r.0 (get_or (take n s.modules) i no_module) r.1 in
        (p.each i e).sized r.0 v

    placed : (i : ℕ) → i < modules_max → (t : Bool) → get_or o.has i false ≡ t → SizedModule (get_or (laid o.has o.modules s.modules) i no_module)
    placed i h t e =
        let l = laid-at i o.has o.modules s.modules no_module (omega (arith, h, p.has_length)) (omega (arith, h, p.modules_length)) (omega (arith, h, z.modules)) in
        rw l (rw e (chosen t e))
      where
        chosen : (t : Bool) → get_or o.has i false ≡ t → SizedModule (cond t (get_or o.modules i no_module) (get_or s.modules i no_module))
        chosen true e = over i h e
        chosen false e = z.each i h
