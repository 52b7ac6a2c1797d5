-- Laws of the spare places of a good plan: they hold nothing, so that the places in use say the whole array. Assumes nothing.
use Prim.Native.Nat.{ℕ, ◌-◌, ◌≤◌}
use mathlib.Core.Path.{◌≡◌, refl}
use mathlib.Core.Bool.{Bool, true, ◌&&◌}
use mathlib.Core.List.{List, [], ◌∷◌}
use borrow.Author.Tests.{eqb-true}
use native.Mathlib.Omega.{arith}
use lib.ListN.{length, take, drop, replicate, length-drop, take-append-drop}
use lib.Dec.{eqb}
use lib.Seq.{length-take-le}
use Rattle.units.specs.Places.{padded, all_of}
use Rattle.units.proofs.TestLaws.{and_both}
use Rattle.plan_record.specs.Record.{bus_places, module_places, no_bus, no_placed, modules_of, buses_of}
use Rattle.plan_record.specs.declared.record.Bus.{Bus}
use Rattle.plan_record.specs.declared.record.PlacedModule.{PlacedModule}
use Rattle.plan_record.specs.declared.record.BusPlan.{BusPlan}
use Rattle.plan_record.specs.Good.{spare_bus, spare_placed, spare_rest, good_plan}
use Rattle.plan_record.specs.Whole.{Whole}
use Rattle.plan_record.proofs.GoodPlanLaws.{good_parts, good-figures}

module _ {A : Type 0} (spare : A → Bool) (z : A) (only : (x : A) → spare x ≡ true → x ≡ z) where
  all-is : (xs : List A) → all_of spare xs ≡ true → xs ≡ replicate (length xs) z
  unfolding all_of
  all-is [] e = refl
  all-is (x ∷ xs) e =
      let a = and_both (spare x) (all_of spare xs) e in
      let h : x ≡ z = only x a.0 in
      let t : xs ≡ replicate (length xs) z = all-is xs a.1 in
      cc

  spare-padded : (n : ℕ) (xs : List A) (k : ℕ) → length xs ≡ n → k ≤ n → all_of spare (drop k xs) ≡ true → padded n z (take k xs) ≡ xs
  unfolding padded
  spare-padded n xs k l h e =
      let m : length (take k xs) ≡ k = length-take-le k xs (omega arith) in
      let o : length (drop k xs) ≡ n - k = simp length-drop (rw l) in
      let d : drop k xs ≡ replicate (n - k) z = rw o at (all-is (drop k xs) e) in
      rw (m, ← d) (take-append-drop k xs)

-- a figure that is 0, and more tests behind it
zero_then : (n : ℕ) (b : Bool) → (eqb n 0 && b) ≡ true → (n ≡ 0) × (b ≡ true)
zero_then n b e = let a = and_both (eqb n 0) b e in (eqb-true n 0 a.0, a.1)

bus-spare : (x : Bus) → spare_bus x ≡ true → x ≡ no_bus
unfolding spare_bus
bus-spare x e =
    let w = zero_then x.width.0 (eqb x.busy.0 0) e in
    rw (w.0, eqb-true x.busy.0 0 w.1)

placed-spare : (x : PlacedModule) → spare_placed x ≡ true → x ≡ no_placed
unfolding spare_placed
placed-spare x e =
    let n = zero_then x.number (eqb x.bus 0 && (eqb x.wires.0 0 && (eqb x.cycles.0 0 && eqb x.start.0 0))) e in
    let b = zero_then x.bus (eqb x.wires.0 0 && (eqb x.cycles.0 0 && eqb x.start.0 0)) n.1 in
    let w = zero_then x.wires.0 (eqb x.cycles.0 0 && eqb x.start.0 0) b.1 in
    let c = zero_then x.cycles.0 (eqb x.start.0 0) w.1 in
    rw (n.0, b.0, w.0, c.0, eqb-true x.start.0 0 c.1)

pub spare_both : (p : BusPlan) → spare_rest p ≡ true
    → (all_of spare_bus (drop p.bus_count p.buses) ≡ true) × (all_of spare_placed (drop p.module_count p.modules) ≡ true)
unfolding spare_rest
spare_both p e = and_both _ _ e

module _ (p : BusPlan) (w : Whole p) (e : good_plan p ≡ true) where
  pub buses-spare : padded bus_places no_bus (buses_of p) ≡ p.buses
  buses-spare =
      let s = (spare_both p (good_parts p e).spare).0 in
      spare-padded spare_bus no_bus bus-spare bus_places p.buses p.bus_count w.buses (good-figures p e).buses_high s

  pub modules-spare : padded module_places no_placed (modules_of p) ≡ p.modules
  modules-spare =
      let s = (spare_both p (good_parts p e).spare).1 in
      let h = (good-figures p e).modules_high in
      spare-padded spare_placed no_placed placed-spare module_places p.modules p.module_count w.modules h s
