-- Laws of the records of a plan file, their bytes and back: a record that stands at a place is the one read there, and the bytes of the
-- records read are those that stand there. Assumes nothing.
use Prim.Native.Nat.{ℕ, zero, suc, ◌+◌, ◌*◌, ◌^◌, ◌≤◌, ◌<◌}
use mathlib.Core.Path.{◌≡◌, refl, ap, sym, ◌∙◌}
use mathlib.Core.Bool.{Bool, true}
use mathlib.Core.List.{List, [], ◌∷◌, ◌++◌}
use borrow.Author.Tests.{eqb-true, eq-eqb}
use native.Mathlib.Nat.{mul-suc}
use native.Mathlib.Omega.{arith}
use lib.ListN.{length, take, drop}
use lib.Seq.{get_or-drop}
use Rattle.units.specs.Places.{all_of}
use Rattle.units.proofs.TestLaws.{and_both, and_holds}
use Rattle.little_endian.specs.Little.{little, byte, number_at}
use Rattle.little_endian.specs.Rows.{each, rows}
use Rattle.little_endian.proofs.LittleLaws.{AreBytes, part-number, part_join}
use Rattle.little_endian.proofs.RowLaws.{rows-bytes}
use Rattle.little_endian.proofs.StandLaws.{Stands, stands_behind, number_stands, number-first, number_behind}
use Rattle.plan_record.specs.declared.record.Bus.{Bus}
use Rattle.plan_record.specs.declared.record.PlacedModule.{PlacedModule}
use Rattle.plan_file.specs.Bytes.{module_stride, bus_stride, module_bytes, bus_bytes}
use Rattle.plan_file.specs.Files.{module_at, bus_at, zero_module, zero_bus, zero_modules, zero_buses}

-- a byte of what stands at a place
pub byte_stands : {w b : List ℕ} {at : ℕ} (k : ℕ) (s : Stands w b at) → byte b (at + k) ≡ byte (w ++ s.rest) k
byte_stands {w} {b} {at} k s = sym (get_or-drop at b k 0) ∙ ap (λ l. byte l k) s.is

byte-first : {w b : List ℕ} {at : ℕ} (s : Stands w b at) → byte b at ≡ byte (w ++ s.rest) 0
byte-first {w} {b} {at} s = let e : at + 0 ≡ at = omega arith in rw e at (byte_stands 0 s)

-- a record that stands at a place
module _ (x : PlacedModule) (b : List ℕ) (at : ℕ) (s : Stands (module_bytes x) b at) where
  pub module_stands : x.cycles.0 < 256 ^ 8 → x.start.0 < 256 ^ 8 → module_at b at ≡ x
  unfolding module_bytes
  module_stands h k =
      let w = x.number ∷ x.bus ∷ x.wires.0 ∷ 0 ∷ [] in
      let both = stands_behind w (little 8 x.cycles.0 ++ little 8 x.start.0) 4 (at + 4) refl refl s in
      let e : at + 4 + 8 ≡ at + 12 = omega arith in
      let c = number-first 8 x.cycles.0 (little 8 x.start.0) h both in
      let d = number_stands 8 x.start.0 k (number_behind 8 x.cycles.0 (little 8 x.start.0) {at = at + 4} (at + 12) e both) in
      rw (byte-first s, byte_stands 1 s, byte_stands 2 s, c, d)

  pub module_zero : zero_module b at ≡ true
  unfolding module_bytes zero_module
  module_zero = eq-eqb _ _ (byte_stands 3 s)

module _ (x : Bus) (b : List ℕ) (at : ℕ) (s : Stands (bus_bytes x) b at) where
  pub bus_stands : x.busy.0 < 256 ^ 8 → bus_at b at ≡ x
  unfolding bus_bytes
  bus_stands h =
      let w = x.width.0 ∷ 0 ∷ 0 ∷ 0 ∷ [] in
      let c = number_stands 8 x.busy.0 h (stands_behind w (little 8 x.busy.0) 4 (at + 4) refl refl s) in
      rw (byte-first s, c)

  pub bus-zero : zero_bus b at ≡ true
  unfolding bus_bytes zero_bus
  bus-zero = and_holds (eq-eqb _ _ (byte_stands 1 s)) (and_holds (eq-eqb _ _ (byte_stands 2 s)) (eq-eqb _ _ (byte_stands 3 s)))

-- what holds at every place holds at each
all-rows-at : (p : ℕ → Bool) (k n at : ℕ) → all_of p (rows (λ a. a) k n at) ≡ true → (i : ℕ) → i < n → p (at + k * i) ≡ true
unfolding all_of rows
all-rows-at p k zero at z i h = absurd (omega arith)
all-rows-at p k (suc n) at z zero h =
    let e : at + k * 0 ≡ at = omega arith in
    rw e (and_both (p at) (all_of p (rows (λ a. a) k n (at + k))) z).0
all-rows-at p k (suc n) at z (suc i) h =
    let e : at + k * suc i ≡ at + k + k * i = omega (arith, mul-suc k i) in
    rw e (all-rows-at p k n (at + k) (and_both (p at) (all_of p (rows (λ a. a) k n (at + k))) z).1 i (omega arith))

-- records that are each what stands at their place are together what stands there
each_back : {A : Type 0} (bytes : A → List ℕ) (read : ℕ → A) (f : List ℕ) (k n at : ℕ)
    → ((i : ℕ) → i < n → bytes (read (at + k * i)) ≡ take k (drop (at + k * i) f))
    → each bytes (rows read k n at) ≡ take (k * n) (drop at f)
unfolding each rows
each_back bytes read f k zero at g = let e : k * 0 ≡ 0 = omega arith in rw e
each_back bytes read f k (suc n) at g =
    let e : at + k * 0 ≡ at = omega arith in
    let s : k * suc n ≡ k + k * n = omega (arith, mul-suc k n) in
    let a : bytes (read at) ≡ take k (drop at f) = rw e at (g 0 (omega arith)) in
    let b : each bytes (rows read k n (at + k)) ≡ take (k * n) (drop (at + k) f) =
    each_back bytes read f k n (at + k)
    (λ i h. let o : at + k + k * i ≡ at + k * suc i = omega (arith, mul-suc k i) in rw o (g (suc i) (omega arith))) in
    rw (s, a, b) (part_join f k (k * n) at)

-- the bytes of what is read in a file of bytes
module _ (f : List ℕ) (b : AreBytes f) where
  -- four bytes and a number of eight
  pub part-figures : (at : ℕ) → at + 12 ≤ length f
      → byte f at ∷ byte f (at + 1) ∷ byte f (at + 2) ∷ byte f (at + 3) ∷ little 8 (number_at 8 f (at + 4)) ≡ take 12 (drop at f)
  unfolding rows
  part-figures at h =
      let e2 : at + 1 + 1 ≡ at + 2 = omega arith in
      let e3 : at + 2 + 1 ≡ at + 3 = omega arith in
      let l : byte f at ∷ byte f (at + 1) ∷ byte f (at + 2) ∷ byte f (at + 3) ∷ [] ≡ take 4 (drop at f) =
      rw (e2, e3) at (rows-bytes f 4 at (omega arith)) in
      rw (part-number f 8 (at + 4) (omega arith) b) (ap (λ l. l ++ take 8 (drop (at + 4) f)) l ∙ part_join f 4 8 at)

  module_back : (at : ℕ) → at + module_stride ≤ length f → zero_module f at ≡ true
      → module_bytes (module_at f at) ≡ take module_stride (drop at f)
  unfolding module_bytes zero_module
  module_back at h z =
      let front : byte f at ∷ byte f (at + 1) ∷ byte f (at + 2) ∷ 0 ∷ little 8 (number_at 8 f (at + 4)) ≡ take 12 (drop at f) =
      rw (eqb-true (byte f (at + 3)) 0 z) at (part-figures at (omega arith)) in
      rw (part-number f 8 (at + 12) (omega arith) b) (ap (λ l. l ++ take 8 (drop (at + 12) f)) front ∙ part_join f 12 8 at)

  bus_back : (at : ℕ) → at + bus_stride ≤ length f → zero_bus f at ≡ true → bus_bytes (bus_at f at) ≡ take bus_stride (drop at f)
  unfolding bus_bytes zero_bus
  bus_back at h z =
      let y = and_both _ _ z in
      let x = and_both _ _ y.1 in
      let e1 : byte f (at + 1) ≡ 0 = eqb-true _ _ y.0 in
      let e2 : byte f (at + 2) ≡ 0 = eqb-true _ _ x.0 in
      let e3 : byte f (at + 3) ≡ 0 = eqb-true _ _ x.1 in
      rw (e1, e2, e3) at (part-figures at h)

  pub modules_back : (n : ℕ) → module_stride * n ≤ length f → zero_modules f n ≡ true
      → each module_bytes (rows (module_at f) module_stride n 0) ≡ take (module_stride * n) (drop 0 f)
  modules_back n h z =
      each_back module_bytes (module_at f) f module_stride n 0
      (λ i k. module_back (0 + module_stride * i) (omega arith) (all-rows-at (zero_module f) module_stride n 0 z i k))

  pub buses_back : (n at : ℕ) → at + bus_stride * n ≤ length f → zero_buses f n at ≡ true
      → each bus_bytes (rows (bus_at f) bus_stride n at) ≡ take (bus_stride * n) (drop at f)
  buses_back n at h z =
      each_back bus_bytes (bus_at f) f bus_stride n at
      (λ i k. bus_back (at + bus_stride * i) (omega arith) (all-rows-at (zero_bus f) bus_stride n at z i k))
