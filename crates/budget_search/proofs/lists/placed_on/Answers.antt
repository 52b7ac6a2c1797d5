-- `lists::placed_on` meets its contract: `place` from the first module on, with every bus free. Assumes nothing.
use native.Mathlib.Omega.{arith}
use Prim.Native.Nat.{ℕ, ◌-◌}
use mathlib.Core.Path.{◌≡◌}
use lib.ListN.{length, take, replicate}
use Rattle.budget_search.specs.Steps.{buses_max, modules_max}
use Rattle.budget_search.proofs.PlaceLaws.{ready_first}
use Rattle.budget_search.proofs.ListLaws.{take-zeros, length-zeros}
use Rattle.budget_search.proofs.lists.placed_on.Goals as goal

pub place-requires : goal.place-requires
place-requires c = let a = c.args in
    let e : length {A = ℕ} (take a.n (replicate modules_max 0)) ≡ a.n = length-zeros a.n modules_max c.requires.0.few in
    let f : take {A = ℕ} (length a.widths.now) (replicate buses_max 0) ≡ replicate (length a.widths.now) 0 =
    take-zeros (length a.widths.now) buses_max c.requires.1.few in
    rw f (ready_first (rw e c.requires.0) c.requires.1 c.requires.2 c.requires.3)

pub returns : goal.returns
returns c = let a = c.args in
    let p = c.place in
    let ws = a.widths.now in
    let e : length {A = ℕ} (take a.n (replicate modules_max 0)) ≡ a.n = length-zeros a.n modules_max c.requires.0.few in
    let f : take {A = ℕ} (length ws) (replicate buses_max 0) ≡ replicate (length ws) 0 = take-zeros (length ws) buses_max c.requires.1.few in
    let z : length {A = ℕ} (take a.n (replicate modules_max 0)) - 0 ≡ a.n = omega (arith, e) in (
      rw (z, e, f) at p.ensures.is,
      p.ensures.rooms,
    )
