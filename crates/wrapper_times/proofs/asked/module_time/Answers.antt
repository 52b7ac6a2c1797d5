-- `wrapper_times::asked::module_time` meets its contract: the last of the times up to the width is the time at the width. Assumes nothing.
use native.Mathlib.Omega.{arith}
use Prim.Native.Nat.{ℕ, ◌-◌}
use mathlib.Core.Path.{◌≡◌, sym, ap}
use mathlib.Core.List.{List, map}
use lib.ListN.{get_or}
use Rattle.std.specs.Prelude.{Result, Ok}
use Rattle.std.proofs.lemmas.Result.{err_from_is_err_and}
use Rattle.units.specs.Places.{padded}
use Rattle.units.specs.declared.Refusal.{Refusal}
use Rattle.soc.specs.declared.record.Module.{Module}
use Rattle.wrapper_fit.specs.Maxima.{width_max}
use Rattle.wrapper_fit.specs.Counts.{wires, cycles}
use Rattle.wrapper_scans.specs.Asked.{refused_here}
use Rattle.wrapper_scans.proofs.AskedLaws.{module_refused, module_found, Found, found-kept}
use Rattle.wrapper_times.specs.Times.{Best, module_best}
use Rattle.wrapper_times.specs.TimeAnswers.{bests_from, module_time_of, module_time_answer, cycles_in, wires_in, times_of}
use Rattle.wrapper_times.specs.declared.asked.ModuleTime.{ModuleTime}
use Rattle.wrapper_times.proofs.TimeLaws.{bests_last}
use Rattle.wrapper_times.proofs.asked.module_time.Goals as goal
use Rattle.wrapper_times.proofs.asked.module_time.Goals.{In_ok-d}

abbrev timed : ℕ → ℕ → Module → Result ModuleTime Refusal
timed w c d = Ok (module_time_of (module_best c d w))

found : (c : In_ok-d) → Found c.in_ok-d.d c.args.width.0 c.args.capture.0
found c = found-kept c.args.s c.args.«module» c.args.width.0 c.args.capture.0 c.in_ok-d.d (sym c.in_ok-d.ensures)

-- what stands in the last place
last : {A : Type 0} (f : Best → A) (z y : A) (d : Module) (w c : ℕ) (l : List A) → Found d w c
    → l ≡ padded width_max z (map f (bests_from c d w 1)) → get_or l (w - 1) y ≡ f (module_best c d w)
last f z y d w c l h e = rw e (bests_last f z c d w h.some h.most y)

pub returns-in_err-d : goal.returns-in_err-d
unfolding module_time_answer
returns-in_err-d c = let s = c.args in
    let p = err_from_is_err_and c.from_residual.result c.from_residual.ensures.1 in
    rw (p.1, p.2) (module_refused s.s s.«module» s.width.0 s.capture.0 refused_here (timed s.width.0 s.capture.0) _ (sym c.in_err-d.ensures))

pub times_of-times-requires : goal.times_of-times-requires
times_of-times-requires c = let f = found (goal.at.times_of-times-requires c).In_ok-d in (f.kept, f.some, f.most, f.capture)

pub overflow_sub-last : goal.overflow_sub-last
overflow_sub-last c = omega (arith, (found (goal.at.overflow_sub-last c).In_ok-d).some)

pub bounds-times-last : goal.bounds-times-last
bounds-times-last c = let f = found (goal.at.bounds-times-last c).In_ok-d in omega (arith, f.some, f.most)

pub bounds-times-last-2 : goal.bounds-times-last-2
bounds-times-last-2 c = let f = found (goal.at.bounds-times-last-2 c).In_ok-d in omega (arith, f.some, f.most)

pub returns : goal.returns
unfolding module_time_answer times_of
returns c = let s = c.args in
    let d = c.in_ok-d.d in
    let f = found (goal.at.returns c).In_ok-d in
    let t = c.times_of-times.ensures in
    let cs = last cycles_in (cycles 0) (cycles 0) d s.width.0 s.capture.0 c.times_of-times.result.cycles f (ap (λ r. r.cycles) t) in
    let ws = last wires_in (wires 0) (wires 0) d s.width.0 s.capture.0 c.times_of-times.result.wires f (ap (λ r. r.wires) t) in
    rw (cs, ws) (module_found s.s s.«module» s.width.0 s.capture.0 refused_here (timed s.width.0 s.capture.0) d (sym c.in_ok-d.ensures))
