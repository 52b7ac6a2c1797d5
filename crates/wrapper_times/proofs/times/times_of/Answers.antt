-- `wrapper_times::times::times_of` meets its contract: what its invariant (Invariants.antt) leaves to show. Assumes nothing.
use native.Mathlib.Omega.{arith}
use Prim.Native.Nat.{ℕ, ◌+◌, ◌<◌}
use mathlib.Core.Path.{◌≡◌, sym, ap, ◌∙◌}
use mathlib.Core.List.{List}
use lib.ListN.{set, replicate}
use Rattle.units.specs.declared.Wires.{Wires}
use Rattle.units.specs.declared.Cycles.{Cycles}
use Rattle.soc.specs.declared.record.Module.{Module}
use Rattle.wrapper_fit.specs.Maxima.{width_max}
use Rattle.wrapper_fit.specs.Counts.{wires, cycles}
use Rattle.wrapper_times.specs.Times.{figure, module_best}
use Rattle.wrapper_times.specs.TimeAnswers.{cycles_in, wires_in, times_of}
use Rattle.wrapper_times.proofs.TimeLaws.{best-one, best_less, best_stays, bests_first, bests_set}
use Rattle.wrapper_times.proofs.times.times_of.Invariants.{Held}
use Rattle.wrapper_times.proofs.times.times_of.Goals as goal
use Rattle.wrapper_times.proofs.times.times_of.Goals.{then-f-best, else-f-best}

held_more : (c : ℕ) (d : Module) (u best at : ℕ) (cs : List Cycles) (ws : List Wires) (b a : ℕ) → u < 64 → Held c d u best at cs ws
    → b ≡ (module_best c d (u + 1)).cycles → a ≡ (module_best c d (u + 1)).wires
    → Held c d (u + 1) b a (set cs u (cycles b)) (set ws u (wires a))
held_more c d u best at cs ws b a h k e f =
    record {
      least = e;
      width = f;
      times = rw (k.times, e) (bests_set cycles_in (cycles 0) c d u h);
      places = rw (k.places, f) (bests_set wires_in (wires 0) c d u h);
    }

pub loop-u-init : goal.loop-u-init
loop-u-init c = let d = c.args.d in
    let x = c.args.capture in
    let e : c.figure_at-best.result ≡ (module_best x d 1).cycles = c.figure_at-best.ensures ∙ sym (ap (λ b. b.cycles) (best-one x d)) in
    let f : ◌≡◌ {A = ℕ} 1 (module_best x d 1).wires = sym (ap (λ b. b.wires) (best-one x d)) in
    record {
      least = e;
      width = f;
      times = rw e (bests_first cycles_in (cycles 0) x d);
      places = ap (λ a. set (replicate width_max (wires 0)) 0 (wires a)) f ∙ bests_first wires_in (wires 0) x d;
    }

pub loop-u-preserved : goal.loop-u-preserved
loop-u-preserved c = let d = c.args.d in
    let x = c.args.capture in
    let u = c.loop-u.u in
    let k = c.loop-u.invariant in
    let below : u < 64 = omega (arith, c.requires.2, c.loop-u-test.true) in
    let f : c.figure_at-f.result ≡ figure x d (u + 1) = c.figure_at-f.ensures in
    let more = held_more x d u c.loop-u.best c.loop-u.at c.loop-u.cycles c.loop-u.wires c.if-f-best.best c.if-f-best.at below k in
    (elim c.if-f-best.branch [
      | then-f-best w ↦ let e = best_less x d u c.loop-u.auto.u (omega (arith, f, k.least, w.if-f-best.true)) in
          more (w.best-is ∙ f ∙ sym (ap (λ b. b.cycles) e)) (w.at-is ∙ sym (ap (λ b. b.wires) e))
      | else-f-best w ↦ let e = best_stays x d u c.loop-u.auto.u (omega (arith, f, k.least, w.if-f-best.false)) in
          more (w.best-is ∙ k.least ∙ sym (ap (λ b. b.cycles) e)) (w.at-is ∙ k.width ∙ sym (ap (λ b. b.wires) e))
    ])

pub returns : goal.returns
unfolding times_of
returns c = let e : c.loop-u.u ≡ c.args.w = omega (arith, c.loop-u.auto.u-end c.requires.1, c.loop-u-test.false) in
    let k = rw e at c.loop-u.invariant in
    rw (k.times, k.places)
