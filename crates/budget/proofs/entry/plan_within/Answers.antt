-- `budget::entry::plan_within` meets its contract: 14 comes first, then what `limits_kept` says in its order. Assumes nothing.
use mathlib.Core.Path.{◌≡◌, sym, ap, ◌∙◌}
use mathlib.Core.Bool.{true}
use lib.ListN.{length}
use lib.Dec.{leb}
use borrow.Author.Tests.{leb-true}
use Rattle.std.proofs.lemmas.Result.{err_from_is_err_and}
use Rattle.units.proofs.TestLaws.{and_both}
use Rattle.soc.specs.Rules.{good_soc}
use Rattle.soc.specs.Planned.{planned_of}
use Rattle.soc.proofs.PinsLaws.{planned-most}
use Rattle.wrapper_fit.specs.Maxima.{width_max, capture_max}
use Rattle.budget.specs.BudgetAnswers.{limit_max, budget_max, budget_answer}
use Rattle.budget.specs.Met.{limits_kept}
use Rattle.budget.proofs.EntryLaws.{Within, none-refused, one-refused}
use Rattle.budget.proofs.entry.plan_within.Goals as goal
use Rattle.budget.proofs.entry.plan_within.Goals.{After-keep_limits, Else-not-is_good, In_ok-keep_limits}

good : (c : Else-not-is_good) → good_soc c.args.s ≡ true
good c = sym c.is_good.ensures ∙ c.if-not-is_good.false

-- what is said of the planned modules
said : (c : After-keep_limits) →
    let a = c.args in
    c.keep_limits.result ≡ limits_kept a.wires.0 a.limit a.capture.0 (length (planned_of a.s)) a.budget
said c = let a = c.args in
    c.keep_limits.ensures ∙ ap (λ n. limits_kept a.wires.0 a.limit a.capture.0 n a.budget) (ap (λ p. p.count) c.planned_modules-p.ensures)

within : (c : In_ok-keep_limits) →
    let a = c.args in
    Within a.wires.0 a.limit a.capture.0 (length (planned_of a.s)) a.budget
within c = none-refused _ _ _ _ _ (sym (said (goal.at.In_ok-keep_limits c).After-keep_limits) ∙ c.in_ok-keep_limits.was)

pub returns-then-not-is_good : goal.returns-then-not-is_good
unfolding budget_answer
returns-then-not-is_good c = rw (sym c.is_good.ensures ∙ c.if-not-is_good.true, c.at.ensures)

pub returns-in_err-keep_limits : goal.returns-in_err-keep_limits
returns-in_err-keep_limits c = let a = c.args in
    let p = err_from_is_err_and c.from_residual.result c.from_residual.ensures.1 in
    let e = sym (said (goal.at.returns-in_err-keep_limits c).After-keep_limits) ∙ c.in_err-keep_limits.was in
    rw (p.1, p.2) (one-refused a.s a.wires.0 a.limit a.capture.0 a.budget (good (goal.at.returns-in_err-keep_limits c).Else-not-is_good) e)

pub found_within-requires : goal.found_within-requires
found_within-requires c = let w = within (goal.at.found_within-requires c).In_ok-keep_limits in
    let a = c.args in
    let u = and_both (leb 1 a.wires.0) (leb a.wires.0 width_max) w.wires in
    let v = and_both (leb 1 a.limit) (leb a.limit limit_max) w.buses in
    let x = and_both (leb 1 a.capture.0) (leb a.capture.0 capture_max) w.captures in
    let good = good (goal.at.found_within-requires c).Else-not-is_good in (
      record {
        good = good;
        numbers = c.planned_modules-p.ensures;
        most = planned-most a.s good;
        low = leb-true 1 a.wires.0 u.0;
        narrow = leb-true a.wires.0 width_max u.1;
        captures = leb-true 1 a.capture.0 x.0;
        capturing = leb-true a.capture.0 capture_max x.1;
      },
      rw (ap (λ p. p.count) c.planned_modules-p.ensures) (leb-true 1 (length (planned_of a.s)) w.some),
      leb-true 1 a.limit v.0,
      leb-true a.limit limit_max v.1,
      leb-true a.budget budget_max (and_both (leb 1 a.budget) (leb a.budget budget_max) w.spends).1,
    )

pub returns : goal.returns
unfolding budget_answer
returns c = let w = within (goal.at.returns c).In_ok-keep_limits in
    rw (c.found_within.ensures, good (goal.at.returns c).Else-not-is_good, w.wires, w.buses, w.captures, w.some, w.spends)
