-- `c_interface::tallowwing_budget` meets its contract: what is refused is said, and else the result's bytes are put, of which there are some. Assumes nothing.
use native.Mathlib.Omega.{arith}
use mathlib.Core.Path.{◌≡◌, refl, ap, ◌∙◌}
use denote.Enum.Bare.{sameb}
use Rattle.std.specs.Option.{unwrap_or}
use Rattle.budget.specs.BudgetAnswers.{budget_answer}
use Rattle.budget.specs.contracts.answer.Ended.{the_type}
use Rattle.budget.specs.declared.answer.Ended.{Ended}
use Rattle.budget.specs.declared.answer.Ended.TheVariants as ended
use Rattle.c_interface.specs.Codes.{is_finished, found_bytes}
use Rattle.c_interface.proofs.CodeLaws.{refused-given, whole-given}
use Rattle.c_interface.proofs.tallowwing_budget.Goals as goal

-- whether the search was finished, by the derived comparison
finished : (e : Ended) → sameb the_type e ended.Finished ≡ is_finished e
unfolding is_finished
finished ended.Finished = refl
finished ended.Unfinished = refl

pub returns-in-Ok : goal.returns-in-Ok
returns-in-Ok c = let f = c.in-Ok.found in
    let k : c.eq.result ≡ is_finished f.ended = c.eq.ensures ∙ finished f.ended in
    let p = c.unwrap_or.ensures ∙ ap (unwrap_or f.plan) c.no_plan.ensures in
    whole-given found_bytes c.args.into.now
    (c.in-Ok.ensures ∙ ap (λ d. budget_answer d c.args.wires c.args.limit c.args.capture c.args.tries) c.soc_in-s.ensures)
    (omega arith)
    (rw (k, c.is_some.ensures, p) at c.budget_bytes.ensures)
    c.code_of_bytes.ensures

pub returns-in-Err : goal.returns-in-Err
returns-in-Err c = refused-given found_bytes c.args.into.now
    (c.in-Err.ensures ∙ ap (λ d. budget_answer d c.args.wires c.args.limit c.args.capture c.args.tries) c.soc_in-s.ensures) c.refusal_code.ensures
