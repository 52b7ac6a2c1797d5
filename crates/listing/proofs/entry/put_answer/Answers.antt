-- `listing::entry::put_answer` meets its contract. A plan that was found is good, so that its lines are few and short; the buffer has room for them, and
-- for a refusal. Assumes nothing.
use native.Mathlib.Omega.{arith}
use mathlib.Core.Path.{sym, ap}
use Rattle.fields.specs.WrittenLines.{written_lines}
use Rattle.soc.proofs.GoodSocLaws.{soc-figures}
use Rattle.plan_record.proofs.GoodPlanLaws.{good-figures}
use Rattle.plan.proofs.PlannerLaws.{planner_answers_good, planner_accepts_good}
use Rattle.listing.specs.Listing.{plan_printed}
use Rattle.listing.specs.Room.{refusal_room, plan_room}
use Rattle.listing.proofs.ListingLaws.{put_as}
use Rattle.listing.proofs.entry.put_answer.Goals as goal

pub put_plan-requires : goal.put_plan-requires
put_plan-requires c = let k = c.args.k in
    let e = sym c.in-Ok.ensures in
    let f = good-figures _ (planner_answers_good c.args.s k.wires k.limit k.capture e) in
    ((soc-figures c.args.s (planner_accepts_good c.args.s k.wires k.limit k.capture e)).name_len, f.buses_high, f.modules_high, omega (arith, c.requires))

pub returns-in-Ok : goal.returns-in-Ok
unfolding plan_printed
returns-in-Ok c = put_as plan_room (ap (λ a. written_lines (plan_printed c.args.s a)) (sym c.in-Ok.ensures)) (omega arith) c.put_plan.ensures

pub returns-in-Err : goal.returns-in-Err
unfolding plan_printed
returns-in-Err c = put_as refusal_room (ap (λ a. written_lines (plan_printed c.args.s a)) (sym c.in-Err.ensures)) (omega arith) c.put_refusal.ensures
