-- `c_forms::budget_form::FoundForm::put` meets its contract: the tries are put behind the two flags, and the plan behind them. Assumes
-- nothing.
use native.Mathlib.Omega.{arith}
use Rattle.little_endian.proofs.LittleLaws.{little-length}
use Rattle.c_forms.specs.Words.{long, PutOf}
use Rattle.c_forms.specs.BudgetForm.{found_from, spent_bytes, budget_bytes}
use Rattle.c_forms.proofs.PutOfLaws.{then_put, next-put}
use Rattle.c_forms.proofs.SignedLaws.{flag-word}
use Rattle.c_forms.proofs.budget_form.FoundForm.put.Goals as goal
use Rattle.c_forms.proofs.budget_form.FoundForm.put.Goals.{After-put_u64-b}

spent : (k : After-put_u64-b) → let f = k.args.self in
    PutOf found_from (spent_bytes f.finished f.known f.tries) k.args.at k.args.buf.now k.put_u64-b.new.buf k.put_u64-b.result
unfolding spent_bytes
spent c = let f = c.args.self in
    let flags = rw (c.from.ensures, flag-word, c.from-2.ensures, flag-word) at c.put_each-a.ensures in
    next-put (long f.tries) (little-length _ _) (omega arith) flags c.put_u64-b.ensures

pub put-requires : goal.put-requires
put-requires c = let n = spent (goal.at.put-requires c).After-put_u64-b in omega (arith, n.put.behind, n.long)

pub returns : goal.returns
unfolding budget_bytes
returns c = then_put (omega arith) (spent (goal.at.returns c).After-put_u64-b) c.put.ensures
