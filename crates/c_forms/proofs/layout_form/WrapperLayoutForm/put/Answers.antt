-- `c_forms::layout_form::WrapperLayoutForm::put` meets its contract: the five lists and the time are put one behind another. Assumes nothing.
use native.Mathlib.Omega.{arith}
use Rattle.little_endian.proofs.LittleLaws.{little-length}
use Rattle.c_forms.specs.Words.{long}
use Rattle.c_forms.specs.LayoutForm.{time_bytes, layout_bytes}
use Rattle.c_forms.proofs.PutOfLaws.{first-put, then_put, next-put, sized-put}
use Rattle.c_forms.proofs.layout_form.WrapperLayoutForm.put.Goals as goal

pub returns : goal.returns
unfolding layout_bytes time_bytes
returns c = let l = c.args.self in
    let cells = then_put (omega arith) (then_put (omega arith) (then_put (omega arith) c.put_each-a.ensures c.put_each-b.ensures) c.put_each-c.ensures) c.put_each-d.ensures in
    let lists = then_put (omega arith) cells c.put_each-e.ensures in
    let si = first-put {w = long l.si} (little-length _ _) (omega (arith, lists.put.behind, lists.long)) c.put_u64-f.ensures in
    let so = next-put (long l.so) (little-length _ _) (omega (arith, lists.put.behind, lists.long)) si c.put_u64-g.ensures in
    let time = next-put (long l.cycles.0) (little-length _ _) (omega (arith, lists.put.behind, lists.long)) so c.put_u64.ensures in
    sized-put (omega arith) (then_put (omega arith) lists time)
