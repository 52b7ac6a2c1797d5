-- `c_forms::soc_form::SocForm::put` meets its contract: each part is put behind the one before it, and the name has all its bytes. Assumes
-- nothing.
use native.Mathlib.Omega.{arith}
use mathlib.Core.Path.{◌≡◌}
use mathlib.Core.List.{◌++◌}
use lib.ListN.{length}
use Rattle.fields.specs.Names.{name_max}
use Rattle.c_forms.specs.Words.{word, PutOf}
use Rattle.c_forms.specs.SocForm.{options_from, head_bytes, soc_bytes}
use Rattle.c_forms.proofs.PutOfLaws.{next-put, then_put, sized-put}
use Rattle.c_forms.proofs.SignedLaws.{flag-word}
use Rattle.c_forms.proofs.soc_form.SocForm.put.Goals as goal
use Rattle.c_forms.proofs.soc_form.SocForm.put.Goals.{After-put_bytes-b}

-- the length of the name, and the name
named : (k : After-put_bytes-b) → let s = k.args.self in
    PutOf options_from (word s.name_len ++ s.name) k.args.at k.args.buf.now k.put_bytes-b.new.buf k.put_bytes-b.result
named c = let n : length c.args.self.name ≡ name_max = omega arith in
    next-put c.args.self.name n (omega (arith, c.requires)) c.put-a.ensures c.put_bytes-b.ensures

pub put_each-c-requires : goal.put_each-c-requires
put_each-c-requires c = let n = named (goal.at.put_each-c-requires c).After-put_bytes-b in omega (arith, n.put.behind, n.long)

pub put_each-requires : goal.put_each-requires
put_each-requires c = let n = named (goal.at.put_each-requires c).After-put_bytes-b in omega (arith, n.put.behind, n.long)

pub returns : goal.returns
unfolding head_bytes soc_bytes
returns c = let s = c.args.self in
    let options = rw (c.from.ensures, flag-word, c.from-2.ensures, flag-word) at c.put_each-c.ensures in
    let head = then_put (omega arith) (named (goal.at.returns c).After-put_bytes-b) options in
    sized-put (omega arith) (then_put (omega arith) head c.put_each.ensures)
