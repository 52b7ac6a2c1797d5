-- `c_forms::form::read_each` meets its contract: every call of the closure reads within the bytes, and gives its row. Assumes nothing.
use borrow.Author.Rules.{rules}
use Prim.Native.Nat.{suc, ◌*◌, ◌≤◌}
use native.Mathlib.Omega.{arith}
use native.Mathlib.Nat.{mul-suc}
use Rattle.std.proofs.Math.Nat.{mul-le-mul_left}
use mathlib.Core.Path.{refl}
use Rattle.c_forms.proofs.MadeLaws.{calls-keep, made_rows}
use Rattle.c_forms.proofs.form.read_each.Goals as goal

pub from_fn-requires : goal.from_fn-requires
from_fn-requires g c = (
  search rules,
  record {
    at = λ xs t q x u y f s.
        let k = g.T.Form.BYTES in
        let o : k * suc x ≤ k * g.row.N = mul-le-mul_left k (omega arith) in
        rw (calls-keep _ _ (g.T.ReadBack.value_at c.args.b.now) k c.args.at (λ i r f' h. search rules) xs _ q refl f) (omega (arith, mul-suc k x, o));
  },
)

pub returns : goal.returns
returns g c = made_rows _ _ (g.T.ReadBack.value_at c.args.b.now) g.T.Form.BYTES c.args.at (λ i r f' h. search rules) _ _ c.from_fn.ensures.items
