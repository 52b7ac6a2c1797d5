-- `text_lines::head::name_at` meets its contract. The field is a name or not, and the line ends behind it or not: the definition goes on as the
-- code does. A name is at most as long as its places. Assumes nothing.
use native.Mathlib.Omega.{arith}
use Prim.Native.Nat.{◌-◌}
use mathlib.Core.Path.{◌≡◌, sym, ◌∙◌}
use mathlib.Core.Path.{refl}
use lib.ListN.{length, length-take, length-drop}
use Rattle.fields.specs.Fields.{part}
use Rattle.fields.specs.Names.{name_max}
use Rattle.text_lines.proofs.HeadLaws.{closed-no, closed-end, closed-left, name-no, name-got, front-placed}
use Rattle.text_lines.proofs.PartLaws.{exit}
use Rattle.text_lines.proofs.head.name_at.Goals as goal

pub returns-then-not-is_name : goal.returns-then-not-is_name
returns-then-not-is_name c = sym (closed-no _ _ (name-no _ _ (sym c.is_name.ensures ∙ c.if-not-is_name.true)))

pub returns-in_err-line_end : goal.returns-in_err-line_end
returns-in_err-line_end c = rw (exit _ c.from_residual.ensures.1) (closed-left _ _ _ _ (name-got _ _ (sym c.is_name.ensures ∙ c.if-not-is_name.false) _ _ refl refl) c.in_err-line_end.ensures)

pub returns : goal.returns
returns c = let l : length (part c.args.l.now c.args.a c.args.e) ≡ c.args.e - c.args.a = simp (length-take, length-drop) (omega arith) in
    closed-end _ _ _ (name-got _ _ (sym c.is_name.ensures ∙ c.if-not-is_name.false) _ _ l (front-placed name_max 0 _ _ _ c.copy_from_slice.ensures.after l)) c.in_ok-line_end.ensures
