-- `fields::reader::key_figure` meets its contract. The definition goes on behind the keyword as the code does. Assumes nothing.
use mathlib.Core.Path.{◌∙◌}
use Rattle.std.proofs.lemmas.Result.{err_from_is_err_and}
use Rattle.fields.proofs.PlaceAnswerLaws.{key-number-no, key-number-past}
use Rattle.fields.proofs.reader.key_figure.Goals as goal

pub returns-in_err-e : goal.returns-in_err-e
returns-in_err-e c = let p = err_from_is_err_and c.from_residual.result c.from_residual.ensures.1 in rw (p.1, p.2) (key-number-no _ _ c.args.w.now c.args.low c.args.high _ c.in_err-e.ensures)

pub returns : goal.returns
returns c = c.figure_at.ensures ∙ key-number-past _ _ _ _ _ _ c.in_ok-e.ensures
