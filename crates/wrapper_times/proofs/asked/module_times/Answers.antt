-- `wrapper_times::asked::module_times` meets its contract: what is refused is refused as asked, and the module that is found is within the
-- limits. Assumes nothing.
use mathlib.Core.Path.{sym, ap, ◌∙◌}
use Rattle.std.specs.Prelude.{Ok}
use Rattle.std.proofs.lemmas.Result.{err_from_is_err_and}
use Rattle.wrapper_scans.specs.Asked.{refused_here}
use Rattle.wrapper_scans.proofs.AskedLaws.{module_refused, module_found, found-kept}
use Rattle.wrapper_times.specs.TimeAnswers.{times_of, module_times_answer}
use Rattle.wrapper_times.proofs.asked.module_times.Goals as goal

pub returns-in_err-d : goal.returns-in_err-d
unfolding module_times_answer
returns-in_err-d c = let s = c.args in
    let p = err_from_is_err_and c.from_residual.result c.from_residual.ensures.1 in
    rw (p.1, p.2)
    (module_refused s.s s.«module» s.width.0 s.capture.0 refused_here (λ d. Ok (times_of s.capture.0 d s.width.0)) _ (sym c.in_err-d.ensures))

pub times_of-requires : goal.times_of-requires
times_of-requires c = let s = c.args in
    let f = found-kept s.s s.«module» s.width.0 s.capture.0 c.in_ok-d.d (sym c.in_ok-d.ensures) in
    (f.kept, f.some, f.most, f.capture)

pub returns : goal.returns
unfolding module_times_answer
returns c = let s = c.args in
    ap Ok c.times_of.ensures
    ∙ module_found s.s s.«module» s.width.0 s.capture.0 refused_here (λ d. Ok (times_of s.capture.0 d s.width.0)) _ (sym c.in_ok-d.ensures)
