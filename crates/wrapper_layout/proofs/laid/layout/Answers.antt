-- `wrapper_layout::laid::layout` meets its contract: what is refused is refused as asked, and the module and the test that are found are
-- within the limits. Assumes nothing.
use Prim.Native.Nat.{ℕ}
use mathlib.Core.Path.{◌≡◌, sym, ap, ◌∙◌}
use Rattle.std.specs.Prelude.{Result, Ok}
use Rattle.std.proofs.lemmas.Result.{err_from_is_err_and}
use Rattle.units.specs.declared.Refusal.{Refusal}
use Rattle.soc.specs.declared.record.Test.{Test}
use Rattle.soc.specs.declared.record.Module.{Module}
use Rattle.wrapper_scans.specs.Asked.{refused_here}
use Rattle.wrapper_scans.proofs.AskedLaws.{module_refused, module_found, Found, found-kept}
use Rattle.wrapper_layout.specs.LayoutAnswers.{asked_test, layout_of, layout_answer}
use Rattle.wrapper_layout.specs.declared.laid.WrapperLayout.{WrapperLayout}
use Rattle.wrapper_layout.proofs.AskedLaws.{test-refused, test-found, found-few}
use Rattle.wrapper_layout.proofs.laid.layout.Goals as goal
use Rattle.wrapper_layout.proofs.laid.layout.Goals.{In_ok-d}

-- the answer for a module, and for one of its tests
abbrev laid : ℕ → ℕ → Module → Test → Result WrapperLayout Refusal
laid w c d t = Ok (layout_of c d w t)

abbrev tested : ℕ → ℕ → ℕ → Module → Result WrapperLayout Refusal
tested i w c d = asked_test d i refused_here (laid w c d)

found : (c : In_ok-d) → Found c.in_ok-d.d c.args.width.0 c.args.capture.0
found c = found-kept c.args.s c.args.«module» c.args.width.0 c.args.capture.0 c.in_ok-d.d (sym c.in_ok-d.ensures)

asked : (c : In_ok-d) → tested c.args.test c.args.width.0 c.args.capture.0 c.in_ok-d.d
    ≡ layout_answer c.args.s c.args.«module» c.args.test c.args.width.0 c.args.capture.0
unfolding layout_answer
asked c = let s = c.args in
    module_found s.s s.«module» s.width.0 s.capture.0 refused_here (tested s.test s.width.0 s.capture.0) c.in_ok-d.d (sym c.in_ok-d.ensures)

pub returns-in_err-d : goal.returns-in_err-d
unfolding layout_answer
returns-in_err-d c = let s = c.args in
    let p = err_from_is_err_and c.from_residual.result c.from_residual.ensures.1 in
    rw (p.1, p.2)
    (module_refused s.s s.«module» s.width.0 s.capture.0 refused_here (tested s.test s.width.0 s.capture.0) _ (sym c.in_err-d.ensures))

pub asked_test-requires : goal.asked_test-requires
asked_test-requires c = (found (goal.at.asked_test-requires c).In_ok-d).kept.tests

pub returns-in_err-t : goal.returns-in_err-t
returns-in_err-t c = let s = c.args in
    let p = err_from_is_err_and c.from_residual-in_err-t.result c.from_residual-in_err-t.ensures.1 in
    rw (p.1, p.2)
    (test-refused c.in_ok-d.d s.test refused_here (laid s.width.0 s.capture.0 c.in_ok-d.d) _ (sym c.in_err-t.ensures)
    ∙ asked (goal.at.returns-in_err-t c).In_ok-d)

pub layout_of-requires : goal.layout_of-requires
layout_of-requires c = let f = found (goal.at.layout_of-requires c).In_ok-d in
    (f.kept, found-few _ _ _ f.kept (sym c.in_ok-t.ensures), f.some, f.most, f.capture)

pub returns : goal.returns
returns c = let s = c.args in
    ap Ok c.layout_of.ensures
    ∙ test-found c.in_ok-d.d s.test refused_here (laid s.width.0 s.capture.0 c.in_ok-d.d) c.in_ok-t.t (sym c.in_ok-t.ensures)
    ∙ asked (goal.at.returns c).In_ok-d
