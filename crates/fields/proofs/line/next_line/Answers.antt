-- `fields::line::next_line` meets its contract: what its invariant (Invariants.antt) leaves to show. Assumes nothing.
use native.Mathlib.Omega.{arith}
use Prim.Native.Nat.{◌+◌}
use mathlib.Core.Path.{◌≡◌, refl, sym, ap, ◌∙◌}
use Rattle.fields.specs.Lines.{lines_from, line_start}
use Rattle.fields.proofs.LineLaws.{LineIs, line-is, lines-blank, lines-some, lines_none, start-more}
use Rattle.fields.proofs.line.next_line.Goals as goal
use Rattle.fields.proofs.line.next_line.Goals.{After-line_at-line}

-- the line at `at`
line : (c : After-line_at-line) → LineIs c.args.text.now c.loop-at.at c.line_at-line.result.to c.line_at-line.result.next
line c = line-is _ _ _ c.loop-at-test.true c.line_at-line.ensures

pub loop-at-init : goal.loop-at-init
unfolding line_start
loop-at-init c = (omega arith, refl, λ n. let e : n + 0 ≡ n = omega arith in rw e)

pub slice_bounds-is_blank-count : goal.slice_bounds-is_blank-count
slice_bounds-is_blank-count c = (line c).begin

pub slice_bounds-is_blank-start : goal.slice_bounds-is_blank-start
slice_bounds-is_blank-start c = let k = line c in omega arith

pub slice_bounds-is_blank-end : goal.slice_bounds-is_blank-end
slice_bounds-is_blank-end c = let k = line c in omega arith

pub returns-then-not-is_blank : goal.returns-then-not-is_blank
returns-then-not-is_blank c = let k = line (goal.at.returns-then-not-is_blank c).After-line_at-line in
    record {
      placed = record { passed = c.loop-at.invariant.0; begin = k.begin; end = k.end; more = k.more; inside = k.inside };
      meant = λ n. sym (c.loop-at.invariant.2 n ∙ lines-some _ _ _ _ k (sym c.is_blank.ensures ∙ c.if-not-is_blank.true) (n + c.loop-at.passed));
      exact = record { starts = c.loop-at.invariant.1; ends = c.line_at-line.ensures };
    }

pub loop-at-smaller : goal.loop-at-smaller
loop-at-smaller c = let k = line (goal.at.loop-at-smaller c).After-line_at-line in omega arith

pub loop-at-preserved : goal.loop-at-preserved
loop-at-preserved c = let k = line (goal.at.loop-at-preserved c).After-line_at-line in (
  omega arith,
  start-more _ _ _ _ _ c.loop-at.invariant.1 c.line_at-line.ensures,
  λ n.
      let e : n + c.loop-at.passed + 1 ≡ n + (c.loop-at.passed + 1) = omega arith in
      c.loop-at.invariant.2 n ∙ lines-blank _ _ _ _ k (sym c.is_blank.ensures ∙ c.if-not-is_blank.false) (n + c.loop-at.passed) ∙ ap (λ m. lines_from m c.args.text.now c.line_at-line.result.next) e,
)

pub returns : goal.returns
returns c = record { placed = tt; meant = λ n. sym (c.loop-at.invariant.2 n ∙ lines_none _ _ _ c.loop-at-test.false); exact = tt }
