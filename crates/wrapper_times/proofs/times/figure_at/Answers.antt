-- `wrapper_times::times::figure_at` meets its contract: a scan that is not computed is one that no planned test needs. Assumes nothing.
use mathlib.Core.Path.{◌≡◌, ap, ◌∙◌}
use mathlib.Core.Bool.{true, false}
use Rattle.wrapper_times.specs.Sums.{scan_if, scan_needed}
use Rattle.wrapper_times.proofs.TimeLaws.{short-scan_needed, needed_measured, figure_scans}
use Rattle.wrapper_times.proofs.times.figure_at.Goals as goal
use Rattle.wrapper_times.proofs.times.figure_at.Goals.{After-scan_if-with, After-scan_if-without}

-- the two scans
with-is : (c : After-scan_if-with) → c.scan_if-with.result ≡ scan_needed c.args.d true c.args.k
with-is c = c.scan_if-with.ensures ∙ ap (λ p. scan_if c.args.d p.with c.args.k) c.requires.1

without_is : (c : After-scan_if-without) → c.scan_if-without.result ≡ scan_needed c.args.d false c.args.k
without_is c = c.scan_if-without.ensures ∙ ap (λ p. scan_if c.args.d p.without c.args.k) c.requires.1

pub scan_if-with-requires : goal.scan_if-with-requires
scan_if-with-requires c = (c.requires.2, c.requires.3, rw (ap (λ p. p.with) c.requires.1) (needed_measured c.args.d true c.requires.0))

pub scan_if-without-requires : goal.scan_if-without-requires
scan_if-without-requires c = (c.requires.2, c.requires.3, rw (ap (λ p. p.without) c.requires.1) (needed_measured c.args.d false c.requires.0))

pub sum_of-requires : goal.sum_of-requires
sum_of-requires c = (
  c.requires.0,
  rw (with-is (goal.at.sum_of-requires c).After-scan_if-with) (short-scan_needed c.args.d true c.args.k c.requires.0),
  rw (without_is (goal.at.sum_of-requires c).After-scan_if-without) (short-scan_needed c.args.d false c.args.k c.requires.0),
  c.requires.4,
)

pub returns : goal.returns
returns c = c.sum_of.ensures
    ∙ rw (with-is (goal.at.returns c).After-scan_if-with, without_is (goal.at.returns c).After-scan_if-without)
    (figure_scans c.args.capture c.args.d c.args.k)
