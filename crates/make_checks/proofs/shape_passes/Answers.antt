-- `make_checks::shape_passes` meets its contract: past the test of N, 4N does not wrap. Assumes nothing.
use mathlib.Core.Path.{sym, ◌∙◌}
use native.Mathlib.Omega.{arith}
use Rattle.rule.specs.Calls.{holds}
use Rattle.checks.specs.Facts.{cells_few}
use Rattle.make_checks.proofs.shape_passes.Goals as goal
use Rattle.make_checks.proofs.shape_passes.Goals.{Else-not-cells_allowed, Start}

pub returns-then-not-cells_allowed : goal.returns-then-not-cells_allowed
returns-then-not-cells_allowed c = rw (sym c.cells_allowed.ensures ∙ c.if-not-cells_allowed.true)

pub overflow_mul-bytes : goal.overflow_mul-bytes
overflow_mul-bytes c = omega (arith, cells_few c.args.n (sym c.cells_allowed.ensures ∙ c.if-not-cells_allowed.false))

pub returns : goal.returns
unfolding holds
returns c = rw (sym c.cells_allowed.ensures ∙ c.if-not-cells_allowed.false)
