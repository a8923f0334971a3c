-- `form::shape_passes` meets its contract: past the test of N, 4N does not wrap. Assumes nothing.
use mathlib.Core.Path.{sym, ◌∙◌}
use native.Mathlib.Omega.{arith}
use Rattle.rule.specs.Calls.{holds}
use Rattle.checks.specs.Facts.{cells_few}
use Rattle.form.proofs.shape_passes.Goals as goal

pub returns-then-not-cells_allowed : goal.returns-then-not-cells_allowed
returns-then-not-cells_allowed c = rw (sym c.cells_allowed.ensures ∙ c.if-not-cells_allowed.true)

pub overflow_mul-result : goal.overflow_mul-result
overflow_mul-result c = record { fits = omega (arith, cells_few c.args.n (sym c.cells_allowed.ensures ∙ c.if-not-cells_allowed.false)) }

pub returns-in-Some : goal.returns-in-Some
unfolding holds
returns-in-Some c = rw (c.in-Some.is, sym c.cells_allowed.ensures ∙ c.if-not-cells_allowed.false)

pub returns-in-None : goal.returns-in-None
returns-in-None c = rw (c.in-None.is, sym c.cells_allowed.ensures ∙ c.if-not-cells_allowed.false)
