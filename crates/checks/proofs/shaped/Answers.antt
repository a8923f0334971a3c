-- `checks::shaped` meets its contract: past the test of N, N is from 8 to 256. Assumes nothing.
use mathlib.Core.Path.{sym, ◌∙◌}
use native.Mathlib.Omega.{arith}
use Rattle.checks.specs.Facts.{cells_few}
use Rattle.checks.specs.Tests.{lengths_are}
use Rattle.checks.proofs.shaped.Goals as goal

pub returns-then-not-cells_allowed : goal.returns-then-not-cells_allowed
returns-then-not-cells_allowed c = rw (sym c.cells_allowed.ensures ∙ c.if-not-cells_allowed.true)

pub overflow_sub-result : goal.overflow_sub-result
overflow_sub-result c = omega (arith, cells_few c.args.c.counts.n (sym c.cells_allowed.ensures ∙ c.if-not-cells_allowed.false))

pub overflow_mul-result : goal.overflow_mul-result
overflow_mul-result c = omega (arith, cells_few c.args.c.counts.n (sym c.cells_allowed.ensures ∙ c.if-not-cells_allowed.false))

pub overflow_mul-result-2 : goal.overflow_mul-result-2
overflow_mul-result-2 c = omega (arith, cells_few c.args.c.counts.n (sym c.cells_allowed.ensures ∙ c.if-not-cells_allowed.false))

pub returns : goal.returns
returns c =
    let a = c.args.c in
    rw (sym c.cells_allowed.ensures ∙ c.if-not-cells_allowed.false) (lengths_are a.counts.n a.h.now a.e.now a.u.now a.v.now a.q.now a.f.now a.damping.now)
