-- `checks::make_shaped` meets its contract. Assumes nothing.
use mathlib.Core.Bool.{◌&&◌}
use Rattle.checks.specs.Tests.{long_is}
use Rattle.checks.proofs.make_shaped.Goals as goal

pub returns : goal.returns
returns c =
    let a = c.before.args in
    (λ i. c.cells_allowed.ensures i && long_is a.n a.h.now a.e.now a.u.now a.damping.now i)
