-- `round::within` meets its contract. Assumes nothing.
use Rattle.rule.specs.Floats.{within_float}
use Rattle.round.proofs.within.Goals as goal

pub returns-then-x-bound : goal.returns-then-x-bound
unfolding within_float
returns-then-x-bound c = rw (← c.nearest_u64_to_f64-bound.ensures, c.if-x-bound.true)

pub returns-else-x-bound : goal.returns-else-x-bound
unfolding within_float
returns-else-x-bound c = rw (← c.nearest_u64_to_f64-bound.ensures, c.if-x-bound.false)
