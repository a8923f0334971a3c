-- `solve::in_range` meets its contract. Assumes nothing.
use mathlib.Core.Path.{sym, ◌∙◌}
use Rattle.rule.specs.Refusals.{met, require, ◌>>=◌}
use Rattle.solve.specs.Sweeps.{in_range}
use Rattle.solve.proofs.in_range.Goals as goal

pub returns-then-within : goal.returns-then-within
unfolding in_range met require ◌>>=◌
returns-then-within c = let e = sym c.within.ensures ∙ c.if-within.true in rw e

pub returns-else-within : goal.returns-else-within
unfolding in_range met require ◌>>=◌
returns-else-within c = let e = sym c.within.ensures ∙ c.if-within.false in rw e
