-- `places::require` meets its contract. Assumes nothing.
use Rattle.rule.specs.Refusals.{met, require}
use Rattle.places.proofs.require.Goals as goal

pub returns-then-passes : goal.returns-then-passes
unfolding met require
returns-then-passes c = rw c.if-passes.true

pub returns-else-passes : goal.returns-else-passes
unfolding met require
returns-else-passes c = rw c.if-passes.false
