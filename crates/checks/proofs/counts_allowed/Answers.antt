-- `checks::counts_allowed` meets its contract. Assumes nothing.
use mathlib.Core.Path.{refl}
use Rattle.rule.specs.Ranges.{between, counts_allowed}
use Rattle.checks.proofs.counts_allowed.Goals as goal

pub returns : goal.returns
unfolding between counts_allowed
returns c = refl
