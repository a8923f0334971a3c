-- `checks::cells_allowed` meets its contract. Assumes nothing.
use mathlib.Core.Path.{refl}
use Rattle.rule.specs.Ranges.{between, cells_allowed}
use Rattle.checks.proofs.cells_allowed.Goals as goal

pub returns : goal.returns
unfolding between cells_allowed
returns c = refl
