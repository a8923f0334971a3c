-- `values::speeds` meets its contract. Assumes nothing.
use mathlib.Core.Path.{◌∙◌}
use Rattle.std.specs.Result.{result_and}
use Rattle.places.specs.Met.{both_met}
use Rattle.values.proofs.speeds.Goals as goal

pub returns : goal.returns
returns c = c.and.ensures ∙ (λ i. result_and (c.velocities.ensures i) (c.reduced.ensures i)) ∙ both_met _ _
