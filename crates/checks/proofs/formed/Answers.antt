-- `checks::formed` meets its contract. Assumes nothing.
use mathlib.Core.Path.{◌∙◌}
use Rattle.std.specs.Result.{result_and}
use Rattle.places.specs.Met.{both_met}
use Rattle.checks.specs.Order.{formed}
use Rattle.checks.proofs.formed.Goals as goal

pub returns : goal.returns
unfolding formed
returns c = c.and.ensures ∙ (λ i. result_and (c.require-shaped.ensures i) (c.require-counted.ensures i)) ∙ both_met _ _
