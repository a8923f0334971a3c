-- `coefficients::scale` meets its contract. Assumes nothing.
use Rattle.std.proofs.Common.{refl}
use Rattle.rule.specs.Coefficients.{scale}
use Rattle.coefficients.proofs.scale.Goals as goal

pub returns : goal.returns
unfolding scale
returns c = refl
