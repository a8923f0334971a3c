-- `equation::above` meets its contract: the unrounded u after a row is used as it is. Assumes nothing.
use Rattle.std.proofs.Common.{refl}
use Rattle.equation.proofs.above.Goals as goal

pub returns : goal.returns
returns c = refl
