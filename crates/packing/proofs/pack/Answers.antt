-- `packing::pack` meets its contract. Assumes nothing.
use mathlib.Core.Path.{refl}
use Rattle.rule.specs.Calls.{packed}
use Rattle.packing.proofs.pack.Goals as goal

pub returns : goal.returns
unfolding packed
returns c = refl
