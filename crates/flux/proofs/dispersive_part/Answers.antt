-- `flux::dispersive_part` meets its contract. Assumes nothing.
use Rattle.flux.proofs.Laws.{part_is}
use Rattle.flux.proofs.dispersive_part.Goals as goal

pub returns : goal.returns
returns c = part_is c.args.ms.now c.args.j
