-- `pathpetal::pathpetal_read_gauges` meets its contract: the answer is small. Assumes nothing.
use Rattle.packing.specs.Small.{small_by, packs}
use Rattle.packing.specs.Gauges.{read_answer}
use Rattle.pathpetal.proofs.pathpetal_read_gauges.Goals as goal

pub pack-requires : goal.pack-requires
pack-requires c = small_by c.read.ensures (read_answer _ _)

pub returns : goal.returns
returns c = packs c.read.ensures c.pack.ensures
