-- `pathpetal::pathpetal_place_gauge` meets its contract: the answer is small. Assumes nothing.
use Rattle.packing.specs.Small.{small_by, packs}
use Rattle.packing.specs.Gauges.{place_answer}
use Rattle.pathpetal.proofs.pathpetal_place_gauge.Goals as goal

pub pack-requires : goal.pack-requires
pack-requires c = small_by c.place_file.ensures (place_answer _ _ _)

pub returns : goal.returns
returns c = packs c.place_file.ensures c.pack.ensures
