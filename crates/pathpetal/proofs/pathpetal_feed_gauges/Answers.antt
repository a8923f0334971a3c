-- `pathpetal::pathpetal_feed_gauges` meets its contract: the answer is small. Assumes nothing.
use Rattle.packing.specs.Small.{small_by, packs}
use Rattle.packing.specs.Gauges.{feed_answer}
use Rattle.pathpetal.proofs.pathpetal_feed_gauges.Goals as goal

pub pack-requires : goal.pack-requires
pack-requires c = small_by c.feed_file.ensures (feed_answer _ _)

pub returns : goal.returns
returns c = packs c.feed_file.ensures c.pack.ensures
