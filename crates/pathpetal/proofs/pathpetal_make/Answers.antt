-- `pathpetal::pathpetal_make` meets its contract: the answer is small. Assumes nothing.
use Rattle.packing.specs.Small.{small_by, packs}
use Rattle.packing.specs.Answers.{make_answer}
use Rattle.pathpetal.proofs.pathpetal_make.Goals as goal

pub pack-requires : goal.pack-requires
pack-requires c = small_by c.make.ensures (make_answer _ _ _ _ _ _ _ _ _)

pub returns : goal.returns
returns c = packs c.make.ensures c.pack.ensures
