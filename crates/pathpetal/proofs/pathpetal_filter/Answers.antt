-- `pathpetal::pathpetal_filter` meets its contract: it is one walk, and the answer is small. Assumes nothing.
use mathlib.Core.Path.{◌∙◌}
use Rattle.call.specs.Walk.{filter_is}
use Rattle.packing.specs.Small.{small_by, packs}
use Rattle.packing.specs.Answers.{filter_answer}
use Rattle.pathpetal.proofs.pathpetal_filter.Goals as goal

pub pack-requires : goal.pack-requires
pack-requires c = small_by (c.walk.ensures.file_after ∙ filter_is _ _) (filter_answer _)

pub returns-clause-value : goal.returns-clause-value
returns-clause-value c =
    packs (c.walk.ensures.file_after ∙ filter_is _ _) c.pack.ensures
