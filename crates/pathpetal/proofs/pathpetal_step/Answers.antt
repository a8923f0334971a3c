-- `pathpetal::pathpetal_step` meets its contract: it is one walk, and the answer is small. Assumes nothing.
use mathlib.Core.Path.{◌∙◌}
use Rattle.call.specs.Walk.{step_is}
use Rattle.packing.specs.Small.{small_by, packs}
use Rattle.packing.specs.Answers.{step_answer}
use Rattle.pathpetal.proofs.pathpetal_step.Goals as goal

pub pack-requires : goal.pack-requires
pack-requires c = small_by (c.walk.ensures.file_after ∙ step_is _ _) (step_answer _ _)

pub returns-clause-value : goal.returns-clause-value
returns-clause-value c =
    packs (c.walk.ensures.file_after ∙ step_is _ _) c.pack.ensures
