-- `pathpetal::pathpetal_run` meets its contract: it is one walk, and the answer is small. Assumes nothing.
use mathlib.Core.Path.{◌∙◌}
use Rattle.call.specs.Walk.{run_is}
use Rattle.packing.specs.Small.{small_by, packs}
use Rattle.packing.specs.Answers.{run_answer}
use Rattle.pathpetal.proofs.pathpetal_run.Goals as goal

pub pack-requires : goal.pack-requires
pack-requires c = small_by (c.walk.ensures.file_after ∙ run_is _ _ _) (run_answer _ _)

pub returns-clause-value : goal.returns-clause-value
returns-clause-value c =
    packs (c.walk.ensures.file_after ∙ run_is _ _ _) c.pack.ensures
