-- `on_file::step` meets its contract: it is one walk. Assumes nothing.
use mathlib.Core.Path.{◌∙◌}
use Rattle.call.specs.Walk.{step_is}
use Rattle.on_file.proofs.step.Goals as goal

pub returns-clause-file_after : goal.returns-clause-file_after
returns-clause-file_after c = c.walk.ensures.file_after ∙ step_is _ _
