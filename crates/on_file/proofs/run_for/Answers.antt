-- `on_file::run_for` meets its contract: it is one walk. Assumes nothing.
use mathlib.Core.Path.{◌∙◌}
use Rattle.call.specs.Walk.{run_is}
use Rattle.on_file.proofs.run_for.Goals as goal

pub returns-clause-file_after : goal.returns-clause-file_after
returns-clause-file_after c = c.walk.ensures.file_after ∙ run_is _ _ _
