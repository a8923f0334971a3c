-- `on_file::filter` meets its contract: it is one walk. Assumes nothing.
use mathlib.Core.Path.{◌∙◌}
use Rattle.call.specs.Walk.{filter_is}
use Rattle.on_file.proofs.filter.Goals as goal

pub returns-clause-file_after : goal.returns-clause-file_after
returns-clause-file_after c = c.walk.ensures.file_after ∙ filter_is _ _
