-- `on_file::check` meets its contract: a refusal of the reader has stage 0. Assumes nothing.
use mathlib.Core.Path.{◌∙◌}
use Rattle.reader.specs.Ways.{check_is}
use Rattle.on_file.proofs.check.Goals as goal

pub returns-clause-value : goal.returns-clause-value
returns-clause-value c = c.answer.ensures ∙ check_is c.args.s.now
