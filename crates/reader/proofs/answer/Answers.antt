-- `reader::answer` meets its contract. Assumes nothing.
use mathlib.Core.Path.{◌∙◌, ap}
use Rattle.std.specs.Prelude.{ℕ, Ok}
use Rattle.std.specs.Result.{result_and}
use Rattle.answers.specs.Stages.{answer_of}
use Rattle.reader.specs.Ways.{none_counted}
use Rattle.reader.proofs.answer.Goals as goal

pub returns : goal.returns
returns c =
    c.of.ensures
    ∙ ap answer_of (c.and.ensures ∙ ap (λ r. result_and {U = ℕ} r (Ok 0)) c.check.ensures ∙ none_counted _)
