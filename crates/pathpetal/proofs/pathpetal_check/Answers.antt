-- `pathpetal::pathpetal_check` meets its contract: the answer is small. Assumes nothing.
use mathlib.Core.Path.{sym, ap, ◌∙◌, subst}
use Rattle.rule.specs.Calls.{packed}
use Rattle.reader.specs.Ways.{check_is}
use Rattle.packing.specs.Small.{Small}
use Rattle.packing.specs.Answers.{check_answer}
use Rattle.pathpetal.proofs.pathpetal_check.Goals as goal
use Rattle.pathpetal.proofs.pathpetal_check.Goals.{After-answer}

-- the reader's answer is the check's
pub pack-requires : goal.pack-requires
pack-requires c =
    let s = c.args.file.now in
    subst Small (sym (c.answer.ensures ∙ check_is s)) (check_answer _)

pub returns-clause-value : goal.returns-clause-value
returns-clause-value c =
    let s = c.args.file.now in
    c.pack.ensures ∙ ap packed (c.answer.ensures ∙ check_is s)
