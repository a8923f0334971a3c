-- `stage::correction` meets its contract. Assumes nothing.
use mathlib.Core.Path.{◌∙◌, ap}
use Rattle.rule.specs.Counted.{lent}
use Rattle.rule.specs.Refusals.{met_as}
use Rattle.stage.specs.Stages.{corrects_is}
use Rattle.stage.specs.Trials.{trial_of}
use Rattle.stage.proofs.correction.Goals as goal

pub returns : goal.returns
returns c = c.stage.ensures ∙ ap (met_as (trial_of c.args.c.counts.n)) (corrects_is (lent c.args.c) c.args.s.now c.args.before.now)
