-- `stage::prediction` meets its contract. Assumes nothing.
use mathlib.Core.Path.{◌∙◌, ap}
use Rattle.rule.specs.Counted.{lent}
use Rattle.rule.specs.Refusals.{met_as}
use Rattle.stage.specs.Stages.{predicts}
use Rattle.stage.specs.Trials.{trial_of}
use Rattle.stage.proofs.prediction.Goals as goal

pub returns : goal.returns
returns c = c.stage.ensures ∙ ap (met_as (trial_of c.args.c.counts.n)) (predicts (lent c.args.c) c.args.s.now)
