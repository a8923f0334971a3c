-- `answers::paused` meets its contract: no stage has the number 16. Assumes nothing.
use mathlib.Core.Path.{sym, ◌∙◌, ap}
use lib.Dec.{lit≤}
use Rattle.rule.specs.Calls.{more_steps}
use Rattle.answers.specs.Stages.{stage_high}
use Rattle.answers.proofs.paused.Goals as goal

pub returns : goal.returns
returns c = ap (λ k. record { number = more_steps; stage = k; place = 0; count = c.before.args.count }) (c.stage_of.ensures ∙ sym (stage_high more_steps 0 (lit≤ tt)))
