-- `answers::refused` meets its contract: the stage is that of its number. Assumes nothing.
use mathlib.Core.Path.{◌∙◌, ap}
use Rattle.answers.specs.Stages.{stage_of}
use Rattle.answers.proofs.refused.Goals as goal

pub returns : goal.returns
returns c =
    let stage = c.stage_of.ensures ∙ ap (λ n. stage_of n c.args.k) c.number-number.ensures in
    (λ i. record { number = c.number-number.ensures i; stage = stage i; place = c.place.ensures i; count = 0 })
