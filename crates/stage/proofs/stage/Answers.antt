-- `stage::stage` meets its contract. Assumes nothing.
use mathlib.Core.Path.{◌∙◌, ap}
use Rattle.rule.specs.Counted.{lent}
use Rattle.rule.specs.Refusals.{met_as}
use Rattle.stage.specs.Stages.{tried_asked, stage_is}
use Rattle.stage.specs.Trials.{trial_of}
use Rattle.stage.proofs.stage.Goals as goal

pub tried-requires : goal.tried-requires
tried-requires c =
    let a = c.args in
    tried_asked a.kind (lent a.c) a.s.now a.before_q.now a.before_f.now c.requires.0 c.requires.1 c.raised-raised.result c.hastened-hastened.result c.raised-raised.ensures c.hastened-hastened.ensures

pub returns : goal.returns
returns c =
    let a = c.args in
    c.tried.ensures
    ∙ ap (met_as (trial_of a.c.counts.n)) (stage_is a.kind (lent a.c) a.s.now a.before_q.now a.before_f.now c.requires.0 c.requires.1 c.raised-raised.result c.hastened-hastened.result c.raised-raised.ensures c.hastened-hastened.ensures)
