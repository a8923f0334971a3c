-- `filter::smoothed` meets its contract. Assumes nothing.
use mathlib.Core.Path.{◌∙◌, ap}
use Rattle.rule.specs.Counted.{lent}
use Rattle.rule.specs.Refusals.{met_as}
use Rattle.stage.specs.Trials.{trial_of}
use Rattle.filter.specs.Asked.{tried_asked, tried_are}
use Rattle.filter.proofs.smoothed.Goals as goal

pub tried-requires : goal.tried-requires
tried-requires c = tried_asked (lent c.args.c) _ _ c.requires c.smoothed-heights.ensures c.smoothed_reduced-reduced.ensures

pub returns : goal.returns
returns c =
    c.tried.ensures
    ∙ ap (met_as (trial_of c.args.c.counts.n)) (tried_are (lent c.args.c) _ _ c.requires c.smoothed-heights.ensures c.smoothed_reduced-reduced.ensures)
