-- `filter::pass` meets its contract: what is smoothed has passed the checks of the input. Assumes nothing.
use mathlib.Core.Path.{◌∙◌, ap}
use mathlib.Core.List.{[]}
use Rattle.rule.specs.Counted.{lent}
use Rattle.rule.specs.Refusals.{met_as}
use Rattle.places.specs.Met.{from_err}
use Rattle.stage.specs.Trials.{trial_of}
use Rattle.filter.specs.Asked.{smoothing_of}
use Rattle.filter.specs.Filtered.{checks_passed, not_ready, pass_tries}
use Rattle.filter.proofs.pass.Goals as goal

pub returns-in_err-ready : goal.returns-in_err-ready
returns-in_err-ready c = from_err _ _ c.from_residual.ensures.1 ∙ not_ready (lent c.args.c) _ c.in_err-ready.ensures

pub smoothed-requires : goal.smoothed-requires
smoothed-requires c = smoothing_of (lent c.args.c) (checks_passed (lent c.args.c) [] c.in_ok-ready.ensures)

pub returns : goal.returns
returns c = c.smoothed.ensures ∙ ap (met_as (trial_of c.args.c.counts.n)) (pass_tries (lent c.args.c) c.in_ok-ready.ensures)
