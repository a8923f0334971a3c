-- `gauge_state::first_not` meets its contract. Assumes nothing.
use Rattle.std.proofs.Common.{◌∙◌, ap}
use Rattle.rule.specs.Rows.{lowest}
use Rattle.gauge.specs.State.{gauges_in, gauges_of}
use Rattle.places.specs.Lowest.{found}
use Rattle.gauge_state.proofs.first_not.Goals as goal

pub returns : goal.returns
unfolding gauges_of
returns g c = c.first_failing.ensures ∙ ap (λ row. found (lowest (g.T.Test.passes c.args.test.now) (gauges_in row))) c.opened.ensures
