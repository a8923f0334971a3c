-- `gauge_state::formed` meets its contract. Assumes nothing.
use Rattle.std.proofs.Common.{Bool, ◌∙◌, ap}
use Rattle.rule.specs.declared.Refusal.TheVariants.{GaugesValue}
use Rattle.rule.specs.Refusals.{require, met}
use Rattle.gauge.specs.Gauge.{right}
use Rattle.gauge_state.specs.Order.{none_is, form_short, form_long}
use Rattle.gauge_state.proofs.formed.Goals as goal

pub returns-then-gauges-ne-LENGTH : goal.returns-then-gauges-ne-LENGTH
returns-then-gauges-ne-LENGTH c = form_short c.args.gauges.now c.if-gauges-ne-LENGTH.true

pub returns : goal.returns
returns c =
    let passes = none_is right _ _ _ c.first_not.ensures c.is_none.ensures in
    c.require.ensures ∙ ap (λ (b : Bool). met (require b GaugesValue)) passes ∙ form_long c.args.gauges.now c.if-gauges-ne-LENGTH.false
