-- `gauge_state::placeable` meets its contract. Assumes nothing.
use Rattle.std.proofs.Common.{◌≡◌, Bool, ◌∙◌, ap, rules}
use Rattle.std.specs.Prelude.{Ok}
use Rattle.std.specs.Option.{ok_or}
use Rattle.rule.specs.declared.Refusal.TheVariants.{NinthGauge, OffChannel}
use Rattle.rule.specs.Ranges.{between}
use Rattle.rule.specs.Refusals.{require, met}
use Rattle.places.specs.Met.{met_number, from_err, err_first, ok_then, as_err, as_ok}
use Rattle.gauge.specs.State.{free, placeable}
use Rattle.gauge_state.specs.Order.{ninth, none_free, one_free, form_passed}
use Rattle.gauge_state.proofs.placeable.Goals as goal

pub returns-in_err-formed : goal.returns-in_err-formed
unfolding placeable
returns-in_err-formed c =
    from_err _ _ c.from_residual.ensures.1
    ∙ as_err _ _ _ (err_first _ _ _ c.in_err-formed.ensures)

pub first_not-requires : goal.first_not-requires
first_not-requires c = (form_passed c.args.gauges.now (met_number _ _ c.in_ok-formed.ensures)).0

pub returns-in_err-free : goal.returns-in_err-free
unfolding placeable ninth free
returns-in_err-free c =
    let none = none_free _ _ (c.in_err-free.ensures.value ∙ ap (λ r. ok_or r NinthGauge) c.first_not.ensures) in
    from_err _ _ c.from_residual-in_err-free.ensures.1
    ∙ as_err _ _ _ (err_first _ _ _ none ∙ ok_then _ _ _ c.in_ok-formed.ensures)

pub returns-in_err-require : goal.returns-in_err-require
unfolding placeable ninth free between
returns-in_err-require c =
    let one = one_free _ _ (c.in_ok-free.ensures.value ∙ ap (λ r. ok_or r NinthGauge) c.first_not.ensures) in
    let stands : c.contains.result ≡ between 1 c.args.n c.args.cell = search rules in
    from_err _ _ c.from_residual-in_err-require.ensures.1
    ∙ as_err _ _ _ (c.in_err-require.ensures ∙ ap (λ (b : Bool). met (require b OffChannel)) stands ∙ ok_then _ _ _ one.1 ∙ ok_then _ _ _ c.in_ok-formed.ensures)

pub returns : goal.returns
unfolding placeable ninth free between
returns c =
    let one = one_free _ _ (c.in_ok-free.ensures.value ∙ ap (λ r. ok_or r NinthGauge) c.first_not.ensures) in
    let stands : c.contains.result ≡ between 1 c.args.n c.args.cell = search rules in
    ap (λ k. Ok k) one.0
    ∙ as_ok _ _ _ (c.in_ok-require.ensures ∙ ap (λ (b : Bool). met (require b OffChannel)) stands ∙ ok_then _ _ _ one.1 ∙ ok_then _ _ _ c.in_ok-formed.ensures)
