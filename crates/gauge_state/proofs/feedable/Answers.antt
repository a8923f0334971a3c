-- `gauge_state::feedable` meets its contract. Assumes nothing.
use Rattle.std.proofs.Common.{◌≡◌, ◌≤◌, ℕ, ℤ, Bool, List, ◌∙◌, ap, arith, to_z}
use Rattle.std.proofs.Math.Facts.{to_z_pos}
use Rattle.std.specs.Int.{w64}
use Rattle.std.specs.Int.Signed.{le_z}
use Rattle.rule.specs.declared.Refusal.TheVariants.{OffChannel, GaugeFull}
use Rattle.rule.specs.Rows.{all, lowest}
use Rattle.rule.specs.Ranges.{most_cells}
use Rattle.places.specs.Lowest.{found}
use Rattle.gauge.specs.declared.Gauge.{Gauge}
use Rattle.rule.specs.Refusals.{require, met}
use Rattle.places.specs.Met.{met_number, refused_first, ok_then}
use Rattle.gauge.specs.State.{gauges_of, stands_in, has_room, feedable}
use Rattle.gauge_state.specs.Order.{none_is, form_passed}
use Rattle.gauge_state.proofs.feedable.Goals as goal

-- n as the machine's signed number
standing : (n : ℕ) (gs : List Gauge) → n ≤ most_cells → found (lowest (λ (g : Gauge). le_z g.cell (to_z w64 n)) gs) ≡ found (lowest (stands_in n) gs)
unfolding stands_in
standing n gs h = ap (λ (z : ℤ). found (lowest (λ (g : Gauge). le_z g.cell z) gs)) (to_z_pos w64 (omega (arith, h)))

pub returns-in_err-formed : goal.returns-in_err-formed
unfolding feedable
returns-in_err-formed c = refused_first _ _ _ c.in_err-formed.ensures _ c.from_residual.ensures.1

pub first_not-requires : goal.first_not-requires
first_not-requires c = (form_passed c.args.gauges.now (met_number _ _ c.in_ok-formed.ensures)).0

pub returns-in_err-require : goal.returns-in_err-require
unfolding feedable
returns-in_err-require c =
    let stand : c.is_none.result ≡ all (stands_in c.args.n) (gauges_of c.args.gauges.now) = none_is (stands_in c.args.n) _ _ _ (c.first_not.ensures ∙ standing c.args.n _ c.requires) c.is_none.ensures in
    refused_first _ _ _ (c.in_err-require.ensures ∙ ap (λ (b : Bool). met (require b OffChannel)) stand) _ c.from_residual-in_err-require.ensures.1
    ∙ ok_then _ _ _ c.in_ok-formed.ensures

pub first_not-requires-2 : goal.first_not-requires-2
first_not-requires-2 c = (form_passed c.args.gauges.now (met_number _ _ c.in_ok-formed.ensures)).0

pub returns : goal.returns
unfolding feedable
returns c =
    let stand : c.is_none.result ≡ all (stands_in c.args.n) (gauges_of c.args.gauges.now) = none_is (stands_in c.args.n) _ _ _ (c.first_not.ensures ∙ standing c.args.n _ c.requires) c.is_none.ensures in
    let room = none_is has_room _ _ _ c.first_not-2.ensures c.is_none-2.ensures in
    c.require-2.ensures
    ∙ ap (λ (b : Bool). met (require b GaugeFull)) room
    ∙ ok_then _ _ _ (c.in_ok-require.ensures ∙ ap (λ (b : Bool). met (require b OffChannel)) stand)
    ∙ ok_then _ _ _ c.in_ok-formed.ensures
