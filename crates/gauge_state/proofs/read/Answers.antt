-- `gauge_state::read` meets its contract. Assumes nothing.
use Rattle.std.proofs.Common.{length, ◌∙◌, ap}
use Rattle.rule.specs.Rows.{map, all}
use Rattle.places.specs.Met.{met_refused, met_number}
use Rattle.checks.specs.Numbers.{number_not_0}
use Rattle.gauge.specs.Gauge.{right}
use Rattle.gauge.specs.State.{reading, gauges_in, flat, gauges_of}
use Rattle.gauge_state.specs.Left.{leaves_row}
use Rattle.gauge_state.specs.Order.{form_passed, read_passed}
use Rattle.gauge_state.specs.Done.{length_state, read_refused, read_accepted}
use Rattle.gauge_state.proofs.read.Goals as goal

pub returns-in-Err : goal.returns-in-Err
returns-in-Err c =
    let a = c.args in
    ap (λ r. leaves_row r a.readings.now) c.refused.ensures
    ∙ read_refused a.gauges.now a.readings.now _ (met_refused _ _ c.in-Err.ensures) (number_not_0 c.in-Err.why)

pub opened-requires : goal.opened-requires
opened-requires c =
    let s = c.args.gauges.now in
    (form_passed s (read_passed s (length c.args.readings.now) (met_number _ _ c.in_default.ensures)).0).0

pub read-requires : goal.read-requires
unfolding gauges_of
read-requires c =
    let s = c.args.gauges.now in
    let p = read_passed s (length c.args.readings.now) (met_number _ _ c.in_default.ensures) in
    let row = c.opened.ensures in
    record {
      long = ap length row ∙ length_state s;
      room = p.1;
      right = ap (λ r. all right (gauges_in r)) row ∙ (form_passed s p.0).1;
    }

pub returns : goal.returns
unfolding gauges_of
returns c =
    let a = c.args in
    ap (λ t. leaves_row t c.read.new.out) c.accepted.ensures
    ∙ read_accepted a.gauges.now a.readings.now c.read.new.out (met_number _ _ c.in_default.ensures)
    (c.read.ensures ∙ ap (λ row. flat (map reading (gauges_in row))) c.opened.ensures)
