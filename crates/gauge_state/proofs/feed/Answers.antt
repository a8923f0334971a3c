-- `gauge_state::feed` meets its contract. Assumes nothing.
use Rattle.std.proofs.Common.{◌≡◌, length, refl, ◌∙◌, ap, arith}
use Rattle.rule.specs.Rows.{map, all}
use Rattle.rule.specs.Bytes.{row_bytes}
use Rattle.answers.specs.Stages.{leaves_bytes}
use Rattle.places.specs.Met.{met_refused, met_number}
use Rattle.checks.specs.Numbers.{number_not_0}
use Rattle.gauge.specs.Gauge.{right}
use Rattle.gauge.specs.State.{state_numbers, numbers, gauges_in, flat, gauges_of, state_of, stands_in, fed_from}
use Rattle.gauge_state.specs.Order.{form_passed, feed_passed}
use Rattle.gauge_state.specs.Done.{length_state, all_written, length_fed, feed_refused, feed_accepted}
use Rattle.gauge_state.proofs.feed.Goals as goal

pub returns-in-Err : goal.returns-in-Err
returns-in-Err c =
    let a = c.args in
    ap (λ r. leaves_bytes r a.gauges.now) c.refused.ensures
    ∙ feed_refused a.e.now a.gauges.now _ (met_refused _ _ c.in-Err.ensures) (number_not_0 c.in-Err.why)

pub opened-row-requires : goal.opened-row-requires
opened-row-requires c =
    let s = c.args.gauges.now in
    (form_passed s (feed_passed s (length c.args.e.now) (met_number _ _ c.in_default.ensures)).0).0

pub feed-requires : goal.feed-requires
unfolding gauges_of
feed-requires c =
    let s = c.args.gauges.now in
    let n = length c.args.e.now in
    let p = feed_passed s n (met_number _ _ c.in_default.ensures) in
    let row = c.opened-row.ensures in
    record {
      long = ap length row ∙ length_state s;
      room = refl;
      right = ap (λ r. all right (gauges_in r)) row ∙ (form_passed s p.0).1;
      stand = ap (λ r. all (stands_in n) (gauges_in r)) row ∙ p.1.0;
      small = c.requires.1;
    }

pub write_row-requires : goal.write_row-requires
write_row-requires c =
    let s = c.args.gauges.now in
    let long = (form_passed s (feed_passed s (length c.args.e.now) (met_number _ _ c.in_default.ensures)).0).0 in
    let written_long : length c.feed.new.out ≡ state_numbers = ap length c.feed.ensures ∙ length_fed c.args.e.now c.opened-row.result in
    (omega (arith, written_long, long), λ i l. tt)

pub returns : goal.returns
unfolding state_of gauges_of
returns c =
    let s = c.args.gauges.now in
    let e = c.args.e.now in
    let left = c.write_row.new.d in
    let passed = met_number _ _ c.in_default.ensures in
    let long = (form_passed s (feed_passed s (length e) passed).0).0 in
    let written_long = ap length c.feed.ensures ∙ length_fed e c.opened-row.result in
    let row = c.feed.ensures ∙ ap (λ r. flat (map numbers (map (fed_from e) (gauges_in r)))) c.opened-row.ensures in
    ap (λ r. leaves_bytes r left) c.accepted.ensures
    ∙ feed_accepted e s left passed
    (all_written s left c.feed.new.out long written_long c.write_row.ensures ∙ ap (row_bytes 8) row)
