-- `gauge_state::place` meets its contract. Assumes nothing.
use Rattle.std.proofs.Common.{◌≡◌, ◌+◌, ◌*◌, ◌-◌, ◌≤◌, [], pos, length, ◌∙◌, ap, arith}
use Rattle.rule.specs.Bytes.{row_bytes}
use Rattle.answers.specs.Stages.{acceptance, leaves_bytes}
use Rattle.places.specs.Met.{as_refused, as_done, met_refused}
use Rattle.checks.specs.Numbers.{number_not_0, number_of_done}
use Rattle.gauge.specs.Gauge.{gauge_of}
use Rattle.gauge.specs.State.{state_length, state_numbers, numbers, state_row, placeable, free}
use Rattle.little.specs.Written.{written}
use Rattle.gauge_state.specs.Order.{form_passed, place_passed}
use Rattle.gauge_state.specs.Done.{length_state, all_written, length_with, with_is, free_least, free_most, cell_most, place_refused, place_accepted}
use Rattle.gauge_state.proofs.place.Goals as goal

pub returns-in-Err : goal.returns-in-Err
returns-in-Err c =
    let a = c.args in
    ap (λ r. leaves_bytes r a.gauges.now) c.refused.ensures
    ∙ place_refused a.n a.cell a.gauges.now _ (met_refused _ _ (as_refused _ _ _ c.in-Err.ensures)) (number_not_0 c.in-Err.why)

pub opened-row-requires : goal.opened-row-requires
opened-row-requires c =
    let a = c.args in
    let s = a.gauges.now in
    let passed = number_of_done (placeable a.n a.cell s) _ (as_done _ _ _ c.in-Ok.ensures).is in
    (form_passed s (place_passed s a.n a.cell passed).0).0

pub overflow_sub-free : goal.overflow_sub-free
overflow_sub-free c =
    let a = c.args in
    let d = as_done _ (placeable a.n a.cell a.gauges.now) _ c.in-Ok.ensures in
    omega (arith, d.kept, free_least a.n a.cell a.gauges.now (number_of_done _ _ d.is))

pub overflow_mul-free : goal.overflow_mul-free
overflow_mul-free c =
    let kept : c.in-Ok.free ≡ free c.args.gauges.now = (as_done _ _ _ c.in-Ok.ensures).kept in
    let most : c.in-Ok.free ≤ 8 = omega (arith, kept, free_most c.args.gauges.now) in
    record { fits = omega (arith, most) }

pub fresh-requires : goal.fresh-requires
fresh-requires c =
    let a = c.args in
    let d = as_done _ (placeable a.n a.cell a.gauges.now) _ c.in-Ok.ensures in
    omega (arith, c.requires, cell_most a.n a.cell a.gauges.now (number_of_done _ _ d.is))

pub put_gauge-requires : goal.put_gauge-requires
put_gauge-requires c =
    let a = c.args in
    let d = as_done _ (placeable a.n a.cell a.gauges.now) _ c.in-Ok.ensures in
    let row_long : length c.opened-row.result ≡ state_numbers = ap length c.opened-row.ensures ∙ length_state a.gauges.now in
    omega (arith, d.kept, free_least a.n a.cell a.gauges.now (number_of_done _ _ d.is), free_most a.gauges.now, row_long)

pub write_row-requires : goal.write_row-requires
write_row-requires c =
    let a = c.args in
    let s = a.gauges.now in
    let d = as_done _ (placeable a.n a.cell s) _ c.in-Ok.ensures in
    let passed = number_of_done _ _ d.is in
    let long : length s ≡ state_length = (form_passed s (place_passed s a.n a.cell passed).0).0 in
    let row_long : length c.opened-row.result ≡ state_numbers = ap length c.opened-row.ensures ∙ length_state s in
    let in_row : 8 * (c.in-Ok.free - 1) + 8 ≤ length c.opened-row.result = omega (arith, d.kept, free_least a.n a.cell s passed, free_most s, row_long) in
    let written_long : length c.put_gauge.new.row ≡ state_numbers = ap length c.put_gauge.ensures ∙ length_with c.opened-row.result (8 * (c.in-Ok.free - 1)) c.fresh.result in_row ∙ row_long in
    (omega (arith, written_long, long), λ i l. tt)

pub returns : goal.returns
returns c =
    let a = c.args in
    let s = a.gauges.now in
    let left = c.write_row.new.d in
    let d = as_done _ (placeable a.n a.cell s) _ c.in-Ok.ensures in
    let passed = number_of_done _ _ d.is in
    let long : length s ≡ state_length = (form_passed s (place_passed s a.n a.cell passed).0).0 in
    let row_long : length c.opened-row.result ≡ state_numbers = ap length c.opened-row.ensures ∙ length_state s in
    let in_row : 8 * (c.in-Ok.free - 1) + 8 ≤ length c.opened-row.result = omega (arith, d.kept, free_least a.n a.cell s passed, free_most s, row_long) in
    let written_long : length c.put_gauge.new.row ≡ state_numbers = ap length c.put_gauge.ensures ∙ length_with c.opened-row.result (8 * (c.in-Ok.free - 1)) c.fresh.result in_row ∙ row_long in
    let row =
    c.put_gauge.ensures
    ∙ (λ i. written (c.opened-row.ensures i) (8 * (d.kept i - 1)) (numbers (c.fresh.ensures i)))
    ∙ with_is (state_row s) _ (gauge_of (pos a.cell) []) in
    (λ i. leaves_bytes ((c.accepted.ensures ∙ ap acceptance d.kept) i) left)
    ∙ place_accepted a.n a.cell s left passed
    (all_written s left c.put_gauge.new.row long written_long c.write_row.ensures ∙ ap (row_bytes 8) row)
