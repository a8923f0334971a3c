-- `gauge_state::fresh` meets its contract. Assumes nothing.
use Rattle.std.proofs.Common.{ℤ, to_z, of_z, w64, arith}
use mir.Facts.{to_z_pos}
use Rattle.rule.specs.Rows.{map, sum}
use Rattle.gauge.specs.Waves.{cut_after, begun, but_last, waves_in, highest_from, highest, lowest, heights, largest_height, sum_of_heights}
use Rattle.gauge.specs.Gauge.{last_of, last_piece, since, gauge_of}
use Rattle.gauge_state.proofs.fresh.Goals as goal

pub returns : goal.returns
unfolding gauge_of last_of begun cut_after since last_piece highest lowest largest_height sum_of_heights heights waves_in but_last map sum highest_from
returns c =
    let few = to_z_pos w64 {n = c.args.cell} (omega (arith, c.requires)) in
    let (cell, (fed, (last, (crossings, (highest, (lowest, (largest, sum))))))) = c.default.ensures in
    let back : ℤ → ℤ = λ z. to_z w64 (of_z w64 z) in
    (λ i. record { cell = few i; fed = back (fed i); last = back (last i); crossings = back (crossings i); highest = back (highest i); lowest = back (lowest i); largest = back (largest i); sum = back (sum i) })
