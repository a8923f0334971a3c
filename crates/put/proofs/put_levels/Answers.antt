-- `put::put_levels` meets its contract: each row starts where the layout says. Assumes nothing.
use mathlib.Core.Path.{refl}
use native.Mathlib.Omega.{arith}
use Rattle.rule.specs.Channel.{lengths}
use Rattle.rule.specs.Layout.{widths}
use Rattle.rule.specs.File.{edition}
use Rattle.layout.specs.Rows.{row_stands}
use Rattle.put.specs.Runs.{three_rows}
use Rattle.put.proofs.put_levels.Goals as goal

pub write_row-requires : goal.write_row-requires
unfolding widths lengths
write_row-requires c =
    let p = c.requires in
    (row_stands edition _ 4 c.start_of.ensures refl p.1.q_long (omega (arith, p.0.sized)) (omega arith), λ _ _. tt)

pub write_row-requires-2 : goal.write_row-requires-2
unfolding widths lengths
write_row-requires-2 c =
    let p = c.requires in
    (row_stands edition _ 5 c.start_of-2.ensures refl p.1.f_long (omega (arith, p.0.sized)) (omega arith), λ _ _. tt)

pub write_row-requires-3 : goal.write_row-requires-3
unfolding widths lengths
write_row-requires-3 c =
    let p = c.requires in
    (row_stands edition _ 6 c.start_of-3.ensures refl p.1.damping_long (omega (arith, p.0.sized)) (omega arith), p.1.damping_small.at)

pub returns : goal.returns
returns c =
    let a = c.args in
    three_rows a.n a.q.now a.f.now a.damping.now c.requires.0 c.requires.1
    c.start_of.ensures c.start_of-2.ensures c.start_of-3.ensures
    c.write_row.ensures c.write_row-2.ensures c.write_row-3.ensures
