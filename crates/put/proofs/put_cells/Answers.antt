-- `put::put_cells` meets its contract: each row starts where the layout says. Assumes nothing.
use mathlib.Core.Path.{refl}
use native.Mathlib.Omega.{arith}
use Rattle.rule.specs.Channel.{lengths}
use Rattle.rule.specs.Layout.{widths}
use Rattle.rule.specs.File.{edition}
use Rattle.layout.specs.Rows.{row_stands}
use Rattle.put.specs.Runs.{four_rows}
use Rattle.put.proofs.put_cells.Goals as goal

pub write_row-requires : goal.write_row-requires
unfolding widths lengths
write_row-requires c =
    let p = c.requires in
    let long = p.1.h_long in
    (row_stands edition _ 0 c.start_of.ensures refl long (omega (arith, p.0.sized)) (omega arith), p.1.h_small.at)

pub write_row-requires-2 : goal.write_row-requires-2
unfolding widths lengths
write_row-requires-2 c =
    let p = c.requires in
    let long = p.1.e_long in
    (row_stands edition _ 1 c.start_of-2.ensures refl long (omega (arith, p.0.sized)) (omega arith), p.1.e_small.at)

pub write_row-requires-3 : goal.write_row-requires-3
unfolding widths lengths
write_row-requires-3 c =
    let p = c.requires in
    let long = p.1.u_long in
    (row_stands edition _ 2 c.start_of-3.ensures refl long (omega (arith, p.0.sized)) (omega arith), p.1.u_small.at)

pub write_row-requires-4 : goal.write_row-requires-4
unfolding widths lengths
write_row-requires-4 c =
    let p = c.requires in
    let long = p.1.v_long in
    (row_stands edition _ 3 c.start_of-4.ensures refl long (omega (arith, p.0.sized)) (omega arith), p.1.v_small.at)

pub returns : goal.returns
returns c =
    let a = c.args in
    four_rows a.n a.h.now a.e.now a.u.now a.v.now c.requires.0 c.requires.1
    c.start_of.ensures c.start_of-2.ensures c.start_of-3.ensures c.start_of-4.ensures
    c.write_row.ensures c.write_row-2.ensures c.write_row-3.ensures c.write_row-4.ensures
