-- `opened::keep_cells` meets its contract: each row stands where the layout says. Assumes nothing.
use mathlib.Core.Path.{refl, sym, ◌∙◌}
use native.Mathlib.Omega.{arith}
use Rattle.rule.specs.Channel.{lengths}
use Rattle.rule.specs.Layout.{widths}
use Rattle.rule.specs.File.{edition, channel_of}
use Rattle.layout.specs.Rows.{row_stands}
use Rattle.opened.specs.Fitting.{cells_sized, cells_start, held_row}
use Rattle.opened.proofs.keep_cells.Goals as goal

pub start_of-requires : goal.start_of-requires
start_of-requires c = cells_start c.requires 0 (omega arith)

pub keep_row-requires : goal.keep_row-requires
unfolding widths lengths
keep_row-requires c = row_stands edition _ 0 c.start_of.ensures refl refl (cells_sized c.requires) (omega arith)

pub start_of-requires-2 : goal.start_of-requires-2
start_of-requires-2 c = cells_start c.requires 1 (omega arith)

pub keep_row-requires-2 : goal.keep_row-requires-2
unfolding widths lengths
keep_row-requires-2 c =
    let long = c.requires.e_long ∙ sym c.requires.h_long in
    row_stands edition _ 1 c.start_of-2.ensures refl long (cells_sized c.requires) (omega arith)

pub start_of-requires-3 : goal.start_of-requires-3
start_of-requires-3 c = cells_start c.requires 2 (omega arith)

pub keep_row-requires-3 : goal.keep_row-requires-3
unfolding widths lengths
keep_row-requires-3 c =
    let long = c.requires.u_long ∙ sym c.requires.h_long in
    row_stands edition _ 2 c.start_of-3.ensures refl long (cells_sized c.requires) (omega arith)

pub start_of-requires-4 : goal.start_of-requires-4
start_of-requires-4 c = cells_start c.requires 3 (omega arith)

pub keep_row-requires-4 : goal.keep_row-requires-4
unfolding widths lengths
keep_row-requires-4 c =
    let long = c.requires.v_long ∙ sym c.requires.h_long in
    row_stands edition _ 3 c.start_of-4.ensures refl long (cells_sized c.requires) (omega arith)

pub returns : goal.returns
unfolding channel_of widths lengths
returns c =
    let f = c.args.s.now in
    let w = c.requires in
    let n = w.h_long in (
      c.keep_row.ensures ∙ held_row f _ 0 c.start_of.ensures refl refl n,
      c.keep_row-2.ensures ∙ held_row f _ 1 c.start_of-2.ensures refl (w.e_long ∙ sym n) n,
      c.keep_row-3.ensures ∙ held_row f _ 2 c.start_of-3.ensures refl (w.u_long ∙ sym n) n,
      c.keep_row-4.ensures ∙ held_row f _ 3 c.start_of-4.ensures refl (w.v_long ∙ sym n) n,
    )
