-- `opened::keep_levels` meets its contract: each row stands where the layout says. Assumes nothing.
use mathlib.Core.Path.{refl, sym, ◌∙◌}
use native.Mathlib.Omega.{arith}
use borrow.Author.Rules.{rules}
use Rattle.rule.specs.Channel.{lengths}
use Rattle.rule.specs.Layout.{widths}
use Rattle.rule.specs.File.{edition, channel_of}
use Rattle.layout.specs.Rows.{row_stands}
use Rattle.opened.specs.Fitting.{held_row}
use Rattle.opened.proofs.keep_levels.Goals as goal

pub start_of-requires : goal.start_of-requires
unfolding widths
start_of-requires c = search rules

pub keep_row-requires : goal.keep_row-requires
unfolding widths lengths
keep_row-requires c = row_stands edition _ 4 c.start_of.ensures refl c.requires.Q_long c.requires.sized (omega arith)

pub start_of-requires-2 : goal.start_of-requires-2
unfolding widths
start_of-requires-2 c = search rules

pub keep_row-requires-2 : goal.keep_row-requires-2
unfolding widths lengths
keep_row-requires-2 c = row_stands edition _ 5 c.start_of-2.ensures refl c.requires.F_long c.requires.sized (omega arith)

pub start_of-requires-3 : goal.start_of-requires-3
unfolding widths
start_of-requires-3 c = search rules

pub keep_row-requires-3 : goal.keep_row-requires-3
unfolding widths lengths
keep_row-requires-3 c = row_stands edition _ 6 c.start_of-3.ensures refl c.requires.damping_long c.requires.sized (omega arith)

pub returns : goal.returns
unfolding channel_of widths lengths
returns c =
    let s = c.args.s.now in
    let w = c.requires in
    let n = sym w.cells in (
      c.keep_row.ensures ∙ held_row s _ 4 c.start_of.ensures refl w.Q_long n,
      c.keep_row-2.ensures ∙ held_row s _ 5 c.start_of-2.ensures refl w.F_long n,
      c.keep_row-3.ensures ∙ held_row s _ 6 c.start_of-3.ensures refl w.damping_long n,
    )
