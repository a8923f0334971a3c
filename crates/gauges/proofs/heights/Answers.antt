-- `gauges::heights` meets its contract. Assumes nothing.
use mathlib.Core.Path.{refl, ◌∙◌, ap}
use native.Mathlib.Omega.{arith}
use Rattle.whole.specs.Row.{padded}
use Rattle.rule.specs.Channel.{lengths}
use Rattle.rule.specs.Layout.{widths}
use Rattle.rule.specs.File.{edition, channel_of}
use Rattle.layout.specs.Rows.{row_stands}
use Rattle.opened.specs.Fitting.{held_row}
use Rattle.gauges.proofs.heights.Goals as goal

pub start_of-requires : goal.start_of-requires
unfolding widths
start_of-requires c = let h = c.requires in (omega arith, (omega (arith, h.least), h.most))

pub read_row-requires : goal.read_row-requires
unfolding widths lengths
read_row-requires c = let h = c.requires in (row_stands edition _ 1 c.start_of.ensures refl refl h.sized (omega arith), h.most)

pub returns : goal.returns
unfolding channel_of widths lengths
returns c = c.read_row.ensures ∙ ap (padded c.args.n) (held_row c.args.file.now c.args.n 1 c.start_of.ensures refl refl c.requires.cells)
