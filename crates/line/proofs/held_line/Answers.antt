-- `line::held_line` meets its contract: the line says of the file what its channel does. Assumes nothing.
use Rattle.rule.specs.Channel.{lengths}
use Rattle.rule.specs.Layout.{widths}
use Rattle.rule.specs.File.{edition}
use Rattle.layout.specs.Rows.{row_stands}
use Rattle.little.specs.Written.{written}
use native.Mathlib.Omega.{arith}
use mathlib.Core.Path.{refl, sym, ap, ◌∙◌}
use lib.ListN.{length}
use lib.Seq.{length-take-le}
use Rattle.line.specs.Held.{head_long, cells_some, file_long, line_is, printable}
use Rattle.line.proofs.held_line.Goals as goal

pub count_at-n-requires : goal.count_at-n-requires
count_at-n-requires c = omega (arith, head_long c.args.s.now c.requires.1)

pub count_at-accepted-requires : goal.count_at-accepted-requires
count_at-accepted-requires c = omega (arith, head_long c.args.s.now c.requires.1)

pub count_at-wanted-requires : goal.count_at-wanted-requires
count_at-wanted-requires c = omega (arith, head_long c.args.s.now c.requires.1)

pub start_of-requires : goal.start_of-requires
unfolding widths
start_of-requires c = (omega arith, cells_some c.args.s.now c.requires.1 c.count_at-n.result c.count_at-n.ensures.0)

pub read_row-e-requires : goal.read_row-e-requires
unfolding widths lengths
read_row-e-requires c =
    let s = c.args.s.now in
    let n = c.count_at-n in
    (row_stands edition _ 1 c.start_of.ensures refl refl (file_long s c.requires.1 n.result n.ensures.0) (omega arith), (cells_some s c.requires.1 n.result n.ensures.0).1)

pub slice_bounds-e-end : goal.slice_bounds-e-end
slice_bounds-e-end c = omega (arith, cells_some c.args.s.now c.requires.1 c.count_at-n.result c.count_at-n.ensures.0)

pub slice_bounds-channel_line-end : goal.slice_bounds-channel_line-end
slice_bounds-channel_line-end c =
    let n = c.count_at-n in
    let row = c.read_row-e in
    sym (length-take-le n.result row.result (omega (arith, cells_some c.args.s.now c.requires.1 n.result n.ensures.0, ap length row.ensures)))

pub channel_line-requires : goal.channel_line-requires
channel_line-requires c =
    let s = c.args.s.now in
    let n = c.count_at-n in
    let a = c.count_at-accepted in
    let w = c.count_at-wanted in
    let row = c.read_row-e in
    (omega arith, printable s c.requires.1 n.result n.ensures.0 row.result _ c.start_of.ensures row.ensures a.result w.result a.ensures.0 w.ensures.0 a.ensures.1 w.ensures.1)

pub returns : goal.returns
returns c =
    let s = c.args.s.now in
    let n = c.count_at-n in
    let a = c.count_at-accepted in
    let w = c.count_at-wanted in
    let row = c.read_row-e in
    let is = line_is s c.requires.1 n.result n.ensures.0 row.result _ c.start_of.ensures row.ensures a.result w.result a.ensures.0 w.ensures.0 in
    let q = c.channel_line.ensures in
    (q.0 ∙ ap length is, q.1 ∙ ap (written _ 0) is, q.2)
