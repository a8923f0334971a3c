-- `text::Pen::line` meets its contract. Assumes nothing.
use Rattle.std.proofs.Common.{arith}
use Rattle.text.specs.Put.{put_then}
use Rattle.text.specs.Lines.{line_of, counts_short, length_state}
use Rattle.text.proofs.Pen.line.Goals as goal

pub counts-requires : goal.counts-requires
counts-requires c = omega (arith, counts_short c.requires.1)

pub state-requires : goal.state-requires
state-requires c = omega (arith, counts_short c.requires.1)

pub sum-requires : goal.sum-requires
sum-requires c =
    let p = c.requires.1 in
    (omega (arith, counts_short p, length_state c.args.accepted c.args.wanted), p.e_long, p.e_small)

pub returns : goal.returns
unfolding line_of
returns c =
    let tail = put_then c.state.ensures c.sum.ensures (omega (arith, counts_short c.requires.1)) in
    put_then c.counts.ensures tail (omega arith)
