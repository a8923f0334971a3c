-- `text::Pen::counts` meets its contract. Assumes nothing.
use Rattle.std.proofs.Common.{arith}
use Rattle.text.specs.Put.{put_then}
use Rattle.text.specs.Lines.{counts_text, length-counts}
use Rattle.text.proofs.Pen.counts.Goals as goal

pub count-requires : goal.count-requires
count-requires c = let a = c.args in omega (arith, length-counts a.n a.accepted a.wanted)

pub count-requires-2 : goal.count-requires-2
count-requires-2 c = let a = c.args in omega (arith, length-counts a.n a.accepted a.wanted)

pub count-requires-3 : goal.count-requires-3
count-requires-3 c = let a = c.args in omega (arith, length-counts a.n a.accepted a.wanted)

pub returns : goal.returns
unfolding counts_text
returns c =
    let a = c.args in
    put_then c.count.ensures (put_then c.count-2.ensures c.count-3.ensures (omega (arith, length-counts a.n a.accepted a.wanted))) (omega arith)
