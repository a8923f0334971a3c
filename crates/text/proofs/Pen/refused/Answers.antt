-- `text::Pen::refused` meets its contract. Assumes nothing.
use Rattle.std.proofs.Common.{arith}
use Rattle.text.specs.Put.{put_then}
use Rattle.text.specs.Decimal.{length-decimal}
use Rattle.text.specs.Lines.{refused_of, length_count}
use Rattle.text.proofs.Pen.refused.Goals as goal

pub count-requires : goal.count-requires
count-requires c = let k = c.args.number in omega (arith, length_count k 10, length-decimal 1 k (omega arith))

pub returns : goal.returns
unfolding refused_of
returns c = put_then c.word.ensures c.count.ensures (omega arith)
