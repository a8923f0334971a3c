-- `text::Pen::count` meets its contract. Assumes nothing.
use Rattle.std.proofs.Common.{length, ap, arith}
use Rattle.rule.specs.Line.{decimal}
use Rattle.text.specs.Put.{put_as, put_then}
use Rattle.text.specs.Decimal.{decimal_is}
use Rattle.text.specs.Lines.{count_text, length_count}
use Rattle.text.proofs.Pen.count.Goals as goal

pub number-requires : goal.number-requires
number-requires c = let a = c.args in omega (arith, length_count a.n a.after, ap length (decimal_is a.n c.ranges.n.fits))

pub word-requires : goal.word-requires
word-requires c = let a = c.args in omega (arith, length_count a.n a.after, ap length (decimal_is a.n c.ranges.n.fits))

pub returns : goal.returns
unfolding count_text
returns c =
    let n = c.args.n in
    put_then (put_as (decimal n) c.number.ensures (decimal_is n c.ranges.n.fits)) c.word.ensures (omega arith)
