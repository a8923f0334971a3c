-- `text::Pen::sum` meets its contract. Assumes nothing.
use Rattle.std.proofs.Common.{length, ap, arith}
use Rattle.rule.specs.Rows.{sum}
use Rattle.rule.specs.Line.{signed_decimal}
use Rattle.text.specs.Put.{put_as, put_then}
use Rattle.text.specs.Decimal.{signed_read}
use Rattle.text.specs.Lines.{sum_text, digits_short}
use Rattle.text.proofs.Pen.sum.Goals as goal

pub number-requires : goal.number-requires
number-requires c =
    let text = signed_read (record { sfits = c.sum_of.type_inv }) c.sum_of.ensures in
    omega (arith, ap length text, digits_short c.args.e.now c.requires.2 c.requires.1)

pub word-requires : goal.word-requires
word-requires c =
    let text = signed_read (record { sfits = c.sum_of.type_inv }) c.sum_of.ensures in
    omega (arith, ap length text, digits_short c.args.e.now c.requires.2 c.requires.1)

pub returns : goal.returns
unfolding sum_text
returns c =
    let text = signed_read (record { sfits = c.sum_of.type_inv }) c.sum_of.ensures in
    put_then (put_as (signed_decimal (sum c.args.e.now)) c.number.ensures text) c.word.ensures (omega arith)
