-- `gauge_rows::put_gauge` meets its contract. Assumes nothing.
use Rattle.std.proofs.Common.{◌∙◌, arith}
use Rattle.gauge.specs.State.{numbers}
use Rattle.gauge_rows.proofs.Parts.{written_part}
use Rattle.gauge_rows.proofs.put_gauge.Goals as goal

pub returns : goal.returns
unfolding numbers
returns c =
    let e = c.copy_from_slice.ensures.after ∙ c.into-numbers.ensures in
    written_part c.args.at _ c.args.row.now _ _ e (omega arith)
