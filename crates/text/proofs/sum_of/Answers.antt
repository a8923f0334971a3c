-- `text::sum_of` meets its contract. The heights before this one are added. Assumes nothing.
use Prim.Native.Nat.{◌*◌}
use mathlib.Core.Path.{refl, ap, ◌∙◌}
use native.Mathlib.Omega.{arith}
use lib.ListN.{length}
use lib.Seq.{take_all}
use Rattle.whole.specs.Expr.{E, held, var, add, need, rd_is}
use Rattle.rule.specs.Rows.{sum, cell}
use Rattle.rule.specs.Ranges.{most_cells, most_height}
use Rattle.text.specs.Sums.{sum-small, sum_more}
use Rattle.text.proofs.sum_of.Goals as goal
use Rattle.text.proofs.sum_of.Goals.{At-loop-height, In-loop-height}

abbrev acc : At-loop-height → E
acc c =
    let row = c.args.row.now in
    held (most_cells * most_height) c.loop-height.auto.total-fits c.loop-height.invariant.1
    (sum-small most_height most_cells row (length row) c.loop-height.height-index c.requires.1 c.loop-height.invariant.0 c.requires.0)

abbrev next : In-loop-height → E
next c =
    let row = c.args.row.now in
    add (acc c.before) (var (cell row c.loop-height.height-index) most_height (c.requires.1.at c.loop-height.height-index c.loop-height-test.true))

pub loop-height-init : goal.loop-height-init
unfolding sum
loop-height-init c = (omega arith, refl)

pub overflow_add-total : goal.overflow_add-total
overflow_add-total c = need (next c.before) tt

pub loop-height-preserved : goal.loop-height-preserved
loop-height-preserved c = (omega arith, rd_is (next c.before) tt ∙ sum_more c.args.row.now c.loop-height.height-index (omega arith))

pub returns : goal.returns
returns c = rd_is (acc c.before) tt ∙ ap sum (take_all c.loop-height.height-index c.args.row.now (omega arith))
