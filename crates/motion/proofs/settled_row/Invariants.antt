-- `motion::settled_row` meets its contract: the two sums of the cells passed. Assumes nothing.
use Rattle.std.proofs.Common.{◌≡◌, length}
use Rattle.whole.specs.Row.{tab}
use Rattle.rule.specs.Rows.{cell, sizes}
use Rattle.motion.specs.Settled.{change}
use Rattle.motion.proofs.settled_row.Given as goal

abbrev pub invariant-loop-new : goal.invariant-loop-new
invariant-loop-new l =
    (l.changes ≡ sizes (tab (length l.yielded) (change l.fn.new l.fn.old))) × (l.sizes ≡ sizes (tab (length l.yielded) (cell l.fn.new)))
