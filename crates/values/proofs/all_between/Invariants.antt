-- `values::all_between` meets its contract: `fine` is the test of the entries passed. Assumes nothing.
use mathlib.Core.Path.{◌≡◌}
use Rattle.whole.specs.Row.{tab}
use Rattle.rule.specs.Rows.{cell, all}
use Rattle.values.specs.Between.{between}
use Rattle.values.proofs.all_between.Given as goal

abbrev pub invariant-loop-x : goal.invariant-loop-x
invariant-loop-x l = l.fine ≡ all (between l.least l.most) (tab l.x-index (cell l.row))
