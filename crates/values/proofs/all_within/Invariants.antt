-- `values::all_within` meets its contract: `fine` is the test of the entries passed. Assumes nothing.
use mathlib.Core.Path.{◌≡◌}
use Rattle.whole.specs.Row.{tab}
use Rattle.rule.specs.Rows.{cell, all}
use Rattle.rule.specs.Ranges.{within}
use Rattle.values.proofs.all_within.Given as goal

abbrev pub invariant-loop-j : goal.invariant-loop-j
invariant-loop-j l = l.fine ≡ all (within l.most) (tab l.j (cell l.row))
