-- `values::lowest_beyond` meets its contract: `place` is the lowest of the entries passed. Assumes nothing.
use mathlib.Core.Path.{◌≡◌}
use Rattle.whole.specs.Row.{tab}
use Rattle.rule.specs.Rows.{cell, lowest}
use Rattle.places.specs.Lowest.{found}
use Rattle.values.specs.Between.{between}
use Rattle.values.proofs.lowest_beyond.Given as goal

abbrev pub invariant-loop-j : goal.invariant-loop-j
invariant-loop-j l = l.place ≡ found (lowest (between l.least l.most) (tab l.j (cell l.row)))
