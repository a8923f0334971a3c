-- `checks::all_deep` meets its contract: `fine` is the test of the cells passed. Assumes nothing.
use mathlib.Core.Path.{◌≡◌}
use lib.IntN.{pos}
use lib.Signed.{le_z}
use Rattle.whole.specs.Row.{tab}
use Rattle.rule.specs.Rows.{all}
use Rattle.rule.specs.Ranges.{least_water}
use Rattle.checks.specs.Facts.{depth_at}
use Rattle.checks.proofs.all_deep.Given as goal

abbrev pub invariant-loop-j : goal.invariant-loop-j
invariant-loop-j l = l.fine ≡ all (le_z (pos least_water)) (tab l.j (depth_at l.h l.e))
