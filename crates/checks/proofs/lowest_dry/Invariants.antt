-- `checks::lowest_dry` meets its contract: `lowest` is the lowest of the cells passed. Assumes nothing.
use mathlib.Core.Path.{◌≡◌}
use lib.IntN.{pos}
use lib.Signed.{le_z}
use Rattle.whole.specs.Row.{tab}
use Rattle.rule.specs.Rows.{lowest}
use Rattle.rule.specs.Ranges.{least_water}
use Rattle.places.specs.Lowest.{found}
use Rattle.checks.specs.Facts.{depth_at}
use Rattle.checks.proofs.lowest_dry.Given as goal

abbrev pub invariant-loop-j : goal.invariant-loop-j
invariant-loop-j l = l.lowest ≡ found (lowest (le_z (pos least_water)) (tab l.j (depth_at l.h l.e)))
