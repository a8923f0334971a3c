-- `gauge_rows::first_failing` meets its contract: `place` is the lowest of the places passed. Assumes nothing.
use Rattle.std.proofs.Common.{◌≡◌}
use Rattle.whole.specs.Row.{tab}
use Rattle.rule.specs.Rows.{lowest}
use Rattle.places.specs.Lowest.{found}
use Rattle.gauge.specs.State.{gauge_at}
use Rattle.gauge_rows.proofs.first_failing.Given as goal

abbrev pub invariant-loop-k : goal.invariant-loop-k
invariant-loop-k g l = l.place ≡ found (lowest (g.T.Test.passes l.test) (tab l.k (gauge_at l.row)))
