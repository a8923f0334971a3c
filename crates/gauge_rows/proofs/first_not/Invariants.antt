-- `gauge_rows::first_not` meets its contract: `place` is the lowest of the places passed. Assumes nothing.
use Rattle.std.proofs.Common.{◌≡◌, Bool}
use Rattle.whole.specs.Row.{tab}
use Rattle.rule.specs.Rows.{lowest}
use Rattle.places.specs.Lowest.{found}
use Rattle.gauge.specs.declared.Gauge.{Gauge}
use Rattle.gauge.specs.State.{gauge_at}
use Rattle.gauge_rows.specs.Passes.{Tells}
use Rattle.gauge_rows.proofs.first_not.Given as goal

abbrev pub invariant-loop-k : goal.invariant-loop-k
invariant-loop-k g l = (p : Gauge → Bool) → Tells (goal.F-post g l.passes) p l.row → l.place ≡ found (lowest p (tab l.k (gauge_at l.row)))
