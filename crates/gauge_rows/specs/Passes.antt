-- "Gauges": what is asked of each place. Assumes nothing.
use Rattle.std.specs.Prelude.{◌≡◌, ℕ, ◌<◌, Bool}
use Rattle.rule.specs.Rows.{Row}
use Rattle.gauge.specs.declared.Gauge.{Gauge}
use Rattle.gauge.specs.State.{places, gauge_at}

-- of each gauge of a row a test answers what p does
abbrev pub Tells : (Gauge → Bool → Type 0) → (Gauge → Bool) → Row → Type 0
Tells answers p row = (k : ℕ) (passes : Bool) → k < places → answers (gauge_at row k) passes → passes ≡ p (gauge_at row k)
