-- "Gauges": the eight places as a reader has them: each without a gauge, or a staff at a cell with the record of all heights that it
-- was fed. Their state, what is fed and what is read follow from these.
use Rattle.std.specs.Prelude.{ℕ, ◌-◌, List, [], ◌∷◌, ◌++◌, pos}
use Rattle.rule.specs.Rows.{Row, cell, map}
use Rattle.rule.specs.Refusals.{Outcome, done, ◌>>=◌}
use Rattle.gauge.specs.declared.Gauge.{Gauge}
use Rattle.gauge.specs.Gauge.{none, gauge_of}
use Rattle.gauge.specs.State.{state_of, fed}

pub data Staff : Type 0 where
  free : Staff
  staff : ℕ → Row → Staff

unfoldable pub gauge_for : Staff → Gauge
gauge_for free = none
gauge_for (staff j r) = gauge_of (pos j) r

unfoldable pub state_for : List Staff → List ℕ
state_for ss = state_of (map gauge_for ss)

-- a record with the height at its cell, of a row of heights
unfoldable pub longer : Row → Staff → Staff
longer e free = free
longer e (staff j r) = staff j (r ++ (cell e (j - 1) ∷ []))

-- and of the heights of one channel after the other, as a run leaves them
unfoldable pub followed : List Row → Staff → Staff
followed [] s = s
followed (e ∷ es) s = followed es (longer e s)

-- a state that is fed them
unfoldable pub feeds : List Row → List ℕ → Outcome (List ℕ)
feeds [] s = done s
feeds (e ∷ es) s = fed e s >>= λ t. feeds es t
