-- Refusal numbers: what the check of the time step asks, so that no product wraps.
use Rattle.std.specs.Prelude.{ℕ, ◌≤◌, length}
use Rattle.whole.specs.Row.{Within}
use Rattle.rule.specs.Rows.{Row}
use Rattle.rule.specs.Ranges.{most_width, most_time, most_depth}

-- n depths h
pub record Depths (n : ℕ) (h : Row) : Type 0 where
  pub long : n ≤ length h
  pub small : Within most_depth n h

-- cells of width x, and the time step t
pub record Measures (n x t : ℕ) (h : Row) : Type 0 where
  pub depths : Depths n h
  pub wide : x ≤ most_width
  pub short : t ≤ most_time
