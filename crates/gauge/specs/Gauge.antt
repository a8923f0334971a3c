-- "Gauges": the eight numbers that a gauge keeps of its record, what one height more makes of them, and their ranges.
use Rattle.std.specs.Prelude.{ℕ, Bool, cond, ◌&&◌, ◌||◌, List, [], ◌∷◌, length, ℤ, pos, ◌+ℤ◌, ◌-ℤ◌, ◌*ℤ◌}
use Rattle.std.specs.Int.Signed.{lt_z, le_z}
use Rattle.rule.specs.Rows.{Row, minus}
use Rattle.rule.specs.Ranges.{most_cells}
use Rattle.gauge.specs.declared.Gauge.{Gauge}
use Rattle.gauge.specs.Waves.{upward, begun, higher, lower, highest, lowest, largest_height, sum_of_heights}

-- the last one, 0 where there is none
unfoldable pub last_of : ℤ → Row → ℤ
last_of before [] = before
last_of before (x ∷ r) = last_of x r

unfoldable pub last_piece : List Row → Row
last_piece [] = []
last_piece (p ∷ []) = p
last_piece (p ∷ q ∷ ps) = last_piece (q ∷ ps)

-- what was fed since the last crossing; nothing before the first
unfoldable pub since : Row → Row
since r = last_piece (begun r)

-- the gauge at a cell that was fed the record r
unfoldable pub gauge_of : ℤ → Row → Gauge
gauge_of cell r =
    record {
      cell = cell;
      fed = pos (length r);
      last = last_of (pos 0) r;
      crossings = pos (length (begun r));
      highest = highest (since r);
      lowest = lowest (since r);
      largest = largest_height r;
      sum = sum_of_heights r;
    }

-- a crossing more begins a wave, and ends the one before
unfoldable pub met : Gauge → Bool
met g = lt_z (pos 0) g.crossings

unfoldable pub waves : Gauge → ℤ
waves g = cond (met g) (g.crossings -ℤ pos 1) (pos 0)

unfoldable pub wave_of : ℤ → ℤ → ℤ → ℤ
wave_of crossings highest lowest = cond (lt_z (pos 0) crossings) (highest -ℤ lowest) (pos 0)

unfoldable pub ended : Gauge → ℤ
ended g = wave_of g.crossings g.highest g.lowest

unfoldable pub crossed : Gauge → ℤ → Gauge
crossed g x =
    record {
      cell = g.cell;
      fed = g.fed +ℤ pos 1;
      last = x;
      crossings = g.crossings +ℤ pos 1;
      highest = x;
      lowest = x;
      largest = higher g.largest (ended g);
      sum = g.sum +ℤ ended g;
    }

-- no crossing: in a wave, and before the first
unfoldable pub widened : Gauge → ℤ → Gauge
widened g x =
    record {
      cell = g.cell;
      fed = g.fed +ℤ pos 1;
      last = x;
      crossings = g.crossings;
      highest = higher g.highest x;
      lowest = lower g.lowest x;
      largest = g.largest;
      sum = g.sum;
    }

unfoldable pub passed : Gauge → ℤ → Gauge
passed g x =
    record {
      cell = g.cell;
      fed = g.fed +ℤ pos 1;
      last = x;
      crossings = g.crossings;
      highest = g.highest;
      lowest = g.lowest;
      largest = g.largest;
      sum = g.sum;
    }

-- one height more
unfoldable pub grown : Gauge → ℤ → Gauge
grown g x = cond (upward g.last x) (crossed g x) (cond (met g) (widened g x) (passed g x))

-- a record more, height by height
unfoldable pub fed_all : Gauge → Row → Gauge
fed_all g [] = g
fed_all g (x ∷ r) = fed_all (grown g x) r

-- The ranges
unfoldable pub from : ℤ → ℤ → ℤ → Bool
from least most x = le_z least x && le_z x most

abbrev pub most_fed : ℕ
most_fed = 1_000_000

-- 1,000 µm of water over the deepest bottom of 20,000 mm
abbrev pub least_height : ℤ
least_height = minus 19_999_000

abbrev pub most_height : ℤ
most_height = pos 20_000_000

abbrev pub most_wave : ℕ
most_wave = 39_999_000

-- the eight numbers of a place without a gauge
abbrev pub none : Gauge
none = record { cell = pos 0; fed = pos 0; last = pos 0; crossings = pos 0; highest = pos 0; lowest = pos 0; largest = pos 0; sum = pos 0 }

abbrev zero : ℤ → Bool
zero x = from (pos 0) (pos 0) x

unfoldable pub is_empty : Gauge → Bool
is_empty g = zero g.cell && zero g.fed && zero g.last && zero g.crossings && zero g.highest && zero g.lowest && zero g.largest && zero g.sum

-- each number alone; 1,000,000 heights have at most 500,000 crossings, and 499,999 waves
unfoldable pub in_ranges : Gauge → Bool
in_ranges g =
    from (pos 1) (pos most_cells) g.cell
    && from (pos 0) (pos most_fed) g.fed
    && from least_height most_height g.last
    && from (pos 0) (pos 500_000) g.crossings
    && from least_height most_height g.highest
    && from least_height most_height g.lowest
    && from (pos 0) (pos most_wave) g.largest
    && from (pos 0) (pos 19_999_460_001_000) g.sum

-- a crossing takes two heights; one below zero that is the last is of none yet
unfoldable pub below : Gauge → ℤ
below g = cond (lt_z g.last (pos 0)) (pos 1) (pos 0)

-- all together
unfoldable pub sound : Gauge → Bool
sound g =
    le_z g.lowest g.highest
    && le_z (pos 2 *ℤ g.crossings +ℤ below g) g.fed
    && le_z g.largest g.sum
    && le_z g.sum (pos most_wave *ℤ waves g)

-- a place of the gauges is empty, or its numbers are a gauge's
unfoldable pub right : Gauge → Bool
right g = is_empty g || in_ranges g && sound g
