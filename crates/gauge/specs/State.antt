-- "Gauges": eight places for gauges in a byte string, and what is done to them with the heights of a channel.
use Rattle.std.specs.Prelude.{ℕ, ◌+◌, ◌*◌, ◌-◌, Bool, not, cond, List, [], ◌∷◌, ◌++◌, eqb, length, take, drop, pos, nat_abs}
use Rattle.std.specs.Int.Signed.{lt_z, le_z}
use Rattle.whole.specs.Row.{tab}
use Rattle.rule.specs.Rows.{Row, cell, map, all, lowest}
use Rattle.rule.specs.Ranges.{between}
use Rattle.rule.specs.declared.Refusal.TheVariants.{BufferLength, GaugesLength, GaugesValue, NinthGauge, OffChannel, GaugeFull}
use Rattle.rule.specs.Refusals.{Outcome, done, ◌>>=◌, require}
use Rattle.rule.specs.Bytes.{row_bytes, row_at}
use Rattle.gauge.specs.declared.Gauge.{Gauge}
use Rattle.gauge.specs.Gauge.{gauge_of, waves, grown, most_fed, is_empty, right}

abbrev pub places : ℕ
places = 8

-- the eight numbers of a gauge, in their order
unfoldable pub numbers : Gauge → Row
numbers g = g.cell ∷ g.fed ∷ g.last ∷ g.crossings ∷ g.highest ∷ g.lowest ∷ g.largest ∷ g.sum ∷ []

-- the gauge at place k, counted from 0, of a row of such numbers
unfoldable pub gauge_at : Row → ℕ → Gauge
gauge_at row k =
    record {
      cell = cell row (8 * k);
      fed = cell row (8 * k + 1);
      last = cell row (8 * k + 2);
      crossings = cell row (8 * k + 3);
      highest = cell row (8 * k + 4);
      lowest = cell row (8 * k + 5);
      largest = cell row (8 * k + 6);
      sum = cell row (8 * k + 7);
    }

unfoldable pub gauges_in : Row → List Gauge
gauges_in row = tab places (gauge_at row)

unfoldable pub flat : List Row → Row
flat [] = []
flat (row ∷ rows) = row ++ flat rows

-- The state: 64 numbers of eight bytes, signed.
abbrev pub state_numbers : ℕ
state_numbers = 64

abbrev pub state_length : ℕ
state_length = 512

unfoldable pub state_row : List ℕ → Row
state_row s = row_at 8 s 0 state_numbers

unfoldable pub gauges_of : List ℕ → List Gauge
gauges_of s = gauges_in (state_row s)

-- the state of eight gauges
unfoldable pub state_of : List Gauge → List ℕ
state_of gs = row_bytes 8 (flat (map numbers gs))

-- 12, then 14
unfoldable pub formed : List ℕ → Outcome (Unit {0})
formed s =
    require (eqb (length s) state_length) GaugesLength >>= λ _.
    require (all right (gauges_of s)) GaugesValue

-- the lowest place, counted from 1, without a gauge; 0 where every place has one
unfoldable pub taken : Gauge → Bool
taken g = not (is_empty g)

unfoldable pub free : List ℕ → ℕ
free s = lowest taken (gauges_of s)

-- place k, counted from 0, with the gauge g in it
unfoldable pub with_gauge : Row → ℕ → Gauge → Row
with_gauge row k g = take (8 * k) row ++ (numbers g ++ drop (8 * k + 8) row)

-- a gauge placed at a cell, counted from 1, of a channel of n cells: 20, then 21
unfoldable pub placeable : ℕ → ℕ → List ℕ → Outcome (Unit {0})
placeable n j s =
    formed s >>= λ _.
    require (not (eqb (free s) 0)) NinthGauge >>= λ _.
    require (between 1 n j) OffChannel

unfoldable pub placed : ℕ → ℕ → List ℕ → Outcome (List ℕ)
placed n j s =
    placeable n j s >>= λ _.
    done (row_bytes 8 (with_gauge (state_row s) (free s - 1) (gauge_of (pos j) [])))

-- a place without a gauge passes these
unfoldable pub stands_in : ℕ → Gauge → Bool
stands_in n g = le_z g.cell (pos n)

unfoldable pub has_room : Gauge → Bool
has_room g = lt_z g.fed (pos most_fed)

-- one height more of a row of heights, at its cell
unfoldable pub fed_from : Row → Gauge → Gauge
fed_from e g = cond (is_empty g) g (grown g (cell e (nat_abs g.cell - 1)))

-- all gauges fed the heights e of a channel: 21, then 30
unfoldable pub feedable : ℕ → List ℕ → Outcome (Unit {0})
feedable n s =
    formed s >>= λ _.
    require (all (stands_in n) (gauges_of s)) OffChannel >>= λ _.
    require (all has_room (gauges_of s)) GaugeFull

unfoldable pub fed : Row → List ℕ → Outcome (List ℕ)
fed e s =
    feedable (length e) s >>= λ _.
    done (state_of (map (fed_from e) (gauges_of s)))

-- what is read of a gauge: its cell, how many heights it was fed, its crossings and its three counts
unfoldable pub reading : Gauge → Row
reading g = g.cell ∷ g.fed ∷ g.crossings ∷ waves g ∷ g.largest ∷ g.sum ∷ []

abbrev pub read_numbers : ℕ
read_numbers = 48

-- of all places, into a row of so many entries: 15
unfoldable pub readable : List ℕ → ℕ → Outcome (Unit {0})
readable s room =
    formed s >>= λ _.
    require (eqb room read_numbers) BufferLength

unfoldable pub readings : List ℕ → ℕ → Outcome Row
readings s room =
    readable s room >>= λ _.
    done (flat (map reading (gauges_of s)))
