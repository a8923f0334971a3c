-- "Gauges": what a place that passes its tests has. Assumes nothing.
use Rattle.std.specs.Prelude.{ℕ, ◌-◌, ◌≤◌, ◌<◌, ◌≡◌, refl, Bool, true, false, ◌&&◌, ◌||◌, ℤ, pos, negsuc, nat_abs, length}
use Rattle.std.proofs.Common.{le_trans, arith, lit≤}
use Rattle.std.specs.Int.Signed.{le_z}
use Rattle.whole.specs.Ring.{var, num}
use Rattle.whole.specs.Order.{at_most}
use Rattle.whole.specs.Row.{Within}
use Rattle.whole.specs.Tests.{both}
use Rattle.rule.specs.Ranges.{most_height}
use Rattle.rule.specs.Rows.{Row, cell, all}
use Rattle.rows.specs.All.{pass_at}
use Rattle.gauge.specs.declared.Gauge.{Gauge}
use Rattle.gauge.specs.Gauge.{from, is_empty, in_ranges, sound, right, grown}
use Rattle.gauge.specs.State.{state_numbers, read_numbers, gauge_at, gauges_in, stands_in, fed_from}
use Rattle.gauge.specs.Small.{Small, small_of, from_size, ranged}

-- all zero, or each in its range
empty_small : (g : Gauge) → is_empty g ≡ true → Small g
unfolding is_empty
empty_small g t =
    let b7 = both _ _ t in
    let b6 = both _ _ b7.0 in
    let b5 = both _ _ b6.0 in
    let b4 = both _ _ b5.0 in
    let b3 = both _ _ b4.0 in
    let b2 = both _ _ b3.0 in
    let b1 = both _ _ b2.0 in
    record {
      cell = le_trans (from_size 0 0 g.cell b1.0) (lit≤ tt);
      fed = le_trans (from_size 0 0 g.fed b1.1) (lit≤ tt);
      last = le_trans (from_size 0 0 g.last b2.1) (lit≤ tt);
      crossings = le_trans (from_size 0 0 g.crossings b3.1) (lit≤ tt);
      highest = le_trans (from_size 0 0 g.highest b4.1) (lit≤ tt);
      lowest = le_trans (from_size 0 0 g.lowest b5.1) (lit≤ tt);
      largest = le_trans (from_size 0 0 g.largest b6.1) (lit≤ tt);
      sum = le_trans (from_size 0 0 g.sum b7.1) (lit≤ tt);
    }

in_of : (a b c : Bool) → a ≡ false → a || b && c ≡ true → b ≡ true
in_of true b c e t = let z : ◌≡◌ {A = ℕ} 0 1 = cc e in absurd (omega arith)
in_of false b c e t = (both b c t).0

-- a place with a gauge
pub in_ranges_lem : (g : Gauge) → is_empty g ≡ false → right g ≡ true → in_ranges g ≡ true
unfolding right
in_ranges_lem g e t = in_of (is_empty g) (in_ranges g) (sound g) e t

small_by : (b : Bool) (g : Gauge) → is_empty g ≡ b → right g ≡ true → Small g
small_by true g e t = empty_small g e
small_by false g e t = small_of g (in_ranges_lem g e t)

pub right_small : (g : Gauge) → right g ≡ true → Small g
right_small g t = small_by (is_empty g) g refl t

-- its cell is one of the channel's
pub record Stands (n : ℕ) (g : Gauge) : Type 0 where
  pub is : g.cell ≡ pos (nat_abs g.cell)
  pub least : 1 ≤ nat_abs g.cell
  pub most : nat_abs g.cell ≤ n

stands_at : (n : ℕ) (z : ℤ) → from (pos 1) (pos 256) z ≡ true → le_z z (pos n) ≡ true → (z ≡ pos (nat_abs z)) × ((1 ≤ nat_abs z) × (nat_abs z ≤ n))
unfolding from
stands_at n (pos k) t s =
    (refl, (omega (arith, at_most (num 1) (num k) (both _ _ t).0), omega (arith, at_most (num k) (num n) s)))
stands_at n (negsuc k) t s = absurd (omega (arith, at_most (num 1) (var (negsuc k)) (both (le_z (pos 1) (negsuc k)) (le_z (negsuc k) (pos 256)) t).0))

pub stands : (n : ℕ) (g : Gauge) → is_empty g ≡ false → right g ≡ true → stands_in n g ≡ true → Stands n g
unfolding stands_in
stands n g e t s =
    let p = stands_at n g.cell (ranged g (in_ranges_lem g e t)).cell s in
    record { is = p.0; least = p.1.0; most = p.1.1 }

-- what all places pass, each does
pub at_place : (p : Gauge → Bool) (row : Row) (k : ℕ) → all p (gauges_in row) ≡ true → k < 8 → p (gauge_at row k) ≡ true
unfolding gauges_in
at_place p row k t h = pass_at p (gauge_at row) 8 k t h

-- feeding a place
pub fed_empty : (e : Row) (g : Gauge) → is_empty g ≡ true → fed_from e g ≡ g
unfolding fed_from
fed_empty e g t = rw t

pub fed_gauge : (e : Row) (g : Gauge) → is_empty g ≡ false → fed_from e g ≡ grown g (cell e (nat_abs g.cell - 1))
unfolding fed_from
fed_gauge e g t = rw t

-- what feeding and reading ask of their rows
pub record Feeds (e row out : Row) : Type 0 where
  pub long : length row ≡ state_numbers
  pub room : length out ≡ state_numbers
  pub right : all right (gauges_in row) ≡ true
  pub stand : all (stands_in (length e)) (gauges_in row) ≡ true
  pub small : Within most_height (length e) e

pub record Reads (row out : Row) : Type 0 where
  pub long : length row ≡ state_numbers
  pub room : length out ≡ read_numbers
  pub right : all right (gauges_in row) ≡ true
