-- "Gauges": bounds on a gauge's numbers, within which nothing wraps; a gauge whose numbers are in their ranges has them. Assumes
-- nothing.
use Rattle.std.specs.Prelude.{ℕ, ◌≤◌, ◌≡◌, true, ℤ, pos, nat_abs}
use Rattle.std.proofs.Common.{arith}
use Rattle.whole.specs.Ring.{var, num, neg, within}
use Rattle.whole.specs.Order.{at_most}
use Rattle.whole.specs.Tests.{both}
use Rattle.gauge.specs.declared.Gauge.{Gauge}
use Rattle.gauge.specs.Gauge.{from, least_height, most_height, in_ranges}

pub record Small (g : Gauge) : Type 0 where
  pub cell : nat_abs g.cell ≤ 256
  pub fed : nat_abs g.fed ≤ 1_000_000
  pub last : nat_abs g.last ≤ 20_000_000
  pub crossings : nat_abs g.crossings ≤ 500_000
  pub highest : nat_abs g.highest ≤ 20_000_000
  pub lowest : nat_abs g.lowest ≤ 20_000_000
  pub largest : nat_abs g.largest ≤ 39_999_000
  pub sum : nat_abs g.sum ≤ 19_999_460_001_000

-- a number from 0, or from 1, on
pub from_size : (least most : ℕ) (x : ℤ) → from (pos least) (pos most) x ≡ true → nat_abs x ≤ most
unfolding from
from_size least most x t =
    let b = both _ _ t in
    within (var x) most (omega (arith, at_most (var x) (num most) b.1)) (omega (arith, at_most (num least) (var x) b.0))

height_size : (x : ℤ) → from least_height most_height x ≡ true → nat_abs x ≤ 20_000_000
unfolding from
height_size x t =
    let b = both _ _ t in
    within (var x) 20_000_000 (omega (arith, at_most (var x) (num 20_000_000) b.1)) (omega (arith, at_most (neg (num 19_999_000)) (var x) b.0))

-- the eight tests, each by itself
pub record Ranged (g : Gauge) : Type 0 where
  pub cell : from (pos 1) (pos 256) g.cell ≡ true
  pub fed : from (pos 0) (pos 1_000_000) g.fed ≡ true
  pub last : from least_height most_height g.last ≡ true
  pub crossings : from (pos 0) (pos 500_000) g.crossings ≡ true
  pub highest : from least_height most_height g.highest ≡ true
  pub lowest : from least_height most_height g.lowest ≡ true
  pub largest : from (pos 0) (pos 39_999_000) g.largest ≡ true
  pub sum : from (pos 0) (pos 19_999_460_001_000) g.sum ≡ true

pub ranged : (g : Gauge) → in_ranges g ≡ true → Ranged g
unfolding in_ranges
ranged g t =
    let b7 = both _ _ t in
    let b6 = both _ _ b7.0 in
    let b5 = both _ _ b6.0 in
    let b4 = both _ _ b5.0 in
    let b3 = both _ _ b4.0 in
    let b2 = both _ _ b3.0 in
    let b1 = both _ _ b2.0 in
    record { cell = b1.0; fed = b1.1; last = b2.1; crossings = b3.1; highest = b4.1; lowest = b5.1; largest = b6.1; sum = b7.1 }

pub small_of : (g : Gauge) → in_ranges g ≡ true → Small g
small_of g t =
    let r = ranged g t in
    record {
      cell = from_size 1 256 g.cell r.cell;
      fed = from_size 0 1_000_000 g.fed r.fed;
      last = height_size g.last r.last;
      crossings = from_size 0 500_000 g.crossings r.crossings;
      highest = height_size g.highest r.highest;
      lowest = height_size g.lowest r.lowest;
      largest = from_size 0 39_999_000 g.largest r.largest;
      sum = from_size 0 19_999_460_001_000 g.sum r.sum;
    }
