-- "Gauges": a gauge whose numbers are in their ranges has them there after one height more, and so has one that was fed any record of
-- at most 1,000,000 heights of a channel. Assumes nothing.
use Rattle.std.specs.Prelude.{ℕ, ◌+◌, ◌≤◌, ◌≡◌, Bool, cond, [], ◌∷◌, length, ℤ, ◌+ℤ◌, ◌-ℤ◌, ◌*ℤ◌}
use Rattle.std.proofs.Math.Path.{refl, subst}
use Rattle.std.proofs.Common.{sym, ◌∙◌, ap, arith, lt-ltb}
use Rattle.std.proofs.Math.Bool.{true, false}
use Rattle.std.proofs.Math.IntN.{pos}
use Rattle.std.specs.Int.Signed.{lt_z, le_z}
use Rattle.whole.specs.Ring.{var, num, neg, ◌⊕◌, ◌⊖◌, ◌⊗◌, ring}
use Rattle.whole.specs.Order.{at_most, is_at_most, less, is_less, is_not_less}
use Rattle.whole.specs.Tests.{and_yes, both}
use Rattle.rule.specs.Rows.{Row, map, all, sum}
use Rattle.gauge.specs.declared.Gauge.{Gauge}
use Rattle.gauge.specs.Waves.{upward, cut_after, begun, but_last, waves_in, higher, lower, highest_from, highest, lowest, heights, largest_height, sum_of_heights}
use Rattle.gauge.specs.Gauge.{last_of, last_piece, since, from, least_height, most_height, most_fed, most_wave, met, below, waves, ended, crossed, widened, passed, grown, gauge_of, fed_all, in_ranges, sound}
use Rattle.gauge.specs.Laws.{higher_second, higher_first, lower_second, lower_first, below_one, below_none, waves_met, waves_none, ended_met, ended_none, grown_crossed, grown_widened, grown_passed}
use Rattle.gauge.specs.Small.{Ranged, ranged}
use Rattle.gauge.specs.Record.{fed_record}

-- the four tests of the numbers together, each by itself
pub record Sound (g : Gauge) : Type 0 where
  pub apart : le_z g.lowest g.highest ≡ true
  pub enough : le_z (pos 2 *ℤ g.crossings +ℤ below g) g.fed ≡ true
  pub among : le_z g.largest g.sum ≡ true
  pub most : le_z g.sum (pos most_wave *ℤ waves g) ≡ true

sounds : (g : Gauge) → sound g ≡ true → Sound g
unfolding sound
sounds g t =
    let b3 = both _ _ t in
    let b2 = both _ _ b3.0 in
    let b1 = both _ _ b2.0 in
    record { apart = b1.0; enough = b1.1; among = b2.1; most = b3.1 }

sound_of : (g : Gauge) → Sound g → sound g ≡ true
unfolding sound
sound_of g s = and_yes _ _ (and_yes _ _ (and_yes _ _ s.apart s.enough) s.among) s.most

in_ranges_of : (g : Gauge) → Ranged g → in_ranges g ≡ true
unfolding in_ranges
in_ranges_of g r =
    and_yes _ _ (and_yes _ _ (and_yes _ _ (and_yes _ _ (and_yes _ _ (and_yes _ _ (and_yes _ _ r.cell r.fed) r.last) r.crossings) r.highest) r.lowest) r.largest) r.sum

-- all numbers in their ranges
pub record Kept (g : Gauge) : Type 0 where
  pub ranges : in_ranges g ≡ true
  pub sounds : sound g ≡ true

kept_of : (g : Gauge) → Ranged g → Sound g → Kept g
kept_of g r s = record { ranges = in_ranges_of g r; sounds = sound_of g s }

from_of : (least most x : ℤ) → le_z least x ≡ true → le_z x most ≡ true → from least most x ≡ true
unfolding from
from_of least most x p q = and_yes _ _ p q

from_both : (least most x : ℤ) → from least most x ≡ true → (le_z least x ≡ true) × (le_z x most ≡ true)
unfolding from
from_both least most x t = both _ _ t

-- the higher and the lower of two are in the range of both, and where they must be
higher_by : (b : Bool) (least most a x : ℤ) → lt_z a x ≡ b → from least most a ≡ true → from least most x ≡ true → from least most (higher a x) ≡ true
higher_by true least most a x e p q = rw (higher_second a x e) q
higher_by false least most a x e p q = rw (higher_first a x e) p

higher_from : (least most a x : ℤ) → from least most a ≡ true → from least most x ≡ true → from least most (higher a x) ≡ true
higher_from least most a x = higher_by (lt_z a x) least most a x refl

lower_by : (b : Bool) (least most a x : ℤ) → lt_z x a ≡ b → from least most a ≡ true → from least most x ≡ true → from least most (lower a x) ≡ true
lower_by true least most a x e p q = rw (lower_second a x e) q
lower_by false least most a x e p q = rw (lower_first a x e) p

lower_from : (least most a x : ℤ) → from least most a ≡ true → from least most x ≡ true → from least most (lower a x) ≡ true
lower_from least most a x = lower_by (lt_z x a) least most a x refl

above_by : (b : Bool) (a x : ℤ) → lt_z a x ≡ b → le_z a (higher a x) ≡ true
above_by true a x e = rw (higher_second a x e) (is_at_most (var a) (var x) (omega (arith, less (var a) (var x) e)))
above_by false a x e = rw (higher_first a x e) (is_at_most (var a) (var a) (omega arith))

beneath_by : (b : Bool) (a x : ℤ) → lt_z x a ≡ b → le_z (lower a x) a ≡ true
beneath_by true a x e = rw (lower_second a x e) (is_at_most (var x) (var a) (omega (arith, less (var x) (var a) e)))
beneath_by false a x e = rw (lower_first a x e) (is_at_most (var a) (var a) (omega arith))

-- 0 or 1
below_by : (b : Bool) (g : Gauge) → lt_z g.last (pos 0) ≡ b → le_z (below g) (pos 1) ≡ true
below_by true g e = rw (below_one g e) refl
below_by false g e = rw (below_none g e) refl

least_by : (b : Bool) (g : Gauge) → lt_z g.last (pos 0) ≡ b → le_z (pos 0) (below g) ≡ true
least_by true g e = rw (below_one g e) refl
least_by false g e = rw (below_none g e) refl

module _ (g : Gauge) (x : ℤ) (r : Ranged g) (s : Sound g) (room : lt_z g.fed (pos most_fed) ≡ true) (height : from least_height most_height x ≡ true) where
  fed_on : from (pos 0) (pos most_fed) (g.fed +ℤ pos 1) ≡ true
  fed_on =
      let f = from_both (pos 0) (pos most_fed) g.fed r.fed in
      from_of (pos 0) (pos most_fed) (g.fed +ℤ pos 1)
      (is_at_most (num 0) (var g.fed ⊕ num 1) (omega (arith, at_most (num 0) (var g.fed) f.0)))
      (is_at_most (var g.fed ⊕ num 1) (num most_fed) (omega (arith, less (var g.fed) (num most_fed) room)))

  -- one height more leaves enough for the crossings, where no crossing is met
  enough_on : (d : ℤ) → le_z d (pos 1) ≡ true → le_z (pos 2 *ℤ g.crossings +ℤ d) (g.fed +ℤ pos 1) ≡ true
  enough_on d t =
      is_at_most (num 2 ⊗ var g.crossings ⊕ var d) (var g.fed ⊕ num 1)
      (omega (arith, at_most (num 2 ⊗ var g.crossings ⊕ var (below g)) (var g.fed) s.enough, at_most (var d) (num 1) t, at_most (num 0) (var (below g)) (least_by (lt_z g.last (pos 0)) g refl)))

  kept_passed : Kept (passed g x)
  unfolding passed waves met
  kept_passed =
      kept_of (passed g x)
      (record { cell = r.cell; fed = fed_on; last = height; crossings = r.crossings; highest = r.highest; lowest = r.lowest; largest = r.largest; sum = r.sum })
      (record { apart = s.apart; enough = enough_on (below (passed g x)) (below_by (lt_z x (pos 0)) (passed g x) refl); among = s.among; most = s.most })

  kept_widened : Kept (widened g x)
  unfolding widened waves met
  kept_widened =
      let up = above_by (lt_z g.highest x) g.highest x refl in
      let down = beneath_by (lt_z x g.lowest) g.lowest x refl in
      kept_of (widened g x)
      (record { cell = r.cell; fed = fed_on; last = height; crossings = r.crossings; highest = higher_from least_height most_height g.highest x r.highest height; lowest = lower_from least_height most_height g.lowest x r.lowest height; largest = r.largest; sum = r.sum })
      (record {
        apart =
            is_at_most (var (lower g.lowest x)) (var (higher g.highest x))
            (omega (arith, at_most (var g.lowest) (var g.highest) s.apart, at_most (var g.highest) (var (higher g.highest x)) up, at_most (var (lower g.lowest x)) (var g.lowest) down));
        enough = enough_on (below (widened g x)) (below_by (lt_z x (pos 0)) (widened g x) refl);
        among = s.among;
        most = s.most;
      })

  -- the wave that ends: its height, and all waves with it
  record Ends : Type 0 where
    size : from (pos 0) (pos most_wave) (ended g) ≡ true
    most : le_z (g.sum +ℤ ended g) (pos most_wave *ℤ g.crossings) ≡ true

  ends_by : (b : Bool) → lt_z (pos 0) g.crossings ≡ b → Ends
  ends_by true e =
      let hi = from_both least_height most_height g.highest r.highest in
      let lo = from_both least_height most_height g.lowest r.lowest in
      let w = var g.highest ⊖ var g.lowest in
      let m : le_z g.sum (pos most_wave *ℤ (g.crossings -ℤ pos 1)) ≡ true = subst (λ (z : ℤ). le_z g.sum (pos most_wave *ℤ z) ≡ true) (waves_met g e) s.most in
      record {
        size =
            rw (ended_met g e)
            (from_of (pos 0) (pos most_wave) (g.highest -ℤ g.lowest)
            (is_at_most (num 0) w (omega (arith, at_most (var g.lowest) (var g.highest) s.apart)))
            (is_at_most w (num most_wave) (omega (arith, at_most (var g.highest) (num 20_000_000) hi.1, at_most (neg (num 19_999_000)) (var g.lowest) lo.0))));
        most =
            rw (ended_met g e)
            (is_at_most (var g.sum ⊕ w) (num most_wave ⊗ var g.crossings)
            (omega (arith, at_most (var g.sum) (num most_wave ⊗ (var g.crossings ⊖ num 1)) m, at_most (var g.highest) (num 20_000_000) hi.1, at_most (neg (num 19_999_000)) (var g.lowest) lo.0)));
      }
  ends_by false e =
      let c = from_both (pos 0) (pos 500_000) g.crossings r.crossings in
      let m : le_z g.sum (pos most_wave *ℤ pos 0) ≡ true = subst (λ (z : ℤ). le_z g.sum (pos most_wave *ℤ z) ≡ true) (waves_none g e) s.most in
      record {
        size = rw (ended_none g e) (from_of (pos 0) (pos most_wave) (pos 0) refl refl);
        most =
            rw (ended_none g e)
            (is_at_most (var g.sum ⊕ num 0) (num most_wave ⊗ var g.crossings)
            (omega (arith, at_most (var g.sum) (num most_wave ⊗ num 0) m, at_most (num 0) (var g.crossings) c.0)));
      }

  -- the largest is one of those that add up
  among_by : (b : Bool) → lt_z g.largest (ended g) ≡ b → le_z (pos 0) (ended g) ≡ true → le_z (pos 0) g.sum ≡ true → le_z (higher g.largest (ended g)) (g.sum +ℤ ended g) ≡ true
  among_by true e w t =
      rw (higher_second g.largest (ended g) e)
      (is_at_most (var (ended g)) (var g.sum ⊕ var (ended g)) (omega (arith, at_most (num 0) (var g.sum) t)))
  among_by false e w t =
      rw (higher_first g.largest (ended g) e)
      (is_at_most (var g.largest) (var g.sum ⊕ var (ended g)) (omega (arith, at_most (var g.largest) (var g.sum) s.among, at_most (num 0) (var (ended g)) w)))

  kept_crossed : lt_z g.last (pos 0) ≡ true → le_z (pos 0) x ≡ true → Kept (crossed g x)
  unfolding crossed
  kept_crossed under over =
      let e = ends_by (lt_z (pos 0) g.crossings) refl in
      let c = from_both (pos 0) (pos 500_000) g.crossings r.crossings in
      let w = from_both (pos 0) (pos most_wave) (ended g) e.size in
      let t = from_both (pos 0) (pos 19_999_460_001_000) g.sum r.sum in
      let b : le_z (pos 2 *ℤ g.crossings +ℤ pos 1) g.fed ≡ true = subst (λ (z : ℤ). le_z (pos 2 *ℤ g.crossings +ℤ z) g.fed ≡ true) (below_one g under) s.enough in
      let enough = at_most (num 2 ⊗ var g.crossings ⊕ num 1) (var g.fed) b in
      let full = less (var g.fed) (num most_fed) room in
      let some = at_most (num 0) (var g.crossings) c.0 in
      let more : lt_z (pos 0) (g.crossings +ℤ pos 1) ≡ true = is_less (num 0) (var g.crossings ⊕ num 1) (omega (arith, some)) in
      let one : (g.crossings +ℤ pos 1) -ℤ pos 1 ≡ g.crossings = ring (var g.crossings ⊕ num 1 ⊖ num 1) (var g.crossings) (omega arith) in
      let all = at_most (var g.sum ⊕ var (ended g)) (num most_wave ⊗ var g.crossings) e.most in
      let wave = at_most (num 0) (var (ended g)) w.0 in
      let none : lt_z x (pos 0) ≡ false = is_not_less (var x) (num 0) (omega (arith, at_most (num 0) (var x) over)) in
      kept_of (crossed g x)
      (record {
        cell = r.cell;
        fed = fed_on;
        last = height;
        crossings = from_of (pos 0) (pos 500_000) (g.crossings +ℤ pos 1) (is_at_most (num 0) (var g.crossings ⊕ num 1) (omega (arith, some))) (is_at_most (var g.crossings ⊕ num 1) (num 500_000) (omega (arith, enough, full)));
        highest = height;
        lowest = height;
        largest = higher_from (pos 0) (pos most_wave) g.largest (ended g) r.largest e.size;
        sum =
            from_of (pos 0) (pos 19_999_460_001_000) (g.sum +ℤ ended g) (is_at_most (num 0) (var g.sum ⊕ var (ended g)) (omega (arith, at_most (num 0) (var g.sum) t.0, wave)))
            (is_at_most (var g.sum ⊕ var (ended g)) (num 19_999_460_001_000) (omega (arith, all, enough, full)));
      })
      (record {
        apart = is_at_most (var x) (var x) (omega arith);
        enough =
            rw (below_none (crossed g x) none)
            (is_at_most (num 2 ⊗ (var g.crossings ⊕ num 1) ⊕ num 0) (var g.fed ⊕ num 1) (omega (arith, enough)));
        among = among_by (lt_z g.largest (ended g)) refl w.0 t.0;
        most = rw (waves_met (crossed g x) more, one) e.most;
      })

-- one height more
grown_by : (u b : Bool) (g : Gauge) (x : ℤ) → upward g.last x ≡ u → lt_z (pos 0) g.crossings ≡ b → Ranged g → Sound g → lt_z g.fed (pos most_fed) ≡ true → from least_height most_height x ≡ true → Kept (grown g x)
unfolding upward
grown_by true b g x e m r s room height =
    let t = both (lt_z g.last (pos 0)) (le_z (pos 0) x) e in
    subst Kept (sym (grown_crossed g x e)) (kept_crossed g x r s room height t.0 t.1)
grown_by false true g x e m r s room height = subst Kept (sym (grown_widened g x e m)) (kept_widened g x r s room height)
grown_by false false g x e m r s room height = subst Kept (sym (grown_passed g x e m)) (kept_passed g x r s room height)

pub kept_grown : (g : Gauge) (x : ℤ) → Kept g → lt_z g.fed (pos most_fed) ≡ true → from least_height most_height x ≡ true → Kept (grown g x)
kept_grown g x k = grown_by (upward g.last x) (lt_z (pos 0) g.crossings) g x refl refl (ranged g k.ranges) (sounds g k.sounds)

grown_fed_by : (u b : Bool) (g : Gauge) (x : ℤ) → (cond u (crossed g x) (cond b (widened g x) (passed g x))).fed ≡ g.fed +ℤ pos 1
unfolding crossed widened passed
grown_fed_by true b g x = refl
grown_fed_by false true g x = refl
grown_fed_by false false g x = refl

grown_fed : (g : Gauge) (x : ℤ) → (grown g x).fed ≡ g.fed +ℤ pos 1
unfolding grown
grown_fed g x = grown_fed_by (upward g.last x) (met g) g x

-- a whole record
kept_fed : (r : Row) (g : Gauge) (n : ℕ) → g.fed ≡ pos n → n + length r ≤ most_fed → all (from least_height most_height) r ≡ true → Kept g → Kept (fed_all g r)
unfolding fed_all all
kept_fed [] g n e h t k = k
kept_fed (x ∷ r) g n e h t k =
    let b = both (from least_height most_height x) (all (from least_height most_height) r) t in
    let room : lt_z g.fed (pos most_fed) ≡ true = rw e (lt-ltb n most_fed (omega arith)) in
    kept_fed r (grown g x) (n + 1) (grown_fed g x ∙ ap (λ z. z +ℤ pos 1) e) (omega arith) b.1 (kept_grown g x k room b.0)

-- before the first height
kept_fresh : (cell : ℤ) → from (pos 1) (pos 256) cell ≡ true → Kept (gauge_of cell [])
unfolding gauge_of last_of begun cut_after since last_piece highest lowest largest_height sum_of_heights heights waves_in but_last map sum highest_from from below waves met
kept_fresh cell t =
    kept_of (gauge_of cell [])
    (record { cell = t; fed = refl; last = refl; crossings = refl; highest = refl; lowest = refl; largest = refl; sum = refl })
    (record { apart = refl; enough = refl; among = refl; most = refl })

pub kept_record : (cell : ℤ) (r : Row) → from (pos 1) (pos 256) cell ≡ true → length r ≤ most_fed → all (from least_height most_height) r ≡ true → Kept (gauge_of cell r)
unfolding gauge_of
kept_record cell r t h e = subst Kept (fed_record cell [] r) (kept_fed r (gauge_of cell []) 0 refl (omega arith) e (kept_fresh cell t))
