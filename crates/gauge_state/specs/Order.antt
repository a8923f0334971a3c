-- "Gauges": the refusals of a state, in their order: 12, 14; then 20 and 21, 21 and 30, or 15. None has a place. Assumes nothing.
use Rattle.std.specs.Prelude.{ℕ, zero, suc, ◌≡◌, Bool, true, List, Option, Ok, Err, eqb, length}
use Rattle.std.specs.Option.{is_some, ok_or}
use Rattle.std.proofs.Math.Path.{refl, sym}
use Rattle.std.proofs.Common.{◌∙◌, ap, arith}
use Rattle.std.proofs.Math.Bool.{false, not}
use borrow.Author.Tests.{ne_eqb, eq-eqb, eqb-true}
use Rattle.rule.specs.Rows.{all, lowest}
use Rattle.rule.specs.Ranges.{between}
use Rattle.rule.specs.declared.Refusal.{Refusal}
use Rattle.rule.specs.declared.Refusal.TheVariants.{BufferLength, GaugesLength, GaugesValue, NinthGauge, OffChannel, GaugeFull}
use Rattle.rule.specs.Refusals.{Outcome, number, number_of, ◌>>=◌, require, met}
use Rattle.places.specs.Lowest.{lowest_none, lowest_zero, found}
use Rattle.places.specs.Met.{ok_then}
use Rattle.checks.specs.Numbers.{passed, passed_last, both_done, Outside, Early, refuses_then, refuses_test, refuses_last}
use Rattle.gauge.specs.declared.Gauge.{Gauge}
use Rattle.gauge.specs.Gauge.{right}
use Rattle.gauge.specs.State.{state_length, read_numbers, gauges_of, formed, free, placeable, stands_in, has_room, feedable, readable}

-- whether every gauge passes, by the lowest that does not
one_fails : (p : Gauge → Bool) (gs : List Gauge) (b : Bool) → all p gs ≡ b → (lowest p gs ≡ 0 → ⊥) → false ≡ b
one_fails p gs true e z = absurd (z (lowest_none p gs e))
one_fails p gs false e z = refl

none_by : (p : Gauge → Bool) (gs : List Gauge) (m : ℕ) (none : Bool) → lowest p gs ≡ m → is_some (found m) ≡ not none → none ≡ all p gs
unfolding found
none_by p gs zero true l e = sym (lowest_zero p gs l)
none_by p gs zero false l e = cc e
none_by p gs (suc m) true l e = cc e
none_by p gs (suc m) false l e = one_fails p gs (all p gs) refl (λ z. omega (arith, z, l))

pub none_is : (p : Gauge → Bool) (gs : List Gauge) (r : Option ℕ) (none : Bool) → r ≡ found (lowest p gs) → is_some r ≡ not none → none ≡ all p gs
none_is p gs r none f e = none_by p gs (lowest p gs) none refl (sym (ap is_some f) ∙ e)

-- the place that is free, or 20
unfoldable pub ninth : ℕ → Outcome (Unit {0})
ninth m = require (not (eqb m 0)) NinthGauge

pub none_free : (m : ℕ) (r : Refusal) → Err r ≡ ok_or (found m) NinthGauge → Err r ≡ met (ninth m)
unfolding found ninth require met
none_free zero r e = let same : r ≡ NinthGauge = cc e in ap (λ x. Err x) same
none_free (suc m) r e = cc e

pub one_free : (m k : ℕ) → Ok k ≡ ok_or (found m) NinthGauge → (k ≡ m) × (Ok tt ≡ met (ninth m))
unfolding found ninth require met
one_free zero k e = cc e
one_free (suc m) k e = (cc e, rw (ne_eqb (suc m) 0 (λ z. omega (arith, z))) refl)

module _ (s : List ℕ) where
  -- 12, then 14
  pub form_short : (length s ≡ state_length → ⊥) → Err GaugesLength ≡ met (formed s)
  unfolding formed require ◌>>=◌ met
  form_short z = rw (ne_eqb (length s) state_length z) refl

  long_met : length s ≡ state_length → Ok tt ≡ met (require (eqb (length s) state_length) GaugesLength)
  unfolding require met
  long_met e = rw (eq-eqb (length s) state_length e) refl

  pub form_long : length s ≡ state_length → met (require (all right (gauges_of s)) GaugesValue) ≡ met (formed s)
  unfolding formed
  form_long e = ok_then (require (eqb (length s) state_length) GaugesLength) (λ _. require (all right (gauges_of s)) GaugesValue) tt (long_met e)

  -- what is known past 12 and 14
  pub form_passed : number_of (formed s) ≡ 0 → (length s ≡ state_length) × (all right (gauges_of s) ≡ true)
  unfolding formed
  form_passed z =
      let p = passed (eqb (length s) state_length) GaugesLength (λ _. require (all right (gauges_of s)) GaugesValue) z in
      (eqb-true (length s) state_length p.0, passed_last (all right (gauges_of s)) GaugesValue p.1)

  formed_outside : Outside (formed s)
  unfolding formed number
  formed_outside = refuses_test Early (eqb (length s) state_length) GaugesLength _ refl (refuses_last Early (all right (gauges_of s)) GaugesValue refl)

  -- placing
  module _ (n j : ℕ) where
    pub placeable_outside : Outside (placeable n j s)
    unfolding placeable number
    placeable_outside = refuses_then Early (formed s) _ formed_outside (λ _. refuses_test Early (not (eqb (free s) 0)) NinthGauge _ refl (refuses_last Early (between 1 n j) OffChannel refl))

    pub place_passed : number_of (placeable n j s) ≡ 0 → (number_of (formed s) ≡ 0) × ((not (eqb (free s) 0) ≡ true) × (between 1 n j ≡ true))
    unfolding placeable
    place_passed z =
        let p = both_done (formed s) _ z in
        let q = passed (not (eqb (free s) 0)) NinthGauge _ p.1 in
        (p.0, (q.0, passed_last (between 1 n j) OffChannel q.1))

  -- feeding
  module _ (n : ℕ) where
    pub feedable_outside : Outside (feedable n s)
    unfolding feedable number
    feedable_outside = refuses_then Early (formed s) _ formed_outside (λ _. refuses_test Early (all (stands_in n) (gauges_of s)) OffChannel _ refl (refuses_last Early (all has_room (gauges_of s)) GaugeFull refl))

    pub feed_passed : number_of (feedable n s) ≡ 0 → (number_of (formed s) ≡ 0) × ((all (stands_in n) (gauges_of s) ≡ true) × (all has_room (gauges_of s) ≡ true))
    unfolding feedable
    feed_passed z =
        let p = both_done (formed s) _ z in
        let q = passed (all (stands_in n) (gauges_of s)) OffChannel _ p.1 in
        (p.0, (q.0, passed_last (all has_room (gauges_of s)) GaugeFull q.1))

  -- reading
  module _ (room : ℕ) where
    pub readable_outside : Outside (readable s room)
    unfolding readable number
    readable_outside = refuses_then Early (formed s) _ formed_outside (λ _. refuses_last Early (eqb room read_numbers) BufferLength refl)

    pub read_passed : number_of (readable s room) ≡ 0 → (number_of (formed s) ≡ 0) × (room ≡ read_numbers)
    unfolding readable
    read_passed z =
        let p = both_done (formed s) _ z in
        (p.0, eqb-true room read_numbers (passed_last (eqb room read_numbers) BufferLength p.1))
