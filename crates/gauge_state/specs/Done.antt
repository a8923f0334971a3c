-- "Gauges": a state after a call: refused, it is as it was; accepted, its bytes are those of the numbers that were written. Assumes
-- nothing.
use Rattle.std.specs.Prelude.{ℕ, zero, suc, ◌+◌, ◌*◌, ◌-◌, ◌≤◌, ◌≡◌, refl, List, [], eqb, leb, pos, length}
use Rattle.std.proofs.Common.{sym, ◌∙◌, arith}
use Rattle.std.proofs.Math.Path.{ap}
use borrow.Author.Tests.{not-true, eqb-false, leb-true}
use Rattle.whole.specs.Row.{tab, length_tab}
use Rattle.whole.specs.Tests.{both}
use Rattle.rule.specs.Refusals.{Fault}
use Rattle.rule.specs.Rows.{Row, map}
use Rattle.rule.specs.Ranges.{between}
use Rattle.rule.specs.Refusals.{number_of, fault_of}
use Rattle.rule.specs.Bytes.{row_bytes}
use Rattle.rule.specs.Calls.{called, plainly}
use Rattle.answers.specs.Stages.{early, acceptance, leaves_bytes, refused_first, accepted_call}
use Rattle.checks.specs.Numbers.{after_done, done_of}
use Rattle.little.specs.Written.{written, written_all}
use Rattle.little.specs.Entries.{length-row_bytes, length-row_at}
use Rattle.places.specs.Lowest.{lowest_most}
use Rattle.gauge.specs.declared.Gauge.{Gauge}
use Rattle.gauge.specs.Gauge.{gauge_of}
use Rattle.gauge.specs.State.{state_length, state_numbers, numbers, reading, gauge_at, gauges_in, flat, state_row, gauges_of, state_of, taken, free, with_gauge, placeable, placed, fed_from, feedable, fed, readable, readings}
use Rattle.gauge.specs.OnGauges.{read_state}
use Rattle.little.specs.Written.{length_written}
use Rattle.gauge_rows.specs.Chunks.{long_numbers, fed_place, long_fed, fed_all_lem, length-flat}
use Rattle.gauge_state.specs.Left.{leaves_row}
use Rattle.gauge_state.specs.Order.{placeable_outside, place_passed, feedable_outside, readable_outside}

pub length_state : (s : List ℕ) → length (state_row s) ≡ state_numbers
unfolding state_row
length_state s = length-row_at 8 s 0 64

-- all bytes are written
pub all_written : (s left : List ℕ) (row : Row) → length s ≡ state_length → length row ≡ state_numbers → left ≡ written s 0 (row_bytes 8 row) → left ≡ row_bytes 8 row
all_written s left row h k e = e ∙ written_all s (row_bytes 8 row) (length-row_bytes 8 row ∙ ap (λ n. 8 * n) k ∙ sym h)

pub length_fed : (e row : Row) → length (flat (map numbers (map (fed_from e) (gauges_in row)))) ≡ state_numbers
length_fed e row = ap length (sym (fed_all_lem e row)) ∙ length-flat 8 (fed_place e row) (long_fed e row) 8

-- feeding
module _ (e : Row) (s : List ℕ) where
  pub feed_refused : (f : Fault) → f ≡ fault_of (feedable (length e) s) → (f.number ≡ 0 → ⊥) → leaves_bytes (early f) s ≡ plainly s (fed e s)
  unfolding plainly fed
  feed_refused f p z = refused_first s (λ _. 0) (λ t. t) f (feedable (length e) s) _ (feedable_outside s (length e)) p z

  pub feed_accepted : (left : List ℕ) → number_of (feedable (length e) s) ≡ 0 → left ≡ state_of (map (fed_from e) (gauges_of s)) → leaves_bytes (acceptance 0) left ≡ plainly s (fed e s)
  unfolding plainly fed
  feed_accepted left z p =
      ap (leaves_bytes (acceptance 0)) p
      ∙ accepted_call s (λ _. 0) (λ t. t) (fed e s) _ (after_done (feedable (length e) s) tt _ (done_of (feedable (length e) s) z))

-- reading
module _ (s : List ℕ) (room : Row) where
  pub read_refused : (f : Fault) → f ≡ fault_of (readable s (length room)) → (f.number ≡ 0 → ⊥) → leaves_row (early f) room ≡ read_state s room
  unfolding read_state plainly readings
  read_refused f p z = refused_first room (λ _. 0) (λ t. t) f (readable s (length room)) _ (readable_outside s (length room)) p z

  pub read_accepted : (left : Row) → number_of (readable s (length room)) ≡ 0 → left ≡ flat (map reading (gauges_of s)) → leaves_row (acceptance 0) left ≡ read_state s room
  unfolding read_state plainly readings
  read_accepted left z p =
      ap (leaves_row (acceptance 0)) p
      ∙ accepted_call room (λ _. 0) (λ t. t) (readings s (length room)) _ (after_done (readable s (length room)) tt _ (done_of (readable s (length room)) z))

some : (k : ℕ) → (k ≡ 0 → ⊥) → 1 ≤ k
some zero h = absurd (h refl)
some (suc k) h = omega arith

-- placing
module _ (n j : ℕ) (s : List ℕ) where
  pub place_refused : (f : Fault) → f ≡ fault_of (placeable n j s) → (f.number ≡ 0 → ⊥) → leaves_bytes (early f) s ≡ called s (λ (_ : List ℕ). free s) (λ t. t) (placed n j s)
  unfolding placed
  place_refused f p z = refused_first s (λ _. free s) (λ t. t) f (placeable n j s) _ (placeable_outside s n j) p z

  pub place_accepted : (left : List ℕ) → number_of (placeable n j s) ≡ 0 → left ≡ row_bytes 8 (with_gauge (state_row s) (free s - 1) (gauge_of (pos j) [])) → leaves_bytes (acceptance (free s)) left ≡ called s (λ (_ : List ℕ). free s) (λ t. t) (placed n j s)
  unfolding placed
  place_accepted left z p =
      ap (leaves_bytes (acceptance (free s))) p
      ∙ accepted_call s (λ _. free s) (λ t. t) (placed n j s) _ (after_done (placeable n j s) tt _ (done_of (placeable n j s) z))

  -- there is a place, and the cell is one of n
  pub free_least : number_of (placeable n j s) ≡ 0 → 1 ≤ free s
  free_least z = some (free s) (eqb-false (free s) 0 (not-true (eqb (free s) 0) (place_passed s n j z).1.0))

  pub cell_most : number_of (placeable n j s) ≡ 0 → j ≤ n
  unfolding between
  cell_most z = leb-true j n (both (leb 1 j) (leb j n) (place_passed s n j z).1.1).1

pub free_most : (s : List ℕ) → free s ≤ 8
unfolding free gauges_of gauges_in
free_most s = let h = lowest_most taken (tab 8 (gauge_at (state_row s))) in omega (arith, h, length_tab 8 (gauge_at (state_row s)))

pub with_is : (row : Row) (k : ℕ) (g : Gauge) → written row (8 * k) (numbers g) ≡ with_gauge row k g
unfolding written with_gauge numbers
with_is row k g = refl

pub length_with : (row : Row) (at : ℕ) (g : Gauge) → at + 8 ≤ length row → length (written row at (numbers g)) ≡ length row
length_with row at g h = length_written row at (numbers g) (omega (arith, long_numbers g))
