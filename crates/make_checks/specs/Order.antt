-- Making over the bytes of a channel file: its order, the input checks, then 15, then the rest of make. Assumes nothing.
use Rattle.std.specs.Prelude.{ℕ, ◌≡◌, refl, Bool, true, false, ◌&&◌, List, Ok, Err, eqb, length}
use Rattle.std.specs.Result.{result_and}
use Rattle.std.proofs.Common.{sym, ap}
use borrow.Author.Tests.{ne_eqb, eq-eqb, eqb-true}
use Rattle.rule.specs.declared.Refusal.{Refusal}
use Rattle.rule.specs.Rows.{Row}
use Rattle.rule.specs.Ranges.{cells_allowed}
use Rattle.rule.specs.Channel.{Channel}
use Rattle.rule.specs.declared.Refusal.TheVariants.{Shape, BufferLength}
use Rattle.rule.specs.Refusals.{Outcome, number, place, met, ◌>>=◌, require}
use Rattle.rule.specs.Make.{make_checked, make}
use Rattle.rule.specs.Layout.{length_of}
use Rattle.rule.specs.File.{edition, file_of}
use Rattle.rule.specs.Calls.{Called, called, row_in, holds, make_file}
use Rattle.places.specs.Faults.{told}
use Rattle.places.specs.Met.{met_done, met_refused, met_number, both_met}
use Rattle.checks.specs.Numbers.{number_not_0, regroup, both_done, Outside, refuses_then, refuses_last, passed_last, Early}
use Rattle.checks.specs.Met.{make_checked_outside}
use Rattle.checks.specs.Made.{Makeable, makeable_of}
use Rattle.answers.specs.Stages.{early, refused_first, unfit_call, leaves_bytes}

-- 15: a buffer of `room` bytes, for n cells
unfoldable pub buffer_checked : ℕ → ℕ → Outcome (Unit {0})
buffer_checked n room = require (eqb room (length_of edition n)) BufferLength

-- the input checks, then 15
unfoldable pub tested : ℕ → ℕ → ℕ → ℕ → Row → Row → Row → Row → ℕ → Outcome (Unit {0})
tested n X T wanted h e u damping room = make_checked n X T wanted h e u damping >>= λ _. buffer_checked n room

-- the file of the channel that is made, in the buffer s
unfoldable pub filed : List ℕ → Outcome Channel → Called (List ℕ)
filed s m = called s (λ _. 0) file_of m

-- from rows of whole numbers
unfoldable pub make_rows : ℕ → ℕ → ℕ → ℕ → Row → Row → Row → Row → List ℕ → Called (List ℕ)
make_rows n X T wanted h e u damping s = filed s (tested n X T wanted h e u damping (length s) >>= λ _. make n X T wanted h e u damping)

pub buffer_15 : (n room : ℕ) → (room ≡ length_of edition n → ⊥) → Err BufferLength ≡ met (buffer_checked n room)
unfolding buffer_checked require met
buffer_15 n room z = rw (ne_eqb room (length_of edition n) z)

pub buffer_0 : (n room : ℕ) → room ≡ length_of edition n → Ok tt ≡ met (buffer_checked n room)
unfolding buffer_checked require met
buffer_0 n room z = rw (eq-eqb room (length_of edition n) z)

module _ (n X T wanted : ℕ) (h e u damping : Row) where
  pub tested_is : (room : ℕ) → result_and (met (make_checked n X T wanted h e u damping)) (met (buffer_checked n room)) ≡ met (tested n X T wanted h e u damping room)
  unfolding tested
  tested_is room = both_met (make_checked n X T wanted h e u damping) (buffer_checked n room)

  -- a refusal of an input or of a buffer has stage 0
  tested_outside : (room : ℕ) → Outside (tested n X T wanted h e u damping room)
  unfolding tested buffer_checked number
  tested_outside room =
      refuses_then Early (make_checked n X T wanted h e u damping) _ (make_checked_outside n X T wanted h e u damping)
      (λ _. refuses_last Early (eqb room (length_of edition n)) BufferLength refl)

  -- what the tests let pass
  pub passed_both : (room : ℕ) {a : Unit {0}} → Ok a ≡ met (tested n X T wanted h e u damping room) → Makeable n X T wanted h e u damping × (room ≡ length_of edition n)
  unfolding tested buffer_checked
  passed_both room z =
      let p = both_done (make_checked n X T wanted h e u damping) (λ _. buffer_checked n room) (met_number _ _ z) in
      (makeable_of n X T wanted h e u damping p.0, eqb-true room (length_of edition n) (passed_last (eqb room (length_of edition n)) BufferLength p.1))

  module _ (s : List ℕ) where
    -- a test refuses
    pub rows_refused : (r : Refusal) → Err r ≡ met (tested n X T wanted h e u damping (length s)) → leaves_bytes (early (told r)) s ≡ make_rows n X T wanted h e u damping s
    unfolding make_rows filed
    rows_refused r p = refused_first s (λ _. 0) file_of (told r) (tested n X T wanted h e u damping (length s)) _ (tested_outside (length s)) (met_refused _ r p) (number_not_0 r)

    -- and none does
    pub rows_pass : {a : Unit {0}} → Ok a ≡ met (tested n X T wanted h e u damping (length s)) → filed s (make n X T wanted h e u damping) ≡ make_rows n X T wanted h e u damping s
    unfolding make_rows ◌>>=◌
    rows_pass z = rw (met_done (tested n X T wanted h e u damping (length s)) _ z)

-- 1, of N and of rows in bytes
module _ (n X T wanted : ℕ) (h e u damping s : List ℕ) where
  abbrev all_hold : Bool
  all_hold = holds h n && holds e n && holds u n && holds damping n

  pub file_unfit : cells_allowed n && all_hold ≡ false → leaves_bytes (early (told Shape)) s ≡ make_file n X T wanted h e u damping s
  unfolding make_file make_checked require ◌>>=◌ number place
  file_unfit z = unfit_call s (λ _. 0) file_of (cells_allowed n) all_hold _ (λ i. rw i) z

  pub file_fit : all_hold ≡ true → make_rows n X T wanted (row_in h) (row_in e) (row_in u) (row_in damping) s ≡ make_file n X T wanted h e u damping s
  unfolding make_file make_rows filed tested buffer_checked require ◌>>=◌
  file_fit z =
      rw z
      (ap (called s (λ _. 0) file_of)
      (sym (regroup (make_checked n X T wanted (row_in h) (row_in e) (row_in u) (row_in damping)) (λ _. buffer_checked n (length s)) (λ _. make n X T wanted (row_in h) (row_in e) (row_in u) (row_in damping)))))
