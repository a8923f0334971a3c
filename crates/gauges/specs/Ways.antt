-- "Gauges": the ways out of a call: the channel's own refusal, or what is done to the gauges. Assumes nothing.
use Rattle.std.specs.Prelude.{ℕ, ◌≤◌, ◌≡◌, None, length}
use Rattle.std.proofs.Math.Path.{sym, ap}
use Rattle.std.proofs.Common.{◌∙◌, arith, lit≤}
use mathlib.Core.List.{List, []}
use Rattle.rule.specs.Refusals.{Fault}
use Rattle.rule.specs.Rows.{Row}
use Rattle.whole.specs.Row.{Within, within_more}
use Rattle.rule.specs.Ranges.{most_cells, most_height}
use Rattle.rule.specs.Channel.{Channel}
use Rattle.rule.specs.Refusals.{done, number_of, fault_of, ◌>>=◌}
use Rattle.rule.specs.Checks.{checked}
use Rattle.rule.specs.File.{count_of, channel_of, read_with}
use Rattle.rule.specs.Calls.{called, plainly, read}
use Rattle.answers.specs.Stages.{early, leaves_bytes, refused_first}
use Rattle.checks.specs.Numbers.{after_done, done_of}
use Rattle.checks.specs.Met.{checked_outside}
use Rattle.checks.specs.Facts.{cells_few}
use Rattle.checks.specs.Allowed.{checks_passed, shape_lengths, allowed_of}
use Rattle.form.specs.Reader.{fits_lent, rows_in}
use Rattle.opened.specs.Held.{cells_is}
use Rattle.opened.specs.Opened.{Opened, read_outside, none_read}
use Rattle.gauge.specs.State.{free, placed, fed}
use Rattle.gauge.specs.OnGauges.{place_call, feed_call, place_file, feed_file}

-- a channel in lent rows: refused by its own checks
module _ (c : Channel) (s : List ℕ) (f : Fault) (e : f ≡ fault_of (checked c [])) (z : f.number ≡ 0 → ⊥) where
  pub place_refused : (j : ℕ) → leaves_bytes (early f) s ≡ place_call c j s
  unfolding place_call
  place_refused j = refused_first s (λ _. free s) (λ t. t) f (checked c []) _ (checked_outside c []) e z

  pub feed_refused : leaves_bytes (early f) s ≡ feed_call c s
  unfolding feed_call plainly
  feed_refused = refused_first s (λ _. 0) (λ t. t) f (checked c []) _ (checked_outside c []) e z

-- past them
module _ (c : Channel) (z : number_of (checked c []) ≡ 0) where
  pub cells_most : c.N ≤ most_cells
  cells_most = (cells_few c.N (shape_lengths c [] (checks_passed c [] z).0).0).1

  pub heights_long : length c.e ≡ c.N
  heights_long = (shape_lengths c [] (checks_passed c [] z).0).1.e_long

  pub heights_small : Within most_height (length c.e) c.e
  heights_small = let a = (allowed_of c [] z).cells in rw a.e_long a.e_small

  -- what is asked of a row that is fed; depths would pass it too
  pub feeds_heights : (length c.e ≤ most_cells) × Within most_height (length c.e) c.e
  feeds_heights = (omega (arith, cells_most, heights_long), heights_small)

  pub feeds_depths : (length c.h ≤ most_cells) × Within most_height (length c.h) c.h
  feeds_depths = let a = (allowed_of c [] z).cells in (omega (arith, cells_most, a.h_long), rw a.h_long (within_more (lit≤ tt) a.h_small))

  pub place_on : (j : ℕ) (s : List ℕ) → called s (λ (_ : List ℕ). free s) (λ t. t) (placed c.N j s) ≡ place_call c j s
  unfolding place_call
  place_on j s = ap (called s (λ _. free s) (λ t. t)) (sym (after_done (checked c []) tt _ (done_of (checked c []) z)))

  pub feed_on : (s : List ℕ) → plainly s (fed c.e s) ≡ feed_call c s
  unfolding feed_call
  feed_on s = ap (plainly s) (sym (after_done (checked c []) tt _ (done_of (checked c []) z)))

-- a file: refused by the reader
module _ (file s : List ℕ) (f : Fault) (e : f ≡ fault_of (read_with (fits_lent None) (rows_in None) file)) (z : f.number ≡ 0 → ⊥) where
  pub place_unread : (j : ℕ) → leaves_bytes (early f) s ≡ place_file file j s
  unfolding place_file
  place_unread j =
      refused_first s (λ _. free s) (λ t. t) f (read_with (fits_lent None) (rows_in None) file) (λ c. placed c.N j s) (read_outside (fits_lent None) (rows_in None) file) e z
      ∙ ap (λ m. called s (λ _. free s) (λ t. t) (m >>= λ c. placed c.N j s)) (none_read file)

  pub feed_unread : leaves_bytes (early f) s ≡ feed_file file s
  unfolding feed_file plainly
  feed_unread =
      refused_first s (λ _. 0) (λ t. t) f (read_with (fits_lent None) (rows_in None) file) (λ c. fed c.e s) (read_outside (fits_lent None) (rows_in None) file) e z
      ∙ ap (λ m. called s (λ _. 0) (λ t. t) (m >>= λ c. fed c.e s)) (none_read file)

-- and past it
module _ (file s : List ℕ) (o : Opened (fits_lent None) (rows_in None) file) where
  read_done : read file ≡ done (channel_of file)
  read_done = sym (none_read file) ∙ o.is

  pub place_read : (j n : ℕ) → n ≡ count_of file 1 → called s (λ (_ : List ℕ). free s) (λ t. t) (placed n j s) ≡ place_file file j s
  unfolding place_file
  place_read j n e =
      ap (λ k. called s (λ _. free s) (λ t. t) (placed k j s)) (e ∙ sym (cells_is file))
      ∙ ap (called s (λ _. free s) (λ t. t)) (sym (after_done (read file) (channel_of file) _ read_done))

  pub feed_read : (e : Row) → e ≡ (channel_of file).e → plainly s (fed e s) ≡ feed_file file s
  unfolding feed_file
  feed_read e q =
      ap (λ r. plainly s (fed r s)) q
      ∙ ap (plainly s) (sym (after_done (read file) (channel_of file) _ read_done))
