-- The channel file's layout: a row as the code has it, by its place, its width and its length. Assumes nothing.
use Rattle.std.specs.Prelude.{ℕ, ◌+◌, ◌*◌, ◌≤◌, ◌<◌, ◌≡◌, List, [], ◌∷◌, length, get_or}
use Rattle.std.proofs.Common.{sym, subst}
use Rattle.rule.specs.Rows.{map}
use Rattle.rule.specs.Channel.{rows, lengths}
use Rattle.rule.specs.Bytes.{row_at}
use Rattle.rule.specs.Layout.{widths, start_of, length_of}
use Rattle.rule.specs.File.{edition, count_of, row_of, channel_of}
use Rattle.little.specs.Entries.{length-row_at}
use Rattle.layout.specs.Places.{stands}

-- row i, with m entries of k bytes from `at` on, in a file of n cells
module _
    (edition n i : ℕ) {at k m : ℕ} (start : at ≡ start_of edition n i) (width : k ≡ get_or (widths edition) i 0)
    (long : m ≡ get_or (lengths n) i 0) where
  pub row_stands : {total : ℕ} → total ≡ length_of edition n → i < length (widths edition) → at + k * m ≤ total
  row_stands e h = subst (λ t. t) (sym (λ j. start j + width j * long j ≤ e j)) (stands edition n i h)

  pub row_is : (s : List ℕ) → row_at k s at m ≡ row_of edition n s i
  unfolding row_of
  row_is s = (λ j. row_at (width j) s (start j) (long j))

pub length-row_of : (edition n : ℕ) (s : List ℕ) (i : ℕ) → length (row_of edition n s i) ≡ get_or (lengths n) i 0
unfolding row_of
length-row_of edition n s i = length-row_at _ s _ (get_or (lengths n) i 0)

-- the rows of what a file holds are as long as those of its cells
pub lengths_of_file : (s : List ℕ) → map length (rows (channel_of s)) ≡ lengths (count_of s 1)
unfolding channel_of rows map lengths
lengths_of_file s =
    let at = length-row_of edition (count_of s 1) s in
    (λ i. at 0 i ∷ at 1 i ∷ at 2 i ∷ at 3 i ∷ at 4 i ∷ at 5 i ∷ at 6 i ∷ [])
