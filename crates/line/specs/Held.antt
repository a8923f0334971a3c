-- The channel file: what is printed of a file, by the reader's fault. Assumes nothing.
use Rattle.std.specs.Prelude.{ℕ, ◌^◌, ◌≤◌, ◌<◌, ◌≡◌, true, None, take}
use Rattle.std.proofs.Common.{arith, ◌∙◌}
use Rattle.std.proofs.Math.Path.{refl, sym, ap, subst}
use mathlib.Core.List.{List, []}
use Rattle.std.proofs.Math.ListN.{length}
use Rattle.rule.specs.declared.Answer.{Answer}
use Rattle.rule.specs.Ranges.{most_cells, most_height}
use Rattle.whole.specs.Row.{padded, Within}
use Rattle.rule.specs.Rows.{Row}
use Rattle.rule.specs.Refusals.{Outcome, refused, done, number_of, met_as}
use Rattle.rule.specs.Bytes.{count_at, row_at}
use Rattle.rule.specs.Layout.{widths, start_of, length_of}
use Rattle.rule.specs.File.{edition, least_length, count_of, channel_of, read_with}
use Rattle.rule.specs.Channel.{Channel, lengths}
use Rattle.rule.specs.Line.{line, channel_line}
use Rattle.rule.specs.Calls.{read, print_file}
use Rattle.checks.specs.Numbers.{number_within}
use Rattle.answers.specs.Stages.{answer_of}
use Rattle.checks.specs.Allowed.{allowed_of}
use Rattle.little.specs.Written.{written, length_written}
use Rattle.text.specs.Lines.{line_of, refused_of, Printable, channel_line_lem, refused_line}
use Rattle.opened.specs.Opened.{Opened, opened_of, none_read}
use Rattle.form.specs.Reader.{fits_lent, rows_in}
use Rattle.opened.specs.Held.{four_cut}
use Rattle.opened.specs.Fitting.{held_row}

-- the number that the reader answers of an outcome, as the code has it
number_is : {A : Type 0} (m : Outcome A) → (answer_of (met_as (λ _. 0) m)).number ≡ number_of m
unfolding met_as number_of
number_is (refused r k) = refl
number_is (done a) = refl

-- every number is at most 38
outcome_most : {A : Type 0} (m : Outcome A) → number_of m ≤ 38
unfolding number_of
outcome_most (refused r k) = (number_within r).1
outcome_most (done a) = omega arith

-- what is refused has its line
line_refused : (m : Outcome Channel) → 1 ≤ number_of m → refused_of (number_of m) ≡ line m
unfolding number_of
line_refused (refused r k) h = refused_line r k
line_refused (done a) h = absurd (omega arith)

-- the reader's answer a for the bytes s, as the code has it
module _ (s : List ℕ) (a : Answer) (e : a ≡ answer_of (met_as (λ _. 0) (read_with (fits_lent None) (rows_in None) s))) where
  pub is_number : a.number ≡ number_of (read s)
  is_number = ap (λ (b : Answer). b.number) e ∙ number_is (read_with (fits_lent None) (rows_in None) s) ∙ ap number_of (none_read s)

  pub at_most : a.number ≤ 38
  at_most = omega (arith, is_number, outcome_most (read s))

  -- 1 to 38
  pub refused_is : 1 ≤ a.number → refused_of a.number ≡ print_file s
  unfolding print_file
  refused_is h = ap refused_of is_number ∙ line_refused (read s) (omega (arith, h, is_number))

-- a file that the reader takes
module _ (s : List ℕ) (z : number_of (read s) ≡ 0) where
  opened : Opened (λ _. true) [] s
  unfolding read
  opened = opened_of (λ _. true) [] s (sym z)

  -- its line is its channel's
  pub held_is : channel_line (channel_of s) ≡ print_file s
  unfolding print_file read line
  held_is = ap line (sym opened.is)

  pub head_long : least_length ≤ length s
  head_long = opened.head

  module _ (n : ℕ) (e : n ≡ count_at 4 s 4) where
    cells_is : count_of s 1 ≡ n
    unfolding count_of
    cells_is = sym e

    pub cells_some : (1 ≤ n) × (n ≤ most_cells)
    cells_some = let o = opened in (omega (arith, o.least, cells_is), omega (arith, o.most, cells_is))

    pub file_long : length s ≡ length_of edition n
    file_long = subst (λ k. length s ≡ length_of edition k) cells_is opened.sized

    -- its heights, read into an array
    module _ (array : Row) (at : ℕ) (start : at ≡ start_of edition n 1) (f : array ≡ padded n (row_at 4 s at n)) where
      heights_are : take n array ≡ (channel_of s).e
      unfolding channel_of widths lengths
      heights_are = four_cut s at n f ∙ held_row s n 1 start refl refl (sym cells_is)

      module _ (accepted wanted : ℕ) (p : accepted ≡ count_at 4 s 16) (q : wanted ≡ count_at 4 s 20) where
        pub line_is : line_of n accepted wanted (take n array) ≡ channel_line (channel_of s)
        unfolding channel_of count_of
        line_is = (λ i. line_of (e i) (p i) (q i) (heights_are i)) ∙ channel_line_lem (channel_of s)

        pub printable : accepted < 256 ^ 4 → wanted < 256 ^ 4 → Printable n accepted wanted (take n array)
        unfolding channel_of
        printable h l =
            let cells = (allowed_of (channel_of s) [] opened.checked_0).cells in
            let long : length (take n array) ≡ n = ap length heights_are ∙ cells.e_long ∙ cells_is in
            record {
              cells = cells_some.1;
              accepted_held = h;
              wanted_held = l;
              e_long = omega (arith, long, cells_some);
              e_small = subst (λ row. Within most_height (length row) row) (sym heights_are) (subst (λ k. Within most_height k (channel_of s).e) (sym cells.e_long) cells.e_small);
            }

-- a buffer of 64 bytes still has them when a line is put into it
pub still_64 : (d x e : List ℕ) (r : ℕ) → r ≡ length x → e ≡ written d 0 x → r ≤ 64 → length d ≡ 64 → length e ≡ 64
still_64 d x e r p q h l = ap length q ∙ length_written d 0 x (omega arith) ∙ l
