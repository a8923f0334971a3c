-- The channel file: rows of its lengths, in which it is opened. Assumes nothing.
use Rattle.std.specs.Prelude.{ℕ, ◌-◌, ◌*◌, ◌≤◌, ◌<◌, ◌≡◌, refl, List, length, take, get_or}
use Rattle.std.proofs.Common.{sym, ◌∙◌, ap, length-take-le}
use native.Mathlib.Omega.{arith}
use Rattle.rule.specs.Rows.{Row}
use Rattle.rule.specs.Ranges.{least_cells, most_cells}
use Rattle.rule.specs.Channel.{lengths}
use Rattle.rule.specs.Bytes.{row_at}
use Rattle.rule.specs.Layout.{counts_in, widths, head_length, start_of, length_of}
use Rattle.rule.specs.File.{edition, least_length, count_of, row_of}
use Rattle.checks.specs.Facts.{Lengths}
use Rattle.layout.specs.Places.{head_within}
use Rattle.layout.specs.Rows.{row_is}

-- rows that fit the cells of the file s
pub record CellsFit (s : List ℕ) (h e u v : Row) : Type 0 where
  pub least : least_cells ≤ count_of s 1
  pub most : count_of s 1 ≤ most_cells
  pub sized : length s ≡ length_of edition (count_of s 1)
  pub h_long : length h ≡ count_of s 1
  pub e_long : length e ≡ count_of s 1
  pub u_long : length u ≡ count_of s 1
  pub v_long : length v ≡ count_of s 1

-- and what the layout asks of it
module _ {s : List ℕ} {h e u v : Row} (w : CellsFit s h e u v) where
  pub cells_sized : length s ≡ length_of edition (length h)
  cells_sized = w.sized ∙ ap (length_of edition) (sym w.h_long)

  pub cells_start : (i : ℕ) → i < 4 → (i < length (widths edition)) × ((1 ≤ length h) × (length h ≤ most_cells))
  unfolding widths
  cells_start i l = (omega arith, (omega (arith, w.least, w.h_long), omega (arith, w.most, w.h_long)))

-- and its levels and damping
pub record LevelsFit (n : ℕ) (s : List ℕ) (Q F damping : Row) : Type 0 where
  pub cells : count_of s 1 ≡ n
  pub least : least_cells ≤ n
  pub most : n ≤ most_cells
  pub sized : length s ≡ length_of edition n
  pub Q_long : length Q ≡ 3 * (n - 1)
  pub F_long : length F ≡ 3 * n
  pub damping_long : length damping ≡ n

-- row i of what s holds, as the code has it
pub held_row :
    (s : List ℕ) (n i : ℕ) {at k m : ℕ} → at ≡ start_of edition n i → k ≡ get_or (widths edition) i 0 →
    m ≡ get_or (lengths n) i 0 → n ≡ count_of s 1 → row_at k s at m ≡ row_of edition (count_of s 1) s i
held_row s n i start width long e = row_is edition n i start width long s ∙ ap (λ j. row_of edition j s i) e

-- a file whose form is right, and rows of the lengths of its own
pub record Opens (s : List ℕ) (h e u v Q F damping : Row) : Type 0 where
  pub least : least_cells ≤ count_of s 1
  pub most : count_of s 1 ≤ most_cells
  pub sized : length s ≡ length_of edition (count_of s 1)
  pub long : Lengths (count_of s 1) h e u v Q F damping

module _ {s : List ℕ} {h e u v Q F damping : Row} (o : Opens s h e u v Q F damping) where
  pub head_held : least_length ≤ length s
  unfolding head_length counts_in widths
  head_held = omega (arith, o.sized, head_within edition (count_of s 1))

  pub cells_fit : CellsFit s h e u v
  cells_fit = record { least = o.least; most = o.most; sized = o.sized; h_long = o.long.h_long; e_long = o.long.e_long; u_long = o.long.u_long; v_long = o.long.v_long }

  pub levels_fit : (n : ℕ) → n ≡ count_of s 1 → LevelsFit n s Q F damping
  levels_fit n e = rw e (record { cells = refl; least = o.least; most = o.most; sized = o.sized; Q_long = o.long.Q_long; F_long = o.long.F_long; damping_long = o.long.damping_long })

-- parts of arrays are such, of a file of n cells
pub opens_parts :
    (s : List ℕ) (n : ℕ) (h e u v Q F damping : Row) → count_of s 1 ≡ n → least_cells ≤ n → n ≤ most_cells → length s ≡ length_of edition n →
    length h ≡ most_cells → length e ≡ most_cells → length u ≡ most_cells → length v ≡ most_cells → length Q ≡ 3 * most_cells → length F ≡ 3 * most_cells → length damping ≡ most_cells →
    Opens s (take n h) (take n e) (take n u) (take n v) (take (3 * (n - 1)) Q) (take (3 * n) F) (take n damping)
opens_parts s n h e u v Q F damping is few most sized a b c d q f g =
    let m = sym is in
    record {
      least = omega (arith, is, few);
      most = omega (arith, is, most);
      sized = sized ∙ ap (length_of edition) m;
      long =
          record {
            h_long = length-take-le n h (omega arith) ∙ m;
            e_long = length-take-le n e (omega arith) ∙ m;
            u_long = length-take-le n u (omega arith) ∙ m;
            v_long = length-take-le n v (omega arith) ∙ m;
            Q_long = length-take-le (3 * (n - 1)) Q (omega arith) ∙ ap (λ k. 3 * (k - 1)) m;
            F_long = length-take-le (3 * n) F (omega arith) ∙ ap (λ k. 3 * k) m;
            damping_long = length-take-le n damping (omega arith) ∙ m;
          };
    }
