-- `gauge_rows`: a part of a row, written over. Assumes nothing.
use borrow.Rule.Slice.PartMut.{put_mid}
use Rattle.std.proofs.Common.{◌≡◌, ℕ, ◌+◌, ◌-◌, ◌*◌, ◌<◌, List, length, drop, take, ◌++◌, ap, ◌∙◌, arith}
use Rattle.std.proofs.Math.Seq.{drop-drop}
use Rattle.std.proofs.lemmas.Grind.{common_steps}
use Rattle.rule.specs.Rows.{Row, cell}
use Rattle.gauge.specs.State.{gauge_at}
use Rattle.little.specs.Written.{written}

pub written_part : {A : Type 0} (at k : ℕ) (row part x : List A) → part ≡ x → k ≡ length x → put_mid at k row part ≡ written row at x
unfolding written
written_part at k row part x e l = rw (e, l) (ap (λ t. take at row ++ (x ++ t)) (drop-drop (length x) at row))

-- the entries of a part
cell_part : (row : Row) (at n j : ℕ) → j < n → cell (take (at + n - at) (drop at row)) j ≡ cell row (at + j)
cell_part row at n j h = grind (arith, common_steps)

pub gauge_part : (row : Row) (k : ℕ) → gauge_at (take (8 * k + 8 - 8 * k) (drop (8 * k) row)) 0 ≡ gauge_at row k
unfolding gauge_at
gauge_part row k =
    let e : (j : ℕ) → j < 8 → cell (take (8 * k + 8 - 8 * k) (drop (8 * k) row)) j ≡ cell row (8 * k + j) = λ j h. cell_part row (8 * k) 8 j h in
    let z : 8 * k + 0 ≡ 8 * k = omega arith in
    (λ i. record {
      cell = (e 0 (omega arith) ∙ ap (cell row) z) i;
      fed = e 1 (omega arith) i;
      last = e 2 (omega arith) i;
      crossings = e 3 (omega arith) i;
      highest = e 4 (omega arith) i;
      lowest = e 5 (omega arith) i;
      largest = e 6 (omega arith) i;
      sum = e 7 (omega arith) i;
    })
