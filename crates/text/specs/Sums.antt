-- The channel file: the sum of heights, entry by entry, and its size. Assumes nothing.
use Rattle.std.specs.Prelude.{ℕ, zero, suc, ◌+◌, ◌*◌, ◌≤◌, ◌<◌, ◌≡◌, [], ◌∷◌, ◌++◌, length, take, ℤ, pos, nat_abs, ◌+ℤ◌}
use Rattle.std.proofs.Common.{mul-le-mul_right, add-one, arith, sym, ap, subst, ◌∙◌, take-suc, take_all}
use Rattle.std.proofs.Math.IntN.{+ℤ_assoc, +ℤ_idl, +ℤ_idr}
use Rattle.whole.specs.Abs.{abs_add}
use Rattle.whole.specs.Row.{Within}
use Rattle.rule.specs.Rows.{Row, sum, cell}

sum_last : (zs : Row) (z : ℤ) → sum (zs ++ (z ∷ [])) ≡ sum zs +ℤ z
unfolding sum
sum_last [] z = +ℤ_idr z ∙ sym (+ℤ_idl z)
sum_last (y ∷ zs) z = ap (λ t. y +ℤ t) (sum_last zs z) ∙ sym (+ℤ_assoc y (sum zs) z)

-- one entry more
pub sum_more : (row : Row) (j : ℕ) → j < length row → sum (take j row) +ℤ cell row j ≡ sum (take (j + 1) row)
sum_more row j h =
    sym (sum_last (take j row) (cell row j))
    ∙ ap sum (sym (take-suc row j (pos 0) h))
    ∙ ap (λ k. sum (take k row)) (sym (add-one j))

sum_le : (most : ℕ) (row : Row) (n j : ℕ) → Within most n row → j ≤ n → nat_abs (sum (take j row)) ≤ j * most
unfolding sum
sum_le most row n zero w h = omega arith
sum_le most [] n (suc j) w h = omega arith
sum_le most (z ∷ row) (suc n) (suc j) w h =
    omega (
      arith,
      sum_le most row n j (record { at = λ i p. w.at (suc i) (omega arith) }) (omega arith),
      w.at 0 (omega arith),
      abs_add z (sum (take j row)),
    )
sum_le most (z ∷ row) zero (suc j) w h = absurd (omega arith)

-- the sum of the first entries, of which there are at most m
pub sum-small : (most m : ℕ) (row : Row) (n j : ℕ) → Within most n row → j ≤ n → n ≤ m → nat_abs (sum (take j row)) ≤ m * most
sum-small most m row n j w h l = omega (arith, sum_le most row n j w h, mul-le-mul_right {m = j} {n = m} most (omega arith))

pub sum-within : (most m : ℕ) (row : Row) → Within most (length row) row → length row ≤ m → nat_abs (sum row) ≤ m * most
sum-within most m row w l =
    let e : sum (take (length row) row) ≡ sum row = ap sum (take_all (length row) row (omega arith)) in
    subst (λ z. nat_abs z ≤ m * most) e (sum-small most m row (length row) (length row) w (omega arith) l)
