-- From V to u: a row's coefficients, at the walls and between them. Assumes nothing.
use Rattle.std.specs.Prelude.{ℕ, suc, ◌+◌, ◌*◌, ◌-◌, ◌≤◌, ◌<◌, ◌≡◌, refl, Bool, true, false, cond, ◌||◌, eqb, ℤ, pos, nat_abs, ◌+ℤ◌, ◌*ℤ◌}
use Rattle.std.proofs.Common.{zero-le, ◌∙◌, arith, le_trans, mul-le-mul, lit≤}
use Rattle.std.proofs.Math.Numerals.{add-one}
use borrow.Author.Tests.{eq-eqb, ne_eqb, eqb-false}
use Rattle.std.proofs.Math.IntN.{+ℤ_idr}
use Rattle.whole.specs.Expr.{var, lit, add, sub, mul, abs≤}
use Rattle.rule.specs.Rows.{Row, cell}
use Rattle.rule.specs.Coefficients.{scale, beside, coefficients}
use Rattle.rule.specs.Ranges.{most_width, most_depth}
use Rattle.coefficients.specs.Ready.{Bed, Sized}

-- b between the walls, and what it grows by at a wall
abbrev pub inner : ℕ → Row → ℕ → ℤ
inner X h j = pos (scale X) +ℤ pos 7_800_390 *ℤ (cell h j *ℤ cell h j)

abbrev pub walled : ℕ → Row → ℕ → ℤ
walled X h j = inner X h j +ℤ pos 3_900_195 *ℤ (cell h j *ℤ cell h j)

module _ (n X : ℕ) (h : Row) (j : ℕ) where
  pub at_first : 2 ≤ n → j ≡ 0 → coefficients n X h j ≡ record { a = pos 0; b = walled X h j; c = beside (cell h j) (cell h (j + 1)) }
  unfolding coefficients
  at_first l e = rw (eq-eqb j 0 e, ne_eqb (suc j) n (omega arith), add-one)

  pub at_last : 2 ≤ n → j + 1 ≡ n → coefficients n X h j ≡ record { a = beside (cell h j) (cell h (j - 1)); b = walled X h j; c = pos 0 }
  unfolding coefficients
  at_last l e = rw (ne_eqb j 0 (omega arith), eq-eqb (suc j) n (omega arith))

  pub between : (j ≡ 0 → ⊥) → (j + 1 ≡ n → ⊥) → coefficients n X h j ≡ record { a = beside (cell h j) (cell h (j - 1)); b = inner X h j; c = beside (cell h j) (cell h (j + 1)) }
  unfolding coefficients
  between p q = rw (ne_eqb j 0 p, ne_eqb (suc j) n (λ e. q (add-one j ∙ e)), add-one, +ℤ_idr)

pub square_small : {x : ℕ} → x ≤ most_width → x * x ≤ 25_000_000
square_small {x} h = mul-le-mul h h

pub scale_small : {x : ℕ} → x ≤ most_width → scale x ≤ 250_000_000_000_000
unfolding scale
scale_small {x} h = omega (arith, square_small h)

-- every coefficient is small enough for sums of them
abbrev most_size : ℕ
most_size = 5_000_000_000_000_000

beside_small : (h k : ℤ) → nat_abs h ≤ most_depth → nat_abs k ≤ most_depth → nat_abs (beside h k) ≤ most_size
unfolding beside
beside_small h k p q =
    le_trans
    (abs≤ (mul (var h most_depth p) (sub (mul (lit (pos 1_409_805)) (var h most_depth p)) (mul (lit (pos 5_310_000)) (var k most_depth q)))))
    (lit≤ tt)

-- b, whatever it grows by
middle_small : (w : ℕ) (h g : ℤ) → w ≤ 250_000_000_000_000 → nat_abs h ≤ most_depth → nat_abs g ≤ 1_600_000_000_000_000 → nat_abs (pos w +ℤ pos 7_800_390 *ℤ (h *ℤ h) +ℤ g) ≤ most_size
middle_small w h g p q r =
    le_trans
    (abs≤ (add (add (var (pos w) 250_000_000_000_000 p) (mul (lit (pos 7_800_390)) (mul (var h most_depth q) (var h most_depth q)))) (var g 1_600_000_000_000_000 r)))
    (lit≤ tt)

either : (b : Bool) (x y : ℤ) (k : ℕ) → (b ≡ true → nat_abs x ≤ k) → (b ≡ false → nat_abs y ≤ k) → nat_abs (cond b x y) ≤ k
either true x y k f g = f refl
either false x y k f g = g refl

pub sized : (n X : ℕ) (h : Row) (j : ℕ) → Bed n X h → j < n → Sized (coefficients n X h j)
unfolding coefficients
sized n X h j r l =
    let here = r.deep.at j l in
    record {
      a = either (eqb j 0) (pos 0) (beside (cell h j) (cell h (j - 1))) most_size (λ e. zero-le) (λ e. beside_small (cell h j) (cell h (j - 1)) here (r.deep.at (j - 1) (omega arith)));
      b =
          middle_small
          (scale X)
          (cell h j)
          (cond (eqb j 0 || eqb (suc j) n) (pos 3_900_195 *ℤ (cell h j *ℤ cell h j)) (pos 0))
          (scale_small r.wide)
          here
          (either (eqb j 0 || eqb (suc j) n) (pos 3_900_195 *ℤ (cell h j *ℤ cell h j)) (pos 0) 1_600_000_000_000_000
          (λ e. le_trans (abs≤ (mul (lit (pos 3_900_195)) (mul (var (cell h j) most_depth here) (var (cell h j) most_depth here)))) (lit≤ tt))
          (λ e. zero-le));
      c =
          either (eqb (suc j) n) (pos 0) (beside (cell h j) (cell h (suc j))) most_size
          (λ e. zero-le)
          (λ e. beside_small (cell h j) (cell h (suc j)) here (r.deep.at (suc j) (let q : (suc j ≡ n → ⊥) = eqb-false (suc j) n e in omega arith)));
    }
