-- Flux and acceleration: how large the rows and their weighted sums are. Assumes nothing.
use Rattle.std.specs.Prelude.{ℕ, ◌+◌, ◌*◌, ◌<◌, ◌≤◌, ◌≡◌, List, length, ℤ, pos, nat_abs, ◌+ℤ◌, ◌-ℤ◌, ◌*ℤ◌}
use Rattle.std.proofs.Common.{arith, le_trans, ◌∙◌, ap, lit≤}
use Rattle.std.proofs.lemmas.List.{get_or-replicate}
use Rattle.std.proofs.Math.IntN.{+ℤ_idr, zero-*ℤ}
use Rattle.whole.specs.Abs.{abs_neg}
use Rattle.whole.specs.Expr.{var, lit, add, sub, mul, abs≤}
use Rattle.whole.specs.Row.{tab, length_tab, tab_at, tab_ext, zeros, length_zeros, padded, padded_at, length_padded, Within, within_more}
use Rattle.rule.specs.Rounded.{nearest, rounded}
use Rattle.rule.specs.Rows.{Row, cell, sizes, weighed}
use Rattle.rule.specs.Ranges.{most_acceleration, least_cells, most_cells, least_width, most_depth, most_height, most_velocity, most_damping}
use Rattle.rule.specs.Channel.{water, product}
use Rattle.rule.specs.Mirror.{even, odd}
use Rattle.rule.specs.Flux.{plain_weights, plain_part, second_weights, second}
use Rattle.rule.specs.Acceleration.{slope_weights, D, undamped, acceleration, accelerations}
use Rattle.round.specs.Quotients.{rounded_most, rounded_less}
use Rattle.rows.specs.Asked.{Sum}
use Rattle.rows.specs.Mirrored.{Mirrors, seen_within, even_mirrors, odd_mirrors}
use Rattle.rows.specs.Weighed.{weighed_within}
use Rattle.dispersion.specs.Asked.{Cells, Carrying}

pub cells_more : {j k n : ℕ} {row : Row} → j ≤ k → Cells j n row → Cells k n row
cells_more l c = record { least = c.least; most = c.most; long = c.long; small = within_more l c.small }

-- what each cell carries, by a formula
pub carried_is : (n : ℕ) (h e u : Row) → product n (water n h e) u ≡ tab n (λ j. (pos 1000 *ℤ cell h j +ℤ cell e j) *ℤ cell u j)
unfolding product water
carried_is n h e u = tab_ext n _ _ (λ j l. ap (λ z. z *ℤ cell u j) (tab_at n (λ k. pos 1000 *ℤ cell h k +ℤ cell e k) j (pos 0) l))

pub length-product : (n : ℕ) (a b : Row) → length (product n a b) ≡ n
unfolding product
length-product n a b = length_tab n _

-- a row that is written out by a formula, kept in an array r
tab_cells : (k n : ℕ) (f : ℕ → ℤ) (r : Row) → r ≡ padded n (tab n f) → least_cells ≤ n → n ≤ most_cells → ((j : ℕ) → j < n → nat_abs (f j) ≤ k) → Cells k n r
tab_cells k n f r e least most p =
    record {
      least = least;
      most = most;
      long = rw (e, length_padded n (tab n f) (length_tab n f) most) most;
      small = record { at = λ j l. rw (e, padded_at n (tab n f) (length_tab n f) j (pos 0) l, tab_at n f j (pos 0) l) (p j l) };
    }

-- a level surface
pub level_cells : {n : ℕ} {h : Row} → Cells most_depth n h → Cells most_height n zeros
unfolding zeros
level_cells c =
    record {
      least = c.least;
      most = c.most;
      long = rw length_zeros c.most;
      small = record { at = λ j l. rw (get_or-replicate most_cells j (pos 0) (pos 0) (omega (arith, c.most))) (lit≤ tt) };
    }

pub carried_cells : {n : ℕ} {h e u r : Row} → r ≡ padded n (product n (water n h e) u) → Carrying n h e u → Cells 1_000_000_000_000_000 n r
carried_cells {n} {h} {e} {u} {r} i c =
    tab_cells 1_000_000_000_000_000 n _ r (i ∙ ap (padded n) (carried_is n h e u)) c.depths.least c.depths.most
    (λ j l. le_trans (abs≤ (mul (add (mul (lit (pos 1000)) (var (cell h j) most_depth (c.depths.small.at j l))) (var (cell e j) most_height (c.heights.small.at j l))) (var (cell u j) most_velocity (c.velocities.small.at j l)))) (lit≤ tt))

-- the weighted sums over a row
module _ (k n : ℕ) (row : Row) (small : Within k n row) (least : 4 ≤ n) where
  seen_sum : {seen : ℕ → Row → ℕ → ℤ} {image : ℤ → ℤ} {can_image : ℤ → Type 0} → Mirrors seen image can_image → (ws : List ℤ) (i : ℕ) → i + length ws ≤ n + 8 → nat_abs (weighed ws (seen n row) i) ≤ sizes ws * k
  seen_sum {seen} laws ws i h =
      weighed_within (seen n row) k ws i (λ m l. seen_within laws k n row small least (i + m) (omega arith))

  pub plain_sum : (j : ℕ) → j < n → nat_abs (weighed plain_weights (odd n row) (j + 3)) ≤ 16 * k
  unfolding sizes
  plain_sum j l = seen_sum odd_mirrors plain_weights (j + 3) (omega arith)

  pub second_within : (j : ℕ) → j < n → nat_abs (second n row j) ≤ 4 * k
  unfolding second sizes
  second_within j l = seen_sum odd_mirrors second_weights (j + 3) (omega arith)

  pub slope_even : (j : ℕ) → j < n → nat_abs (D (even n row) j) ≤ 18 * k
  unfolding D sizes
  slope_even j l = seen_sum even_mirrors slope_weights (j + 2) (omega arith)

  pub slope_odd : (j : ℕ) → j < n → nat_abs (D (odd n row) j) ≤ 18 * k
  unfolding D sizes
  slope_odd j l = seen_sum odd_mirrors slope_weights (j + 2) (omega arith)

pub plain_within : (n : ℕ) (P : Row) → Within 1_000_000_000_000_000 n P → 4 ≤ n → (j : ℕ) → j < n → nat_abs (plain_part n P j) ≤ 2_000_000_000_000_000
unfolding plain_part
plain_within n P small least j l =
    rounded_most (weighed plain_weights (odd n P) (j + 3)) 12 2_000_000_000_000_000 (lit≤ tt)
    (le_trans (plain_sum 1_000_000_000_000_000 n P small least j l) (lit≤ tt))

-- what the weighted sums of D ask
pub slope_asked : (n : ℕ) (row : Row) → Cells 20_000_000 n row → (j : ℕ) → j < n → Sum row n (j + 2) slope_weights
unfolding sizes
slope_asked n row c j l =
    record {
      least = omega (arith, c.least);
      most = c.most;
      long = c.long;
      small = within_more (lit≤ tt) c.small;
      near = omega arith;
      light = lit≤ tt;
    }

module _ (n X : ℕ) (e u : Row) (heights : Within most_height n e) (velocities : Within most_velocity n u) (least : 4 ≤ n) where
  -- what is divided for F
  divided_within : (j : ℕ) → j < n → nat_abs (pos 9_810_000 *ℤ D (even n e) j +ℤ cell u j *ℤ D (odd n u) j) ≤ 10_731_600_000_000_000
  divided_within j l =
      abs≤
      (add (mul (lit (pos 9_810_000)) (var (D (even n e) j) 360_000_000 (slope_even most_height n e heights least j l)))
      (mul (var (cell u j) most_velocity (velocities.at j l)) (var (D (odd n u) j) 360_000_000 (slope_odd most_velocity n u velocities least j l))))

  -- before damping: whatever the width, so that nothing wraps, and with the least width
  pub undamped_less : 1 ≤ X → (j : ℕ) → j < n → nat_abs (undamped n X e u j) ≤ 10_731_600_000_000_000
  unfolding undamped
  undamped_less h j l =
      rw (abs_neg (rounded (pos 9_810_000 *ℤ D (even n e) j +ℤ cell u j *ℤ D (odd n u) j) (12 * (1000 * X))))
      (le_trans (rounded_less (pos 9_810_000 *ℤ D (even n e) j +ℤ cell u j *ℤ D (odd n u) j) (12 * (1000 * X)) (omega arith)) (divided_within j l))

  undamped_within : least_width ≤ X → (j : ℕ) → j < n → nat_abs (undamped n X e u j) ≤ 89_430_000_000
  unfolding undamped
  undamped_within h j l =
      rw (abs_neg (rounded (pos 9_810_000 *ℤ D (even n e) j +ℤ cell u j *ℤ D (odd n u) j) (12 * (1000 * X))))
      (rounded_most (pos 9_810_000 *ℤ D (even n e) j +ℤ cell u j *ℤ D (odd n u) j) (12 * (1000 * X)) 89_430_000_000 (omega arith) (omega (arith, divided_within j l)))

-- what damping takes away
pub drag_within : (n : ℕ) (u damping : Row) → Within most_velocity n u → Within most_damping n damping → (j : ℕ) → j < n → nat_abs (rounded (cell damping j *ℤ cell u j) 1000) ≤ 200_000_000
drag_within n u damping velocities dampings j l =
    rounded_most (cell damping j *ℤ cell u j) 1000 200_000_000 (lit≤ tt)
    (le_trans (abs≤ (mul (var (cell damping j) most_damping (dampings.at j l)) (var (cell u j) most_velocity (velocities.at j l)))) (lit≤ tt))

-- where there is none, F is what gravity and advection give
pub none_taken : (n X : ℕ) (e u damping : Row) (j : ℕ) → cell damping j ≡ pos 0 → acceleration n X e u damping j ≡ undamped n X e u j
unfolding acceleration rounded nearest
none_taken n X e u damping j h =
    ap (λ d. undamped n X e u j -ℤ rounded (d *ℤ cell u j) 1000) h
    ∙ ap (λ z. undamped n X e u j -ℤ rounded z 1000) (zero-*ℤ (cell u j))
    ∙ +ℤ_idr (undamped n X e u j)

module _ (n X : ℕ) (e u damping : Row) (heights : Within most_height n e) (velocities : Within most_velocity n u) (dampings : Within most_damping n damping) (least : 4 ≤ n) where
  -- F is at most 89,630,000,000, and never leaves its range
  pub acceleration_within : least_width ≤ X → (j : ℕ) → j < n → nat_abs (acceleration n X e u damping j) ≤ 89_630_000_000
  unfolding acceleration
  acceleration_within h j l =
      abs≤
      (sub (var (undamped n X e u j) 89_430_000_000 (undamped_within n X e u heights velocities least h j l))
      (var (rounded (cell damping j *ℤ cell u j) 1000) 200_000_000 (drag_within n u damping velocities dampings j l)))

  pub accelerations_within : least_width ≤ X → Within most_acceleration n (accelerations n X e u damping)
  unfolding accelerations
  accelerations_within h =
      record { at = λ j l. rw (tab_at n (acceleration n X e u damping) j (pos 0) l) (le_trans (acceleration_within h j l) (lit≤ tt)) }

pub length-accelerations : (n X : ℕ) (e u damping : Row) → length (accelerations n X e u damping) ≡ n
unfolding accelerations
length-accelerations n X e u damping = length_tab n (acceleration n X e u damping)
