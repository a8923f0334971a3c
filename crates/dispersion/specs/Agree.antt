-- Flux and acceleration: of a row no more is read than the entries of the n cells. Assumes nothing.
use Rattle.std.specs.Prelude.{ℕ, ◌+◌, ◌*◌, ◌<◌, ◌≤◌, ◌≡◌, List, length, ℤ, pos, ◌+ℤ◌, ◌-ℤ◌, ◌*ℤ◌}
use Rattle.std.proofs.Common.{arith}
use Rattle.std.proofs.Math.Path.{ap}
use Rattle.std.proofs.Math.IntN.{neg_ℤ}
use Rattle.whole.specs.Row.{tab, tab_at, tab_ext, padded, padded_at}
use Rattle.rule.specs.Rounded.{rounded}
use Rattle.rule.specs.Rows.{Row, cell, weighed}
use Rattle.rule.specs.Channel.{bottom, water, product}
use Rattle.rule.specs.Flux.{plain_weights, plain_part, second_weights, second, M, Ms}
use Rattle.rule.specs.Acceleration.{slope_weights, D, undamped, acceleration, accelerations}
use Rattle.rows.specs.Mirrored.{Mirrors, seen_agree, even_mirrors, odd_mirrors}
use Rattle.rows.specs.Weighed.{weighed_same}

-- rows with the same entries for n cells
abbrev pub Agree : ℕ → Row → Row → Type 0
Agree n a b = (j : ℕ) → j < n → cell a j ≡ cell b j

pub padded_agree : (n : ℕ) (row : Row) → length row ≡ n → Agree n (padded n row) row
padded_agree n row long j h = padded_at n row long j (pos 0) h

pub bottom_agree : (n : ℕ) (h h' : Row) → Agree n h h' → bottom n h ≡ bottom n h'
unfolding bottom
bottom_agree n h h' p = tab_ext n _ _ (λ j l. ap (λ z. pos 1000 *ℤ z) (p j l))

pub water_agree : (n : ℕ) (h h' e e' : Row) → Agree n h h' → Agree n e e' → water n h e ≡ water n h' e'
unfolding water
water_agree n h h' e e' p q = tab_ext n _ _ (λ j l t. pos 1000 *ℤ p j l t +ℤ q j l t)

pub product_agree : (n : ℕ) (a a' b b' : Row) → Agree n a a' → Agree n b b' → product n a b ≡ product n a' b'
unfolding product
product_agree n a a' b b' p q = tab_ext n _ _ (λ j l t. p j l t *ℤ q j l t)

-- of a mirrored row
module _ (n : ℕ) (least : 4 ≤ n) where
  module _ (a b : Row) (p : Agree n a b) where
    weighed_agree : {seen : ℕ → Row → ℕ → ℤ} {image : ℤ → ℤ} {can_image : ℤ → Type 0} → Mirrors seen image can_image → (ws : List ℤ) (k : ℕ) → k + length ws ≤ n + 8 → weighed ws (seen n a) k ≡ weighed ws (seen n b) k
    weighed_agree {seen} laws ws k l =
        weighed_same ws (seen n a) (seen n b) k k (λ i m. seen_agree laws n a b p least (k + i) (omega arith))

    pub plain_agree : (j : ℕ) → j < n → plain_part n a j ≡ plain_part n b j
    unfolding plain_part
    plain_agree j l = ap (λ z. rounded z 12) (weighed_agree odd_mirrors plain_weights (j + 3) (omega arith))

    pub second_agree : (j : ℕ) → j < n → second n a j ≡ second n b j
    unfolding second
    second_agree j l = weighed_agree odd_mirrors second_weights (j + 3) (omega arith)

    slope_agree : {seen : ℕ → Row → ℕ → ℤ} {image : ℤ → ℤ} {can_image : ℤ → Type 0} → Mirrors seen image can_image → (j : ℕ) → j < n → D (seen n a) j ≡ D (seen n b) j
    unfolding D
    slope_agree laws j l = weighed_agree laws slope_weights (j + 2) (omega arith)

  pub Ms_agree : (X : ℕ) (H H' u u' B B' : Row) → Agree n H H' → Agree n u u' → Agree n B B' → Ms n X H u B ≡ Ms n X H' u' B'
  unfolding Ms
  Ms_agree X H H' u u' B B' p q r =
      tab_ext n _ _ (λ j l t. M (p j l t) (1000 * X) (second_agree u u' q j l t) (second_agree B B' r j l t))

  pub accelerations_agree : (X : ℕ) (e e' u u' damping : Row) → Agree n e e' → Agree n u u' → accelerations n X e u damping ≡ accelerations n X e' u' damping
  unfolding accelerations acceleration undamped
  accelerations_agree X e e' u u' damping p q =
      tab_ext n _ _ (λ j l t.
      neg_ℤ (rounded (pos 9_810_000 *ℤ slope_agree e e' p even_mirrors j l t +ℤ q j l t *ℤ slope_agree u u' q odd_mirrors j l t) (12 * (1000 * X)))
      -ℤ rounded (cell damping j *ℤ q j l t) 1000)

-- M of each cell, from the row h
pub Ms_bottom : (n X : ℕ) (h u B : Row) → Ms n X (bottom n h) u B ≡ tab n (λ j. M (pos 1000 *ℤ cell h j) (1000 * X) (second n u j) (second n B j))
unfolding Ms bottom
Ms_bottom n X h u B = tab_ext n _ _ (λ j l. ap (λ z. M z (1000 * X) (second n u j) (second n B j)) (tab_at n (λ k. pos 1000 *ℤ cell h k) j (pos 0) l))
