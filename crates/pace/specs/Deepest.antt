-- Refusal numbers: the deepest of n cells is as deep as each of them, and one of them. Assumes nothing.
use Prim.Native.Nat.{ℕ, zero, suc, ◌+◌, ◌*◌, ◌≤◌, ◌<◌}
use Rattle.std.specs.Prelude.{◌≡◌, Bool, leb, Ok, Err}
use Rattle.std.specs.Ordering.{nat_cmp, ord_max}
use Rattle.std.proofs.lemmas.Bool.Decides.{nat_tests}
use Rattle.std.proofs.Math.Path.{refl, ap}
use Rattle.std.proofs.Common.{◌∙◌, mul-le-mul}
use Rattle.std.proofs.Math.Bool.{true, false}
use Rattle.std.proofs.Math.Decide.{dec_lt}
use Rattle.std.proofs.Math.Numerals.{add-one}
use native.Mathlib.Omega.{arith}
use borrow.Author.Tests.{leb-true, leb-false, le-leb, lt-leb}
use Rattle.std.proofs.Math.IntN.{nat_abs}
use Rattle.whole.specs.Row.{Within}
use Rattle.rule.specs.Rows.{Row, cell}
use Rattle.rule.specs.Ranges.{most_width, most_time, most_depth}
use Rattle.rule.specs.declared.Refusal.TheVariants.{TimeStep}
use Rattle.rule.specs.Refusals.{require, met}
use Rattle.rule.specs.Checks.{larger, deepest, timed}

-- the larger of two is as large as both, and no larger than what both are at most
pub record Larger (a b : ℕ) : Type 0 where
  pub first : a ≤ larger a b
  pub second : b ≤ larger a b
  pub most : (k : ℕ) → a ≤ k → b ≤ k → larger a b ≤ k

by_test : (a b : ℕ) (t : Bool) → leb a b ≡ t → Larger a b
unfolding larger
by_test a b true e = let l = leb-true a b e in record { first = rw e l; second = rw e (omega arith); most = λ k p q. rw e q }
by_test a b false e = let l = leb-false a b e in record { first = rw e (omega arith); second = rw e (omega (arith, l)); most = λ k p q. rw e p }

pub larger_of : (a b : ℕ) → Larger a b
larger_of a b = by_test a b (leb a b) refl

-- as the code asks
pub second_larger : (a b : ℕ) → a ≤ b → b ≡ larger a b
unfolding larger
second_larger a b l = rw (le-leb a b l)

pub first_larger : (a b : ℕ) → b < a → a ≡ larger a b
unfolding larger
first_larger a b l = rw (lt-leb a b l)

pub larger_is : (a b : ℕ) → ord_max nat_cmp a b ≡ larger a b
unfolding larger
larger_is a b = grind (arith, nat_tests)

module _ (h : Row) where
  pub deepest_none : 0 ≡ deepest 0 h
  unfolding deepest
  deepest_none = refl

  -- one cell more
  pub deepest_more : (n : ℕ) → larger (deepest n h) (nat_abs (cell h n)) ≡ deepest (n + 1) h
  unfolding deepest
  deepest_more n = rw add-one refl

  pub deepest_within : (most n : ℕ) → Within most n h → deepest n h ≤ most
  unfolding deepest
  deepest_within most zero w = omega arith
  deepest_within most (suc n) w =
      (larger_of (deepest n h) (nat_abs (cell h n))).most most (deepest_within most n (record { at = λ j l. w.at j (omega arith) })) (w.at n (omega arith))

  -- no cell is deeper
  last_or_before : (n j : ℕ) → j < suc n → Dec (j < n) → ((j < n) → nat_abs (cell h j) ≤ deepest n h) → nat_abs (cell h j) ≤ deepest (suc n) h
  unfolding deepest
  last_or_before n j l (yes p) before = omega (arith, before p, (larger_of (deepest n h) (nat_abs (cell h n))).first)
  last_or_before n j l (no p) before =
      let e : n ≡ j = omega arith in
      let k : nat_abs (cell h n) ≡ nat_abs (cell h j) = ap (λ i. nat_abs (cell h i)) e in
      omega (arith, k, (larger_of (deepest n h) (nat_abs (cell h n))).second)

  pub none_deeper : (n j : ℕ) → j < n → nat_abs (cell h j) ≤ deepest n h
  none_deeper zero j l = absurd (omega arith)
  none_deeper (suc n) j l = last_or_before n j l (dec_lt j n) (none_deeper n j)

  -- and one is as deep
  pub record Found (n : ℕ) : Type 0 where
    pub place : ℕ
    pub among : place < n
    pub is : nat_abs (cell h place) ≡ deepest n h

  by_last : (n : ℕ) (t : Bool) → leb (deepest n h) (nat_abs (cell h n)) ≡ t → (1 ≤ n → Found n) → Found (suc n)
  unfolding deepest
  by_last n true e before = record { place = n; among = omega arith; is = second_larger (deepest n h) (nat_abs (cell h n)) (leb-true _ _ e) }
  by_last zero false e before = absurd (let l = leb-false (deepest 0 h) (nat_abs (cell h 0)) e in omega (arith, l))
  by_last (suc n) false e before =
      let m = before (omega arith) in
      record { place = m.place; among = omega (arith, m.among); is = m.is ∙ first_larger (deepest (suc n) h) (nat_abs (cell h (suc n))) (leb-false _ _ e) }

  pub deepest_found : (n : ℕ) → 1 ≤ n → Found n
  deepest_found zero l = absurd (omega arith)
  deepest_found (suc n) l = by_last n (leb (deepest n h) (nat_abs (cell h n))) refl (deepest_found n)

-- T·T, the left side of 26 and X·X are far below what 64 bits hold
pub time_small : {t : ℕ} → t ≤ most_time → t * t ≤ 10_000
time_small h = mul-le-mul h h

pub left_small : (n T : ℕ) (h : Row) → Within most_depth n h → T ≤ most_time → 9_810 * deepest n h * (T * T) ≤ 1_962_000_000_000
left_small n T h w short =
    let d : 9_810 * deepest n h ≤ 196_200_000 = omega (arith, deepest_within h most_depth n w) in
    mul-le-mul d (time_small short)

pub width_small : {X : ℕ} → X ≤ most_width → X * X ≤ 25_000_000
width_small h = mul-le-mul h h

-- 26, and its passing
module _ (n X T : ℕ) (h : Row) where
  abbrev left : ℕ
  left = 9_810 * deepest n h * (T * T)

  abbrev right : ℕ
  right = 6_000_000 * (X * X)

  pub timed_26 : right < left → Err TimeStep ≡ met (timed n X T h)
  unfolding timed require met
  timed_26 l = rw (lt-leb left right l)

  pub timed_0 : left ≤ right → Ok tt ≡ met (timed n X T h)
  unfolding timed require met
  timed_0 l = rw (le-leb left right l)
