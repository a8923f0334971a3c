-- The channel and its numbers: a range from `least` to `most`, as the search for a place tests it. Assumes nothing.
use Rattle.std.specs.Prelude.{ℕ, zero, suc, ◌≡◌, Bool, ◌&&◌, leb, ℤ, pos, negsuc, ◌-ℤ◌}
use Rattle.std.proofs.Math.Path.{refl}
use Rattle.std.proofs.Common.{sym, ◌∙◌, arith, le-leb}
use Rattle.std.proofs.Math.Bool.{cond}
use mathlib.Core.List.{List, [], ◌∷◌}
use Rattle.std.proofs.Math.Dec.{leb-suc-zero, leb-suc-suc}
use Rattle.std.proofs.Math.IntN.{+ℤ_idl}
use Rattle.std.specs.Int.Signed.{le_z}
use Rattle.whole.specs.Tests.{and_true}
use Rattle.rule.specs.Rows.{Row, lowest_after, lowest}
use Rattle.rule.specs.Ranges.{within, depth_allowed, most_depth, damping_allowed, most_damping}

abbrev pub between : ℤ → ℤ → ℤ → Bool
between least most x = le_z least x && le_z x most

-- from -most to most
pub within_is : (x : ℤ) (most : ℕ) → between (pos 0 -ℤ pos most) (pos most) x ≡ within most x
unfolding within
within_is (pos n) zero = rw (le-leb 0 n (omega arith))
within_is (pos n) (suc most) = rw (+ℤ_idl (negsuc most))
within_is (negsuc n) zero = sym (leb-suc-zero n)
within_is (negsuc n) (suc most) = rw (+ℤ_idl (negsuc most)) (and_true (leb n most) ∙ sym (leb-suc-suc n most))

-- two tests that agree have the same lowest place
module _ {A : Type 0} (p q : A → Bool) (h : (x : A) → p x ≡ q x) where
  same_after : (k : ℕ) (l : List A) → lowest_after k p l ≡ lowest_after k q l
  unfolding lowest_after
  same_after k [] = refl
  same_after k (x ∷ l) = (λ i. cond (h x i) (same_after (suc k) l i) (suc k))

  pub same_lowest : (l : List A) → lowest p l ≡ lowest q l
  unfolding lowest
  same_lowest l = same_after 0 l

pub lowest_within : (most : ℕ) (row : Row) → lowest (between (pos 0 -ℤ pos most) (pos most)) row ≡ lowest (within most) row
lowest_within most row = same_lowest _ _ (λ x. within_is x most) row

pub lowest_depths : (h : Row) → lowest (between (pos 1) (pos most_depth)) h ≡ lowest depth_allowed h
unfolding depth_allowed
lowest_depths h = refl

pub lowest_dampings : (damping : Row) → lowest (between (pos 0) (pos most_damping)) damping ≡ lowest damping_allowed damping
unfolding damping_allowed
lowest_dampings damping = refl
