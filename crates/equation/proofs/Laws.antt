-- From V to u: the floats of a row, and the elimination's two ends. Assumes nothing.
use Prim.Native.Nat.{ℕ, ◌≤◌, ◌^◌}
use mathlib.Core.Path.{◌≡◌, refl, ◌∙◌, ap}
use mathlib.Core.Bool.{true, false}
use lib.Dec.{T, ltb}
use lib.IntN.{ℤ, pos, nat_abs}
use mir.Syntax.{w64}
use mir.Val.{to_z, of_z}
use Rattle.whole.specs.Expr.{back}
use lib.Ieee.{Float, of_bits, of_int, binary64, lt}
use Rattle.rule.specs.declared.Equation.{Equation}
use Rattle.rule.specs.declared.Reduced.TheVariants.{Kept, NoPivot}
use Rattle.rule.specs.Floats.{whole, ◌⊖◌, ◌⊗◌, ◌⊘◌}
use Rattle.rule.specs.Solve.{eliminate}

zero_is : of_bits binary64 0 ≡ of_int binary64 (pos 0)
unfolding of_bits of_int
zero_is = refl

pub kept_is : (r : Equation) (q s : Float) → lt (of_bits binary64 0) (r.b ⊖ r.a ⊗ q) ≡ true → Kept (r.c ⊘ (r.b ⊖ r.a ⊗ q)) ((r.d ⊖ r.a ⊗ s) ⊘ (r.b ⊖ r.a ⊗ q)) ≡ eliminate r (Kept q s)
unfolding eliminate
kept_is r q s h = rw (← zero_is, h)

pub no_pivot_is : (r : Equation) (q s : Float) → lt (of_bits binary64 0) (r.b ⊖ r.a ⊗ q) ≡ false → NoPivot ≡ eliminate r (Kept q s)
unfolding eliminate
no_pivot_is r q s h = rw (← zero_is, h)

-- what `exact` gave, of the number itself
pub float_is : (y : Float) (z : ℤ) (k : ℕ) → nat_abs z ≤ k → T (ltb k (2 ^ 63)) → y ≡ whole (to_z w64 (of_z w64 z)) → y ≡ whole z
float_is y z k h t e = e ∙ ap whole (back z k h t)
