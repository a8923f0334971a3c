-- `coefficients::dominant` meets its contract. Assumes nothing.
use Rattle.std.specs.Prelude.{ℕ, ◌+◌, ◌≤◌, ◌≡◌, ltb, ℤ, nat_abs}
use Rattle.std.proofs.Common.{◌∙◌, ap, to_z, of_z, w64}
use Rattle.whole.specs.Expr.{back}
use Rattle.rule.specs.Coefficients.{dominant}
use Rattle.coefficients.proofs.dominant.Goals as goal

-- the size of a coefficient, as the machine reads it back, is the coefficient's size
size_is : (z : ℤ) (n : ℕ) → nat_abs z ≤ 5_000_000_000_000_000 → n ≡ nat_abs (to_z w64 (of_z w64 z)) → n ≡ nat_abs z
size_is z n h e = e ∙ ap nat_abs (back z 5_000_000_000_000_000 h tt)

pub returns : goal.returns
unfolding dominant
returns c =
    let r = c.args.r in
    (λ t. ltb
    (size_is r.a c.unsigned_abs.result c.requires.a c.unsigned_abs.ensures.value t + size_is r.c c.unsigned_abs-2.result c.requires.c c.unsigned_abs-2.ensures.value t)
    (size_is r.b c.unsigned_abs-3.result c.requires.b c.unsigned_abs-3.ensures.value t))
