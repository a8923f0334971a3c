-- `coefficients::beside` meets its contract. Assumes nothing.
use Rattle.std.specs.Prelude.{ℤ, pos, nat_abs, ◌≤◌}
use Rattle.whole.specs.Expr.{E, var, lit, sub, mul, need, rd_is}
use Rattle.rule.specs.Coefficients.{beside}
use Rattle.rule.specs.Ranges.{most_depth}
use Rattle.coefficients.proofs.beside.Goals as goal

abbrev product : (h k : ℤ) → nat_abs h ≤ most_depth → nat_abs k ≤ most_depth → E
product h k p q =
    let own = var h most_depth p in
    mul own (sub (mul (lit (pos 1_409_805)) own) (mul (lit (pos 5_310_000)) (var k most_depth q)))

pub overflow_mul-result-3 : goal.overflow_mul-result-3
overflow_mul-result-3 c = need (product c.args.h c.args.k c.requires.0 c.requires.1) tt

pub returns : goal.returns
unfolding beside
returns c = rd_is (product c.args.h c.args.k c.requires.0 c.requires.1) tt
