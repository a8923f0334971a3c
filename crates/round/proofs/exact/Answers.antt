-- `round::exact` meets its contract. Assumes nothing.
use Rattle.whole.specs.Expr.{back}
use Rattle.round.proofs.Machine.{in_float_lem}
use Rattle.round.proofs.exact.Goals as goal

pub int_to_float-result : goal.int_to_float-result
int_to_float-result c = rw (back c.before.args.n 9_007_199_254_740_992 c.before.requires tt) (in_float_lem c.before.args.n c.before.requires)
