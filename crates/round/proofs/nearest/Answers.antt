-- `round::nearest` meets its contract: q or q + 1, by one test. Assumes nothing.
use Rattle.std.proofs.Common.{◌/◌, ◌%◌, ◌<◌, ◌≤◌, sym, mod-lt, div-le_self, arith}
use Rattle.round.specs.Quotients.{nearest_up, nearest_down}
use Rattle.round.proofs.nearest.Goals as goal
use Rattle.round.proofs.nearest.Goals.{Start}

-- what is left is below d, and q at most n
rest : (c : Start) → c.args.n % c.args.d < c.args.d
rest c = mod-lt c.args.n c.requires.1.0

part : (c : Start) → c.args.n / c.args.d ≤ c.args.n
part c = div-le_self c.args.n c.args.d

pub overflow_mul-n : goal.overflow_mul-n
overflow_mul-n c = record { fits = omega (arith, rest c) }

pub overflow_add-n : goal.overflow_add-n
overflow_add-n c = record { fits = omega (arith, rest c) }

pub overflow_add-result : goal.overflow_add-result
overflow_add-result c = record { fits = omega (arith, part c.before) }

pub returns-then-n-d : goal.returns-then-n-d
returns-then-n-d c = let s = c.before in omega (arith, nearest_up s.args.n s.args.d c.if-n-d.true)

pub returns-else-n-d : goal.returns-else-n-d
returns-else-n-d c = let s = c.before in sym (nearest_down s.args.n s.args.d c.if-n-d.false)
