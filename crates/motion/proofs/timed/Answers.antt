-- `motion::timed` meets its contract: T·(weighted entries) is at most 4.4·10 ^ 18 in size. Assumes nothing.
use mathlib.Core.Path.{refl}
use lib.IntN.{pos}
use Rattle.whole.specs.Expr.{E, loc, res, mul, need, rd_is}
use Rattle.motion.specs.Weights.{weighed_small}
use Rattle.motion.proofs.timed.Goals as goal
use Rattle.motion.proofs.timed.Goals.{After-weighted}

abbrev all : After-weighted → E
all c =
    let s = c.before in
    mul (loc s.args.t (pos s.args.t) 100 refl s.requires.1.1.1)
    (res 44_000_000_000_000_000 c.weighted.ensures (weighed_small 1_000_000_000_000_000 s.args.m s.args.trial.now s.args.levels.now s.requires.0 s.args.j s.requires.1.0 s.args.table.now s.requires.1.1.0))

pub overflow_mul-result : goal.overflow_mul-result
overflow_mul-result c = need (all c) tt

pub returns : goal.returns
returns c = rd_is (all c) tt
