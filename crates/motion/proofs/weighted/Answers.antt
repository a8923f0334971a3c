-- `motion::weighted` meets its contract: the trial level's part and the stored levels'. Assumes nothing.
use mathlib.Core.Path.{◌∙◌}
use Rattle.whole.specs.Expr.{E, var, res, add, mul, need, rd_is}
use Rattle.rule.specs.Rows.{cell}
use Rattle.motion.specs.Weights.{asked, first_weight, older_within, parted}
use Rattle.motion.proofs.weighted.Goals as goal
use Rattle.motion.proofs.weighted.Goals.{After-levels_at, Start}

-- the trial level's part, and the stored levels'
abbrev newest : Start → E
newest s =
    mul (var (cell s.args.table.now 0) 44 (first_weight s.args.table.now s.requires.1.1))
    (var (cell s.args.trial.now s.args.j) 1_000_000_000_000_000 (s.requires.0.trial_small.at s.args.j s.requires.1.0))

abbrev all : After-levels_at → E
all c =
    let s = c.before.before.before.before in
    add (newest s)
    (res 44_000_000_000_000_000 c.levels_at.ensures (older_within 1_000_000_000_000_000 s.args.m s.args.trial.now s.args.levels.now s.requires.0 s.args.j s.requires.1.0 s.args.table.now s.requires.1.1))

pub overflow_mul-result : goal.overflow_mul-result
overflow_mul-result c = need (newest c.before.before) tt

pub levels_at-requires : goal.levels_at-requires
levels_at-requires c = let s = c.before.before.before in asked s.args.table.now s.requires.1.1 s.requires.0 s.requires.1.0

pub overflow_add-result : goal.overflow_add-result
overflow_add-result c = need (all c) tt

pub returns : goal.returns
returns c =
    let s = c.before.before.before.before in
    rd_is (all c) tt
    ∙ parted 1_000_000_000_000_000 s.args.m s.args.trial.now s.args.levels.now s.requires.0 s.args.j s.requires.1.0 s.args.table.now s.requires.1.1
