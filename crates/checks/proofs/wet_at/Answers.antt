-- `checks::wet_at` meets its contract. Assumes nothing.
use mathlib.Core.Path.{ap}
use lib.IntN.{pos}
use lib.Signed.{le_z}
use Rattle.whole.specs.Expr.{E, var, lit, add, mul, need, rd_is}
use Rattle.rule.specs.Rows.{cell}
use Rattle.rule.specs.Ranges.{most_depth, least_water}
use Rattle.checks.proofs.wet_at.Goals as goal
use Rattle.checks.proofs.wet_at.Goals.{Start}

-- 1000h of the cell, and with e
abbrev bottom : Start → E
bottom s = mul (lit (pos 1000)) (var (cell s.args.h.now s.args.j) most_depth (s.requires.0.h_small.at s.args.j s.requires.1))

abbrev depth : Start → E
depth s = add (bottom s) (var (cell s.args.e.now s.args.j) 74_000_000_000 (s.requires.0.e_small.at s.args.j s.requires.1))

pub overflow_mul-result : goal.overflow_mul-result
overflow_mul-result c = need (bottom c.before) tt

pub overflow_add-result : goal.overflow_add-result
overflow_add-result c = need (depth c.before.before) tt

pub returns : goal.returns
returns c = ap (le_z (pos least_water)) (rd_is (depth c.before.before) tt)
