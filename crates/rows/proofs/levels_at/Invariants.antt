-- `rows::levels_at` meets its contract. The sum so far is that of the weights passed. Assumes nothing.
use Rattle.std.proofs.Common.{◌≡◌, take}
use Rattle.rule.specs.Channel.{level}
use Rattle.rule.specs.Rows.{weighed}
use Rattle.rows.proofs.levels_at.Given as goal

abbrev pub invariant-loop-i : goal.invariant-loop-i
invariant-loop-i l = l.sum ≡ weighed (take l.i l.table) (level l.m l.levels l.j) 0
