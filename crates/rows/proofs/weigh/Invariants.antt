-- `rows::weigh` meets its contract. The sum so far is that of the weights passed. Assumes nothing.
use Rattle.std.proofs.Common.{◌≡◌, take}
use Rattle.rule.specs.Rows.{weighed}
use Rattle.rows.proofs.weigh.Given as goal

abbrev pub invariant-loop-i : goal.invariant-loop-i
invariant-loop-i g l = l.sum ≡ weighed (take l.i l.table) (g.P.Parity.seen l.n l.row) l.k
