-- `store::renew` meets its contract. The entries before j are stored. Assumes nothing.
use Rattle.whole.specs.Row.{Filled}
use Rattle.rule.specs.Rows.{cell}
use Rattle.store.proofs.renew.Given as goal

abbrev pub invariant-loop-j : goal.invariant-loop-j
invariant-loop-j l = Filled (cell l.newest) l.initial.levels l.j l.levels
