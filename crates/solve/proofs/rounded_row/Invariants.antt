-- `solve::rounded_row` meets its contract. Assumes nothing.
use lib.ListN.{get_or}
use lib.Ieee.{nan}
use Rattle.whole.specs.Row.{Filled}
use Rattle.rule.specs.Rounded.{rounded_float}
use Rattle.solve.proofs.rounded_row.Given as goal

abbrev pub invariant-loop-j : goal.invariant-loop-j
invariant-loop-j l = Filled (λ k. rounded_float (get_or l.answers k nan)) l.initial.u-items l.j l.u-items
