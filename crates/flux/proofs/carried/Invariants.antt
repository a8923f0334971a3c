-- `flux::carried` meets its contract. Assumes nothing.
use lib.IntN.{pos, ◌+ℤ◌, ◌*ℤ◌}
use Rattle.whole.specs.Row.{Filled}
use Rattle.rule.specs.Rows.{cell}
use Rattle.flux.proofs.carried.Given as goal

abbrev pub invariant-loop-j : goal.invariant-loop-j
invariant-loop-j l = Filled (λ k. (pos 1000 *ℤ cell l.h k +ℤ cell l.e k) *ℤ cell l.u k) l.initial.p-items l.j l.p-items
