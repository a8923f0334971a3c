-- `advance::advance` meets its contract: the corrections that are left, from the trial at hand, are those of the whole step. Assumes nothing.
use Rattle.rule.specs.Counted.{lent}
use Rattle.advance.specs.Advance.{Going}
use Rattle.advance.proofs.advance.Given as goal

abbrev pub invariant-loop-k : goal.invariant-loop-k
invariant-loop-k l = Going (lent l.c) l.s l.k l.step.trial
