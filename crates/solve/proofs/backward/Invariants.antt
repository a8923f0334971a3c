-- `solve::backward` meets its contract: at each turn the u of row j, stored with those after it. Assumes nothing.
use Rattle.rule.specs.Solve.{backward}
use Rattle.solve.specs.Sweeps.{kept_rows, Backed}
use Rattle.solve.proofs.backward.Given as goal

abbrev pub invariant-loop-j : goal.invariant-loop-j
invariant-loop-j l = Backed (backward (kept_rows l.n l.ratios l.sides)) l.n l.j l.u l.answers
