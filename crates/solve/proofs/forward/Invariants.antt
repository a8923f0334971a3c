-- `solve::forward` meets its contract: at each turn the rows before j in their places, and the last of them. Assumes nothing.
use Rattle.rule.specs.Solve.{equations, forward}
use Rattle.solve.specs.Sweeps.{Swept}
use Rattle.solve.proofs.forward.Given as goal

abbrev pub invariant-loop-j : goal.invariant-loop-j
invariant-loop-j l = Swept (forward (equations l.n l.x l.h l.v)) l.j l.ratios l.sides l.ratio_before l.side_before
