-- `motion::hastened` meets its contract: no sum wraps. Assumes nothing.
use Rattle.whole.specs.Row.{Filled}
use Rattle.motion.specs.Moved.{hastened_at}
use Rattle.motion.proofs.hastened.Given as goal

abbrev pub invariant-loop-j : goal.invariant-loop-j
invariant-loop-j l = Filled (hastened_at l.fn.stage l.accepted l.n l.t l.v l.trial l.levels) l.initial.row l.j l.row
