-- `acceleration::accelerations` meets its contract. Assumes nothing.
use Rattle.rule.specs.Acceleration.{acceleration}
use Rattle.whole.specs.Row.{Filled}
use Rattle.acceleration.proofs.accelerations.Given as goal

abbrev pub invariant-loop-j : goal.invariant-loop-j
invariant-loop-j l = Filled (acceleration l.n l.x l.e l.u l.damping) l.initial.f-items l.j l.f-items
