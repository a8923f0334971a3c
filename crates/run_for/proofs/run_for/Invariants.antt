-- `run_for::run_for` meets its contract: what is left of the run, from the rows at hand, is the whole run. Assumes nothing.
use Rattle.std.proofs.Common.{◌-◌}
use Rattle.rule.specs.Counted.{counted}
use Rattle.run_for.specs.Runs.{Running}
use Rattle.run_for.proofs.run_for.Given as goal

abbrev pub invariant-loop-count : goal.invariant-loop-count
invariant-loop-count l =
    Running l.most (counted l.c l.h l.initial.e l.initial.u l.initial.v l.initial.q l.initial.f l.damping) l.accepted l.e l.u l.v l.q l.f l.count (l.steps - l.count)
