-- `run::run` meets its contract: a run of at most all steps is a run. Assumes nothing.
use mathlib.Core.Path.{◌∙◌}
use Rattle.rule.specs.Counted.{counted}
use Rattle.run_for.specs.Runs.{run_is}
use Rattle.run.proofs.run.Goals as goal

pub returns : goal.returns
returns c =
    let s = c.args in
    c.run_for.ensures ∙ run_is (counted s.c s.h.now s.e.now s.u.now s.v.now s.q.now s.f.now s.damping.now)
