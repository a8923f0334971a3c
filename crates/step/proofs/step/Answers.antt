-- `step::step` meets its contract: what the attempt came to is answered, and stored where it was accepted. Assumes nothing.
use Rattle.std.proofs.Common.{add-one}
use Rattle.attempt.specs.Attempt.{step_refused, step_accepted}
use Rattle.step.proofs.step.Goals as goal

pub returns : goal.returns
returns c =
    let a = c.args in
    let cells = c.keep_cells.ensures in
    let levels = c.push_levels.ensures in
    rw c.accepted-answer.ensures (step_accepted c.in_default.ensures _ _ _ _ _ _ (add-one a.c.accepted) cells.0 cells.1 cells.2 levels.0 levels.1)

pub returns-in-Err : goal.returns-in-Err
returns-in-Err c = rw c.refused.ensures (step_refused c.in-Err.ensures)
