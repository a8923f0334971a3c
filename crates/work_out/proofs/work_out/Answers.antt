-- `work_out::work_out` meets its contract: its ways out are the rule's. Assumes nothing.
use mathlib.Core.Path.{◌∙◌}
use Rattle.places.specs.Met.{from_err}
use Rattle.work_out.specs.Made.{given, damped, ready, makeable, stops_checked, stops_7, stops_9, all_kept}
use Rattle.work_out.proofs.work_out.Goals as goal

pub returns-in_err-check_made : goal.returns-in_err-check_made
returns-in_err-check_made c =
    let a = c.args in
    from_err _ _ c.from_residual.ensures.1 ∙ stops_checked a.c.n a.c.x a.c.t a.c.wanted a.h.now a.e.now a.u.now a.damping.now _ c.in_err-check_made.ensures

pub reduced_velocities-requires : goal.reduced_velocities-requires
reduced_velocities-requires c =
    let a = c.args in
    given a.c.n a.c.x a.c.t a.c.wanted a.h.now a.e.now a.u.now a.damping.now (makeable _ _ _ _ _ _ _ _ c.in_ok-check_made.ensures)

-- V is refused
pub returns-in_err-v : goal.returns-in_err-v
returns-in_err-v c =
    let a = c.args in
    from_err _ _ c.from_residual-in_err-v.ensures.1 ∙ stops_7 a.c.n a.c.x a.c.t a.c.wanted a.h.now a.e.now a.u.now a.damping.now c.in_ok-check_made.ensures _ c.in_err-v.ensures

pub fluxes-requires : goal.fluxes-requires
fluxes-requires c =
    let a = c.args in
    ready a.c.n a.c.x a.c.t a.c.wanted a.h.now a.e.now a.u.now a.damping.now (makeable _ _ _ _ _ _ _ _ c.in_ok-check_made.ensures)

-- Q is refused, past V
pub returns-in_err-q : goal.returns-in_err-q
returns-in_err-q c =
    let a = c.args in
    from_err _ _ c.from_residual-in_err-q.ensures.1
    ∙ stops_9 a.c.n a.c.x a.c.t a.c.wanted a.h.now a.e.now a.u.now a.damping.now c.in_ok-check_made.ensures _ _ c.in_ok-v.ensures c.in_err-q.ensures

pub accelerations-f-requires : goal.accelerations-f-requires
accelerations-f-requires c =
    let a = c.args in
    damped a.c.n a.c.x a.c.t a.c.wanted a.h.now a.e.now a.u.now a.damping.now (makeable _ _ _ _ _ _ _ _ c.in_ok-check_made.ensures)

-- past V and Q
pub returns : goal.returns
returns c =
    let a = c.args in
    all_kept a.c.n a.c.x a.c.t a.c.wanted a.h.now a.e.now a.u.now a.damping.now _ _ _ c.in_ok-check_made.ensures c.in_ok-v.ensures c.in_ok-q.ensures c.accelerations-f.ensures
