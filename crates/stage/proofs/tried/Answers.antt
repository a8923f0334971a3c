-- `stage::tried` meets its contract: the ways out of the checks, in their order. Assumes nothing.
use mathlib.Core.Path.{sym, ◌∙◌}
use native.Mathlib.Omega.{arith}
use Rattle.places.specs.Met.{from_err}
use Rattle.stage.specs.Tried.{too_high, too_shallow, wet, too_fast, passes, solve_asked, unsolved, solution, flux_asked, damped_asked, unbounded, worked_out}
use Rattle.stage.proofs.tried.Goals as goal

pub returns-then-not-all_within : goal.returns-then-not-all_within
returns-then-not-all_within c =
    let a = c.args in
    too_high a.n a.x a.h.now a.e a.v a.damping.now (sym c.all_within.ensures ∙ c.if-not-all_within.true)

pub returns-in_err-deep : goal.returns-in_err-deep
returns-in_err-deep c =
    let a = c.args in
    from_err _ _ c.from_residual.ensures.1
    ∙ too_shallow a.n a.x a.h.now a.e a.v a.damping.now (sym c.all_within.ensures ∙ c.if-not-all_within.false) _ c.in_err-deep.ensures

pub returns-then-not-all_within-2 : goal.returns-then-not-all_within-2
returns-then-not-all_within-2 c =
    let a = c.args in
    too_fast a.n a.x a.h.now a.e a.v a.damping.now (sym c.all_within.ensures ∙ c.if-not-all_within.false) (wet a.n a.x a.h.now a.e a.v a.damping.now _ c.in_ok-deep.ensures) (sym c.all_within-2.ensures ∙ c.if-not-all_within-2.true)

pub solve-requires : goal.solve-requires
solve-requires c =
    let a = c.args in
    let p = passes a.n a.x a.h.now a.e a.v a.damping.now c.all_within.ensures c.if-not-all_within.false c.in_ok-deep.ensures c.all_within-2.ensures c.if-not-all_within-2.false in
    solve_asked a.n a.x a.h.now a.e a.v a.damping.now c.requires p

pub returns-in_err-u : goal.returns-in_err-u
returns-in_err-u c =
    let a = c.args in
    let p = passes a.n a.x a.h.now a.e a.v a.damping.now c.all_within.ensures c.if-not-all_within.false c.in_ok-deep.ensures c.all_within-2.ensures c.if-not-all_within-2.false in
    from_err _ _ c.from_residual-in_err-u.ensures.1 ∙ unsolved a.n a.x a.h.now a.e a.v a.damping.now p _ c.in_err-u.ensures

pub fluxes-requires : goal.fluxes-requires
fluxes-requires c =
    let a = c.args in
    let p = passes a.n a.x a.h.now a.e a.v a.damping.now c.all_within.ensures c.if-not-all_within.false c.in_ok-deep.ensures c.all_within-2.ensures c.if-not-all_within-2.false in
    let u = solution a.n a.x a.h.now a.e a.v a.damping.now p c.in_ok-u.u c.in_ok-u.ensures in
    flux_asked a.n a.x a.h.now a.e a.v a.damping.now p c.in_ok-u.u c.requires u

pub returns-in_err-q : goal.returns-in_err-q
returns-in_err-q c =
    let a = c.args in
    let p = passes a.n a.x a.h.now a.e a.v a.damping.now c.all_within.ensures c.if-not-all_within.false c.in_ok-deep.ensures c.all_within-2.ensures c.if-not-all_within-2.false in
    let u = solution a.n a.x a.h.now a.e a.v a.damping.now p c.in_ok-u.u c.in_ok-u.ensures in
    from_err _ _ c.from_residual-in_err-q.ensures.1 ∙ unbounded a.n a.x a.h.now a.e a.v a.damping.now p c.in_ok-u.u u (omega (arith, c.requires.least)) _ c.in_err-q.ensures

pub accelerations-f-requires : goal.accelerations-f-requires
accelerations-f-requires c =
    let a = c.args in
    let p = passes a.n a.x a.h.now a.e a.v a.damping.now c.all_within.ensures c.if-not-all_within.false c.in_ok-deep.ensures c.all_within-2.ensures c.if-not-all_within-2.false in
    let u = solution a.n a.x a.h.now a.e a.v a.damping.now p c.in_ok-u.u c.in_ok-u.ensures in
    damped_asked a.n a.x a.h.now a.e a.v a.damping.now p c.in_ok-u.u c.requires u

pub returns : goal.returns
returns c =
    let a = c.args in
    let p = passes a.n a.x a.h.now a.e a.v a.damping.now c.all_within.ensures c.if-not-all_within.false c.in_ok-deep.ensures c.all_within-2.ensures c.if-not-all_within-2.false in
    let u = solution a.n a.x a.h.now a.e a.v a.damping.now p c.in_ok-u.u c.in_ok-u.ensures in
    worked_out a.n a.x a.h.now a.e a.v a.damping.now p c.in_ok-u.u u (omega (arith, c.requires.least)) c.in_ok-q.q c.in_ok-q.ensures c.accelerations-f.result c.accelerations-f.ensures c.requires.e_kept c.requires.v_kept
