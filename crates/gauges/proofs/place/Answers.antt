-- `gauges::place` meets its contract. Assumes nothing.
use Rattle.std.proofs.Common.{◌∙◌, ap, arith}
use Rattle.rule.specs.Counted.{counted}
use Rattle.answers.specs.Stages.{leaves_bytes}
use Rattle.places.specs.Met.{met_refused, met_number}
use Rattle.checks.specs.Numbers.{number_not_0}
use Rattle.gauges.specs.Ways.{place_refused, cells_most, place_on}
use Rattle.gauges.proofs.place.Goals as goal

pub returns-in-Err : goal.returns-in-Err
returns-in-Err c =
    let a = c.args in
    let channel = counted a.c a.h.now a.e.now a.u.now a.v.now a.q.now a.f.now a.damping.now in
    ap (λ r. leaves_bytes r a.gauges.now) c.refused.ensures
    ∙ place_refused channel a.gauges.now _ (met_refused _ _ c.in-Err.ensures) (number_not_0 c.in-Err.why) a.cell

pub place-requires : goal.place-requires
place-requires c =
    let a = c.args in
    let channel = counted a.c a.h.now a.e.now a.u.now a.v.now a.q.now a.f.now a.damping.now in
    let few = cells_most channel (met_number _ _ c.in_default.ensures) in
    omega (arith, few)

pub returns : goal.returns
returns c =
    let a = c.args in
    let channel = counted a.c a.h.now a.e.now a.u.now a.v.now a.q.now a.f.now a.damping.now in
    c.place.ensures ∙ place_on channel (met_number _ _ c.in_default.ensures) a.cell a.gauges.now
