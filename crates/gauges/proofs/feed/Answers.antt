-- `gauges::feed` meets its contract. Assumes nothing.
use Rattle.std.proofs.Common.{◌∙◌, ap, rules}
use Rattle.rule.specs.Counted.{counted}
use Rattle.answers.specs.Stages.{leaves_bytes}
use Rattle.places.specs.Met.{met_refused, met_number}
use Rattle.checks.specs.Numbers.{number_not_0}
use Rattle.gauges.specs.Ways.{feeds_heights, feeds_depths, feed_refused, feed_on}
use Rattle.gauges.proofs.feed.Goals as goal

pub returns-in-Err : goal.returns-in-Err
returns-in-Err c =
    let a = c.args in
    let channel = counted a.c a.h.now a.e.now a.u.now a.v.now a.q.now a.f.now a.damping.now in
    ap (λ r. leaves_bytes r a.gauges.now) c.refused.ensures
    ∙ feed_refused channel a.gauges.now _ (met_refused _ _ c.in-Err.ensures) (number_not_0 c.in-Err.why)

-- of the depths too, so that what is fed is for the contract to say
pub feed-requires : goal.feed-requires
feed-requires c =
    let a = c.args in
    let channel = counted a.c a.h.now a.e.now a.u.now a.v.now a.q.now a.f.now a.damping.now in
    let passed = met_number _ _ c.in_default.ensures in
    search (rules, feeds_heights channel passed, feeds_depths channel passed)

pub returns : goal.returns
returns c =
    let a = c.args in
    let channel = counted a.c a.h.now a.e.now a.u.now a.v.now a.q.now a.f.now a.damping.now in
    c.feed.ensures ∙ feed_on channel (met_number _ _ c.in_default.ensures) a.gauges.now
