-- `gauge_rows::first_failing` meets its contract: `place` is the lowest of the places passed. Assumes nothing.
use Rattle.std.proofs.Common.{◌≡◌, ◌∙◌, ap, arith}
use Rattle.whole.specs.Row.{tab}
use Rattle.rule.specs.Rows.{lowest}
use Rattle.places.specs.Lowest.{found, lower_place, found_before, found_more}
use Rattle.gauge.specs.State.{gauge_at, gauges_in}
use Rattle.gauge_rows.proofs.first_failing.Goals as goal

pub loop-k-init : goal.loop-k-init
loop-k-init g c = found_before (g.T.Test.passes c.args.test.now) (gauge_at c.args.row.now)

pub loop-k-preserved : goal.loop-k-preserved
loop-k-preserved g c =
    let p = g.T.Test.passes c.args.test.now in
    let told = c.passes.ensures ∙ ap p c.gauge_at.ensures in
    c.lower-place.ensures ∙ (λ i. lower_place (c.loop-k.invariant i) (told i) c.loop-k.k) ∙ found_more p (gauge_at c.args.row.now) c.loop-k.k

pub returns : goal.returns
unfolding gauges_in
returns g c =
    let p = g.T.Test.passes c.args.test.now in
    let e : c.loop-k.k ≡ 8 = omega arith in
    c.loop-k.invariant ∙ ap (λ n. found (lowest p (tab n (gauge_at c.args.row.now)))) e
