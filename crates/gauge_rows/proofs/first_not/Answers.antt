-- `gauge_rows::first_not` meets its contract: `place` is the lowest of the places passed. Assumes nothing.
use Rattle.std.proofs.Common.{◌≡◌, ◌∙◌, ap, subst, arith}
use Rattle.whole.specs.Row.{tab}
use Rattle.rule.specs.Rows.{lowest}
use Rattle.places.specs.Lowest.{found, lower_place, found_before, found_more}
use Rattle.gauge.specs.declared.Gauge.{Gauge}
use Rattle.gauge.specs.State.{gauge_at, gauges_in}
use Rattle.gauge_rows.proofs.first_not.Goals as goal

pub loop-k-init : goal.loop-k-init
loop-k-init g c = λ p t. found_before p (gauge_at c.args.row.now)

pub loop-k-preserved : goal.loop-k-preserved
loop-k-preserved g c = λ p t.
    let row = c.args.row.now in
    let k = c.loop-k.k in
    let asked : c.gauge_at.result ≡ gauge_at row k = c.gauge_at.ensures ∙ ap (gauge_at row) (omega arith) in
    let answered = subst (λ (x : Gauge). g.F.Fn.post c.args.passes (x, tt) c.passes.result) {y = gauge_at row k} asked c.passes.ensures in
    let told = t k c.passes.result (omega arith) answered in
    c.lower-place.ensures
    ∙ ap (lower_place c.loop-k.place c.passes.result) (omega arith)
    ∙ (λ i. lower_place (c.loop-k.invariant p t i) (told i) k)
    ∙ found_more p (gauge_at row) k

pub returns : goal.returns
unfolding gauges_in
returns g c = λ p t.
    let e : c.loop-k.k ≡ 8 = omega arith in
    c.loop-k.invariant p t ∙ ap (λ n. found (lowest p (tab n (gauge_at c.args.row.now)))) e
