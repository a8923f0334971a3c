-- `checks::lowest_dry` meets its contract: `lowest` is the lowest of the cells passed. Assumes nothing.
use mathlib.Core.Path.{◌≡◌, sym, ◌∙◌, ap}
use native.Mathlib.Omega.{arith}
use lib.IntN.{pos}
use lib.Signed.{le_z}
use Rattle.whole.specs.Row.{tab}
use Rattle.rule.specs.Rows.{lowest}
use Rattle.rule.specs.Ranges.{least_water}
use Rattle.rule.specs.Channel.{water}
use Rattle.places.specs.Lowest.{found, lower_place, found_before, found_more, found_none}
use Rattle.checks.specs.Facts.{depth_at}
use Rattle.checks.proofs.lowest_dry.Goals as goal

pub returns-then-all_deep : goal.returns-then-all_deep
returns-then-all_deep c = found_none (le_z (pos least_water)) (water c.args.n c.args.h.now c.args.e.now) (sym c.all_deep.ensures ∙ c.if-all_deep.true)

pub loop-j-init : goal.loop-j-init
loop-j-init c = found_before (le_z (pos least_water)) (depth_at c.args.h.now c.args.e.now)

pub loop-j-preserved : goal.loop-j-preserved
loop-j-preserved c = c.lower-lowest.ensures ∙ (λ i. lower_place (c.loop-j.invariant i) (c.wet_at.ensures i) c.loop-j.j) ∙ found_more (le_z (pos least_water)) (depth_at c.args.h.now c.args.e.now) c.loop-j.j

pub returns : goal.returns
unfolding water
returns c =
    let e : c.loop-j.j ≡ c.args.n = omega arith in
    c.loop-j.invariant ∙ ap (λ k. found (lowest (le_z (pos least_water)) (tab k (depth_at c.args.h.now c.args.e.now)))) e
