-- `checks::all_deep` meets its contract: `fine` is the test of the cells passed. Assumes nothing.
use mathlib.Core.Path.{◌≡◌, sym, ◌∙◌, ap}
use native.Mathlib.Omega.{arith}
use lib.IntN.{pos}
use lib.Signed.{le_z}
use Rattle.whole.specs.Row.{tab}
use Rattle.rule.specs.Rows.{all}
use Rattle.rule.specs.Ranges.{least_water}
use Rattle.rule.specs.Channel.{water}
use Rattle.rows.specs.All.{all_none}
use Rattle.rows.specs.Firsts.{all_and}
use Rattle.checks.specs.Facts.{depth_at}
use Rattle.checks.proofs.all_deep.Goals as goal

pub loop-j-init : goal.loop-j-init
loop-j-init c = sym (all_none (le_z (pos least_water)) (depth_at c.args.h.now c.args.e.now))

pub loop-j-preserved : goal.loop-j-preserved
loop-j-preserved c = all_and (le_z (pos least_water)) (depth_at c.args.h.now c.args.e.now) c.loop-j.j c.loop-j.fine c.wet_at-fine.result c.loop-j.invariant c.wet_at-fine.ensures

pub returns : goal.returns
unfolding water
returns c =
    let e : c.loop-j.j ≡ c.args.n = omega arith in
    c.loop-j.invariant ∙ ap (λ k. all (le_z (pos least_water)) (tab k (depth_at c.args.h.now c.args.e.now))) e
