-- `pace::deepest` meets its contract: `most` is the deepest of the cells passed. Assumes nothing.
use Rattle.std.specs.Prelude.{◌≡◌, nat_abs}
use Rattle.std.proofs.Common.{◌∙◌, ap, arith, get_or-take, length-take-le, pos}
use Rattle.whole.specs.Expr.{E, res, rd_is}
use Rattle.rule.specs.Ranges.{most_depth}
use Rattle.rule.specs.Checks.{larger, deepest}
use Rattle.pace.specs.Deepest.{deepest_none, deepest_more, larger_is}
use Rattle.pace.proofs.deepest.Goals as goal
use Rattle.pace.proofs.deepest.Goals.{After-max-most}

-- the depth of the cell
abbrev depth : After-max-most → E
depth c =
    let h = c.args.h.now in
    let j = c.loop-depth.depth-index in
    let z = length-take-le c.args.n h c.requires.long in
    res most_depth (get_or-take c.args.n h j (pos 0) (omega (arith, z))) (c.requires.small.at j (omega (arith, z)))

pub loop-depth-init : goal.loop-depth-init
loop-depth-init c = deepest_none c.args.h.now

pub loop-depth-preserved : goal.loop-depth-preserved
loop-depth-preserved c =
    c.max-most.ensures
    ∙ larger_is c.loop-depth.most c.unsigned_abs.result
    ∙ (λ t. larger (c.loop-depth.invariant t) ((c.unsigned_abs.ensures.value ∙ ap nat_abs (rd_is (depth c) tt)) t))
    ∙ deepest_more c.args.h.now c.loop-depth.depth-index

pub returns : goal.returns
returns c =
    let e : c.loop-depth.depth-index ≡ c.args.n = omega (arith, length-take-le c.args.n c.args.h.now c.requires.long) in
    c.loop-depth.invariant ∙ ap (λ k. deepest k c.args.h.now) e
