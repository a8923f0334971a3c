-- `acceleration::acceleration` meets its contract: no product and no difference wraps. Assumes nothing.
use mathlib.Core.Path.{◌∙◌, ap}
use native.Mathlib.Nat.{le_trans}
use native.Mathlib.Omega.{arith}
use lib.Dec.{lit≤}
use Rattle.whole.specs.Expr.{E, var, res, sub, mul, need, rd_is}
use Rattle.rule.specs.Rounded.{rounded}
use Rattle.rule.specs.Rows.{cell}
use Rattle.rule.specs.Acceleration.{acceleration}
use Rattle.rule.specs.Ranges.{most_velocity, most_damping}
use Rattle.dispersion.specs.Sizes.{undamped_less, drag_within}
use Rattle.dispersion.proofs.Laws.{read_small}
use Rattle.acceleration.proofs.acceleration.Goals as goal
use Rattle.acceleration.proofs.acceleration.Goals.{After-undamped, Start}

-- damping·u
abbrev product : Start → E
product s =
    let a = s.args in
    let p = s.requires.0 in
    mul (var (cell a.damping.now a.j) most_damping (p.dampings.small.at a.j s.requires.1))
    (var (cell a.u.now a.j) most_velocity (p.moving.velocities.small.at a.j s.requires.1))

-- F as it was, minus the rounded damping·u/1000
abbrev F : After-undamped → E
F c =
    let s = c.before.before.before.before in
    let a = s.args in
    let p = s.requires.0 in
    let m = p.moving in
    sub (res 10_731_600_000_000_000 c.undamped.ensures (undamped_less a.n a.x a.e.now a.u.now m.heights.small m.velocities.small (omega (arith, m.heights.least)) m.positive a.j s.requires.1))
    (res 200_000_000 (c.before.rounded-drag.ensures ∙ ap (λ z. rounded z 1000) (rd_is (product s) tt)) (drag_within a.n a.u.now a.damping.now m.velocities.small p.dampings.small a.j s.requires.1))

pub overflow_mul-damping : goal.overflow_mul-damping
overflow_mul-damping c = need (product c.before.before) tt

pub rounded-drag-requires : goal.rounded-drag-requires
rounded-drag-requires c = (le_trans (read_small (product c.before.before) tt) (lit≤ tt), (lit≤ tt, lit≤ tt))

pub overflow_sub-result : goal.overflow_sub-result
overflow_sub-result c = need (F c) tt

pub returns : goal.returns
unfolding acceleration
returns c = rd_is (F c) tt
