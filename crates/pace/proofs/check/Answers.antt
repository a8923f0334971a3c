-- `pace::check` meets its contract. Assumes nothing.
use Prim.Native.Nat.{◌*◌, ◌≤◌}
use mathlib.Core.Path.{sym}
use native.Mathlib.Omega.{arith}
use Rattle.rule.specs.Ranges.{most_depth}
use Rattle.pace.specs.Deepest.{deepest_within, time_small, left_small, width_small, timed_26, timed_0}
use Rattle.pace.proofs.check.Goals as goal
use Rattle.pace.proofs.check.Goals.{After-deepest}

-- the left side, of the deepest that was found
left_fits : (c : After-deepest) → 9_810 * c.deepest.result * (c.before.args.t * c.before.args.t) ≤ 1_962_000_000_000
left_fits c =
    let s = c.before in
    rw c.deepest.ensures (left_small s.args.n s.args.t s.args.h.now s.requires.depths.small s.requires.short)

pub overflow_mul-deepest : goal.overflow_mul-deepest
overflow_mul-deepest c =
    let s = c.before in
    omega (arith, c.deepest.ensures, deepest_within s.args.h.now most_depth s.args.n s.requires.depths.small)

pub overflow_mul-t : goal.overflow_mul-t
overflow_mul-t c = omega (arith, time_small c.before.requires.short)

pub overflow_mul-deepest-2 : goal.overflow_mul-deepest-2
overflow_mul-deepest-2 c = omega (arith, left_fits c)

pub overflow_mul-x : goal.overflow_mul-x
overflow_mul-x c = omega (arith, width_small c.before.requires.wide)

pub overflow_mul-x-2 : goal.overflow_mul-x-2
overflow_mul-x-2 c = omega (arith, width_small c.before.requires.wide)

pub returns-then-deepest-t : goal.returns-then-deepest-t
returns-then-deepest-t c =
    let d = c.before in
    let a = d.before.args in
    timed_26 a.n a.x a.t a.h.now (rw (sym d.deepest.ensures) c.if-deepest-t.true)

pub returns : goal.returns
returns c =
    let d = c.before in
    let a = d.before.args in
    timed_0 a.n a.x a.t a.h.now (rw (sym d.deepest.ensures) c.if-deepest-t.false)
