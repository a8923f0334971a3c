-- `make_v::reduced_velocities` meets its contract: the V of the cells passed are in their places and in range. Assumes nothing.
use mathlib.Core.Path.{◌≡◌, refl, sym, ◌∙◌, ap}
use mathlib.Core.Bool.{Bool}
use lib.Ieee.{Float}
use Rattle.std.specs.Prelude.{Ok}
use Rattle.whole.specs.Row.{filled_start, filled_step}
use Rattle.rule.specs.Ranges.{most_reduced}
use Rattle.rule.specs.Floats.{within_float}
use Rattle.rows.specs.All.{all_none, all_more}
use Rattle.rows.specs.Firsts.{firsts_lt, firsts_end, filled_firsts}
use Rattle.make_v.specs.Velocities.{each, refused_7, roundable, made}
use Rattle.make_v.proofs.reduced_velocities.Goals as goal

pub loop-j-init : goal.loop-j-init
loop-j-init c = let s = c.args in record { filled = filled_start _ _; in_range = all_none (within_float most_reduced) (each s.n s.x s.h.now s.u.now) }

-- the test of a cell's V
test : {b : Bool} (v w : Float) → b ≡ within_float most_reduced v → v ≡ w → b ≡ within_float most_reduced w
test v w p q = p ∙ ap (within_float most_reduced) q

pub reduced_velocity-requires : goal.reduced_velocity-requires
reduced_velocity-requires c = (c.requires, firsts_lt _ c.loop-j-test.true)

pub returns-then-not-within : goal.returns-then-not-within
returns-then-not-within c =
    let s = c.args in
    refused_7 s.n s.x s.h.now s.u.now c.loop-j.j (firsts_lt _ c.loop-j-test.true) (sym (test _ _ c.within.ensures c.reduced_velocity.ensures) ∙ c.if-not-within.true)

pub loop-j-preserved : goal.loop-j-preserved
loop-j-preserved c =
    let s = c.args in
    let w = c.loop-j.invariant in
    record {
      filled = filled_step w.filled c.reduced_velocity.ensures c.loop-j-test.true;
      in_range = all_more (within_float most_reduced) (each s.n s.x s.h.now s.u.now) c.loop-j.j w.in_range (sym (test _ _ c.within.ensures c.reduced_velocity.ensures) ∙ c.if-not-within.false);
    }

pub rounded_row-requires : goal.rounded_row-requires
rounded_row-requires c =
    let s = c.args in
    let w = c.loop-j.invariant in
    let m = c.requires.bed.most in
    roundable s.n s.x s.h.now s.u.now _ m refl (filled_firsts _ w.filled m c.loop-j.auto.j-end c.loop-j-test.false) (firsts_end _ m c.loop-j.auto.j-end c.loop-j-test.false) w.in_range

pub returns : goal.returns
returns c =
    let s = c.args in
    let w = c.loop-j.invariant in
    let m = c.requires.bed.most in
    ap (λ v. Ok v) c.rounded_row.ensures
    ∙ made s.n s.x s.h.now s.u.now _ m refl (filled_firsts _ w.filled m c.loop-j.auto.j-end c.loop-j-test.false) (firsts_end _ m c.loop-j.auto.j-end c.loop-j-test.false) w.in_range
