-- `flux::faces` meets its contract: the faces passed are in range, and their Q in its place. Assumes nothing.
use Prim.Native.Nat.{ℕ, ◌-◌, ◌<◌, ◌≤◌}
use mathlib.Core.Path.{◌≡◌, sym, ◌∙◌, ap, subst}
use mathlib.Core.Bool.{Bool, true}
use native.Mathlib.Omega.{arith}
use lib.Dec.{T, lit≤}
use lib.IntN.{ℤ, nat_abs}
use lib.Ieee.{Float}
use Rattle.std.specs.Prelude.{Ok}
use mathlib.Core.List.{List}
use Rattle.whole.specs.Expr.{E, res, add, need, rd_is}
use Rattle.whole.specs.Row.{filled_start, filled_step, zeros, fill_zeros}
use Rattle.rule.specs.Rounded.{rounded_float}
use Rattle.rule.specs.Ranges.{most_flux}
use Rattle.rule.specs.Floats.{within_float}
use Rattle.rule.specs.Rows.{Row}
use Rattle.rule.specs.Flux.{plain_part, dispersive_part}
use Rattle.round.specs.Sizes.{rounded_within}
use Rattle.dispersion.specs.Asked.{Cells}
use Rattle.flux.specs.Faces.{face_flux, passed_none, passed_more, part_outside, sum_outside, passed_all}
use Rattle.rows.specs.Firsts.{firsts_lt, firsts_end, filled_firsts}
use Rattle.dispersion.specs.Sizes.{plain_within}
use Rattle.flux.proofs.faces.Goals as goal

-- the test of the dispersive part
tested : (ms : List Float) (j : ℕ) {b : Bool} {part : Float} → b ≡ within_float most_flux part → part ≡ dispersive_part ms j → b ≡ within_float most_flux (dispersive_part ms j)
tested ms j w e = w ∙ ap (within_float most_flux) e

-- Q of the face, of its two parts
module _ (n : ℕ) (p : Row) (ms : List Float) (j : ℕ) (cells : Cells 1_000_000_000_000_000 n p) (l : j < n - 1) (inside : within_float most_flux (dispersive_part ms j) ≡ true) where
  abbrev Q : {y z : ℤ} {part : Float} → y ≡ plain_part n p j → z ≡ rounded_float part → part ≡ dispersive_part ms j → E
  Q {y} {z} {part} a b d =
      add (res 2_000_000_000_000_000 a (plain_within n p cells.small (omega (arith, cells.least)) j (omega arith)))
      (res most_flux (b ∙ ap rounded_float d) (rounded_within most_flux (dispersive_part ms j) (lit≤ tt) inside))

pub loop-j-init : goal.loop-j-init
loop-j-init c = let s = c.args in record { filled = filled_start _ _; passed = passed_none s.n s.p.now s.ms.now }

pub returns-then-not-within : goal.returns-then-not-within
returns-then-not-within c =
    let s = c.args in
    part_outside s.n s.p.now s.ms.now (firsts_lt _ c.loop-j-test.true) (sym (tested s.ms.now c.loop-j.j c.within.ensures c.dispersive_part-part.ensures) ∙ c.if-not-within.true)

pub rounded_float-requires : goal.rounded_float-requires
rounded_float-requires c = subst T (sym (sym c.within.ensures ∙ c.if-not-within.false)) tt

pub overflow_add-flux : goal.overflow_add-flux
overflow_add-flux c =
    let s = c.args in
    let inside = sym (tested s.ms.now c.loop-j.j c.within.ensures c.dispersive_part-part.ensures) ∙ c.if-not-within.false in
    need (Q s.n s.p.now s.ms.now c.loop-j.j c.requires.0 (firsts_lt _ c.loop-j-test.true) inside c.plain_part.ensures c.rounded_float.ensures c.dispersive_part-part.ensures) tt

pub returns-then-unsigned_abs-gt-MOST_FLUX : goal.returns-then-unsigned_abs-gt-MOST_FLUX
unfolding face_flux
returns-then-unsigned_abs-gt-MOST_FLUX c =
    let s = c.args in
    let inside = sym (tested s.ms.now c.loop-j.j c.within.ensures c.dispersive_part-part.ensures) ∙ c.if-not-within.false in
    let q = rd_is (Q s.n s.p.now s.ms.now c.loop-j.j c.requires.0 (firsts_lt _ c.loop-j-test.true) inside c.plain_part.ensures c.rounded_float.ensures c.dispersive_part-part.ensures) tt in
    sum_outside s.n s.p.now s.ms.now (firsts_lt _ c.loop-j-test.true) (c.unsigned_abs.ensures.value ∙ ap nat_abs q) c.if-unsigned_abs-gt-MOST_FLUX.true

pub loop-j-preserved : goal.loop-j-preserved
unfolding face_flux
loop-j-preserved c =
    let s = c.args in
    let w = c.loop-j.invariant in
    let inside = sym (tested s.ms.now c.loop-j.j c.within.ensures c.dispersive_part-part.ensures) ∙ c.if-not-within.false in
    let q = rd_is (Q s.n s.p.now s.ms.now c.loop-j.j c.requires.0 (firsts_lt _ c.loop-j-test.true) inside c.plain_part.ensures c.rounded_float.ensures c.dispersive_part-part.ensures) tt in
    record { filled = filled_step w.filled q c.loop-j-test.true; passed = passed_more s.n s.p.now s.ms.now w.passed inside (c.unsigned_abs.ensures.value ∙ ap nat_abs q) c.if-unsigned_abs-gt-MOST_FLUX.false }

pub returns : goal.returns
unfolding zeros
returns c =
    let s = c.args in
    let w = c.loop-j.invariant in
    let m : s.n - 1 ≤ 256 = omega (arith, c.requires.0.most) in
    ap (λ q. Ok q) (filled_firsts _ w.filled m c.loop-j.auto.j-end c.loop-j-test.false ∙ fill_zeros _ _)
    ∙ passed_all s.n s.p.now s.ms.now w.passed (firsts_end _ m c.loop-j.auto.j-end c.loop-j-test.false)
