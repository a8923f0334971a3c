-- `make_v::reduced_velocity` meets its contract: the first cell, the last, and those between. Assumes nothing.
use Prim.Native.Nat.{ℕ, ◌+◌, ◌-◌, ◌<◌, ◌≤◌}
use mathlib.Core.Path.{◌≡◌, ◌∙◌, ap}
use native.Mathlib.Omega.{arith}
use lib.IntN.{ℤ, pos, nat_abs}
use lib.Ieee.{Float}
use mir.Syntax.{w64}
use mir.Val.{to_z, of_z}
use mir.ValLaws.{to_z_pos}
use Rattle.rule.specs.declared.Coefficients.{Coefficients}
use Rattle.rule.specs.Rows.{Row, cell}
use Rattle.rule.specs.Floats.{whole, ◌⊕◌, ◌⊗◌, ◌⊘◌}
use Rattle.rule.specs.Coefficients.{scale, coefficients}
use Rattle.rule.specs.Ranges.{most_width}
use Rattle.rule.specs.Make.{reduced_velocity}
use Rattle.coefficients.specs.Rows.{scale_small, sized}
use Rattle.coefficients.specs.Ready.{Bed, Sized}
use Rattle.whole.specs.Expr.{back}
use Rattle.make_v.specs.Velocities.{at_first, at_last, between}
use Rattle.make_v.proofs.reduced_velocity.Goals as goal

-- the coefficients that were worked out are small
small : {n X : ℕ} {h : Row} {j : ℕ} {r : Coefficients} → Bed n X h → j < n → r ≡ coefficients n X h j → Sized r
small {n} {X} {h} {j} {r} b l e = rw e (sized n X h j b l)

-- a term, of its coefficient itself
term_is : (k : ℤ) (u : Row) (i : ℕ) (y : Float) → nat_abs k ≤ 5_000_000_000_000_000 → y ≡ whole (to_z w64 (of_z w64 k)) ⊗ whole (cell u i) → y ≡ whole k ⊗ whole (cell u i)
term_is k u i y h e = e ∙ ap (λ z. whole z ⊗ whole (cell u i)) (back k 5_000_000_000_000_000 h tt)

w_is : (x m : ℕ) (y : Float) → x ≤ most_width → m ≡ scale x → y ≡ whole (to_z w64 m) → y ≡ whole (pos (scale x))
w_is x m y h e d = d ∙ ap whole (to_z_pos w64 m (omega (arith, e, scale_small h))) ∙ ap (λ k. whole (pos k)) e

-- with the coefficients of the rule
ruled : (n x : ℕ) (h u : Row) (j : ℕ) (r : Coefficients) (y : Float) → r ≡ coefficients n x h j → y ≡ reduced_velocity n (scale x) r u j → y ≡ reduced_velocity n (scale x) (coefficients n x h j) u j
ruled n x h u j r y d e = e ∙ ap (λ k. reduced_velocity n (scale x) k u j) d

pub overflow_cast-scale : goal.overflow_cast-scale
overflow_cast-scale c = record { sfits = omega (arith, c.scale.ensures, scale_small c.requires.0.bed.wide) }

pub returns-then-j-eq0 : goal.returns-then-j-eq0
returns-then-j-eq0 c =
    let s = c.args in
    let r = c.coefficients-r.result in
    let z = small c.requires.0.bed c.requires.1 c.coefficients-r.ensures in
    let w = w_is s.x _ _ c.requires.0.bed.wide c.scale.ensures c.to_float-w.ensures in
    let middle = term_is r.b s.u.now s.j _ z.b c.term-middle.ensures in
    let right = term_is r.c s.u.now (s.j + 1) _ z.c c.term.ensures in
    ruled s.n s.x s.h.now s.u.now s.j r _ c.coefficients-r.ensures
    ((λ t. (middle t ⊕ right t) ⊘ w t) ∙ at_first s.n (scale s.x) r s.u.now s.j c.if-j-eq0.true)

pub returns-then-j-n : goal.returns-then-j-n
returns-then-j-n c =
    let s = c.args in
    let r = c.coefficients-r.result in
    let z = small c.requires.0.bed c.requires.1 c.coefficients-r.ensures in
    let w = w_is s.x _ _ c.requires.0.bed.wide c.scale.ensures c.to_float-w.ensures in
    let middle = term_is r.b s.u.now s.j _ z.b c.term-middle.ensures in
    let left = term_is r.a s.u.now (s.j - 1) _ z.a c.term-left.ensures in
    ruled s.n s.x s.h.now s.u.now s.j r _ c.coefficients-r.ensures
    ((λ t. (left t ⊕ middle t) ⊘ w t) ∙ at_last s.n (scale s.x) r s.u.now s.j (omega arith) c.if-j-n.true)

pub returns : goal.returns
returns c =
    let s = c.args in
    let r = c.coefficients-r.result in
    let z = small c.requires.0.bed c.requires.1 c.coefficients-r.ensures in
    let w = w_is s.x _ _ c.requires.0.bed.wide c.scale.ensures c.to_float-w.ensures in
    let middle = term_is r.b s.u.now s.j _ z.b c.term-middle.ensures in
    let left = term_is r.a s.u.now (s.j - 1) _ z.a c.term-left.ensures in
    let right = term_is r.c s.u.now (s.j + 1) _ z.c c.term-2.ensures in
    ruled s.n s.x s.h.now s.u.now s.j r _ c.coefficients-r.ensures
    ((λ t. ((left t ⊕ middle t) ⊕ right t) ⊘ w t) ∙ between s.n (scale s.x) r s.u.now s.j c.if-j-eq0.false c.if-j-n.false)
