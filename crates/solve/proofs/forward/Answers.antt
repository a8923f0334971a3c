-- `solve::forward` meets its contract: at each turn the rows before j in their places, and the last of them. Assumes nothing.
use Prim.Native.Nat.{ℕ}
use mathlib.Core.Path.{sym, ◌∙◌, ap}
use native.Mathlib.Omega.{arith}
use Rattle.rule.specs.declared.Equation.{Equation}
use Rattle.rule.specs.declared.Reduced.TheVariants.{Kept}
use Rattle.rule.specs.Rows.{Row, cell}
use Rattle.rule.specs.Coefficients.{scale, coefficients}
use Rattle.rule.specs.Solve.{equation, equations, eliminate}
use Rattle.solve.specs.Sweeps.{swept_first, swept_next, swept_stops, swept_ends}
use Rattle.solve.proofs.forward.Goals as goal

-- the row of cell j
abbrev rows : (n x : ℕ) (h v : Row) → ℕ → Equation
rows n x h v j = equation (scale x) (coefficients n x h j) (cell v j)

pub loop-j-init : goal.loop-j-init
unfolding equations
loop-j-init c =
    let s = c.args in
    swept_first s.n (rows s.n s.x s.h.now s.v.now) s.ratios.now s.sides.now c.row-first.result (omega arith) c.requires.1.0 c.requires.1.1 c.row-first.ensures

pub returns-in_default : goal.returns-in_default
unfolding equations
returns-in_default c =
    let s = c.args in
    swept_stops s.n (rows s.n s.x s.h.now s.v.now) c.loop-j.invariant c.loop-j.auto.j c.loop-j-test.true (sym c.in_default.is ∙ c.eliminate.ensures ∙ ap (λ r. eliminate r (Kept c.loop-j.ratio_before c.loop-j.side_before)) c.row-next.ensures)

pub loop-j-preserved : goal.loop-j-preserved
unfolding equations
loop-j-preserved c =
    let s = c.args in
    swept_next s.n (rows s.n s.x s.h.now s.v.now) c.loop-j.invariant c.loop-j.auto.j _ _ c.loop-j-test.true c.requires.0.bed.most (sym c.in-Kept.is ∙ c.eliminate.ensures ∙ ap (λ r. eliminate r (Kept c.loop-j.ratio_before c.loop-j.side_before)) c.row-next.ensures)

pub returns : goal.returns
unfolding equations
returns c =
    let s = c.args in
    swept_ends s.n (rows s.n s.x s.h.now s.v.now) c.loop-j.invariant c.loop-j.auto.j c.loop-j-test.false
