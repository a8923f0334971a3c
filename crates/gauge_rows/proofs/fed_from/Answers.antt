-- `gauge_rows::fed_from` meets its contract. Assumes nothing.
use Prim.Native.Nat.{ℕ, ◌-◌}
use mathlib.Core.Bool.{true}
use mathlib.Core.Path.{◌≡◌, sym, ◌∙◌, ap, subst}
use native.Mathlib.Omega.{arith}
use borrow.Author.Rules.{rules}
use lib.Dec.{T}
use lib.IntN.{ℤ, pos, nat_abs}
use lib.ListN.{length}
use lib.Signed.{non_neg}
use mir.Syntax.{w64}
use mir.Val.{Fits, to_z, of_z}
use Rattle.whole.specs.Expr.{back}
use Rattle.rule.specs.Rows.{cell}
use Rattle.gauge.specs.declared.Gauge.{Gauge}
use Rattle.gauge.specs.Gauge.{right, grown}
use Rattle.gauge_rows.specs.Bounds.{Stands, stands, right_small, fed_empty, fed_gauge}
use Rattle.gauge_rows.proofs.fed_from.Goals as goal

-- the cell of a gauge that stands there, as the machine reads it back
cell_is : (n : ℕ) (g : Gauge) → right g ≡ true → Stands n g → to_z w64 (of_z w64 g.cell) ≡ pos (nat_abs g.cell)
cell_is n g t s = back g.cell 256 (right_small g t).cell tt ∙ s.is

pub returns-then-is_empty : goal.returns-then-is_empty
returns-then-is_empty c = sym (fed_empty c.args.e.now c.args.g (sym c.is_empty.ensures ∙ c.if-is_empty.true))

pub overflow_cast-g : goal.overflow_cast-g
overflow_cast-g c =
    let g = c.args.g in
    let n = length c.args.e.now in
    let r = c.requires.0 in
    let t = stands n g (sym c.is_empty.ensures ∙ c.if-is_empty.false) r c.requires.1.0 in
    subst (λ (v : ℤ). T (non_neg v) × Fits w64 (nat_abs v)) (sym (cell_is n g r t)) (tt, record { fits = omega (arith, (right_small g r).cell) })

pub overflow_sub-g : goal.overflow_sub-g
overflow_sub-g c =
    let g = c.args.g in
    let n = length c.args.e.now in
    let t = stands n g (sym c.is_empty.ensures ∙ c.if-is_empty.false) c.requires.0 c.requires.1.0 in
    omega (arith, ap nat_abs (cell_is n g c.requires.0 t), t.least)

pub offset_bounds-e-g : goal.offset_bounds-e-g
offset_bounds-e-g c =
    let g = c.args.g in
    let n = length c.args.e.now in
    let t = stands n g (sym c.is_empty.ensures ∙ c.if-is_empty.false) c.requires.0 c.requires.1.0 in
    record { fits = omega (arith, ap nat_abs (cell_is n g c.requires.0 t), (right_small g c.requires.0).cell) }

pub bounds-e-g : goal.bounds-e-g
bounds-e-g c =
    let g = c.args.g in
    let n = length c.args.e.now in
    let t = stands n g (sym c.is_empty.ensures ∙ c.if-is_empty.false) c.requires.0 c.requires.1.0 in
    omega (arith, ap nat_abs (cell_is n g c.requires.0 t), t.least, t.most)

pub grown-requires : goal.grown-requires
grown-requires c =
    let g = c.args.g in
    let e = c.args.e.now in
    let n = length e in
    let t = stands n g (sym c.is_empty.ensures ∙ c.if-is_empty.false) c.requires.0 c.requires.1.0 in
    let at = nat_abs (to_z w64 (of_z w64 g.cell)) - 1 in
    let height : to_z w64 (of_z w64 (cell e at)) ≡ cell e at = search rules in
    let height_is = height ∙ ap (λ (z : ℤ). cell e (nat_abs z - 1)) (cell_is n g c.requires.0 t) in
    (right_small g c.requires.0, rw height_is (c.requires.1.1.at (nat_abs g.cell - 1) (omega (arith, t.least, t.most))))

pub returns : goal.returns
returns c =
    let g = c.args.g in
    let e = c.args.e.now in
    let n = length e in
    let not_empty = sym c.is_empty.ensures ∙ c.if-is_empty.false in
    let t = stands n g not_empty c.requires.0 c.requires.1.0 in
    let at = nat_abs (to_z w64 (of_z w64 g.cell)) - 1 in
    let height : to_z w64 (of_z w64 (cell e at)) ≡ cell e at = search rules in
    let height_is = height ∙ ap (λ (z : ℤ). cell e (nat_abs z - 1)) (cell_is n g c.requires.0 t) in
    c.grown.ensures
    ∙ ap (grown g) height_is
    ∙ sym (fed_gauge e g not_empty)
