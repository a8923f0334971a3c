-- `layout::place` meets its contract: the bytes before a row, in numbers. Assumes nothing.
use Prim.Native.Nat.{◌*◌, ◌≤◌}
use native.Mathlib.Nat.{mul-le-mul}
use native.Mathlib.Omega.{arith}
use borrow.Author.Rules.{rules}
use Rattle.rule.specs.Layout.{head_length}
use Rattle.layout.specs.Places.{before_5, before_6, before_7, before_cells}
use Rattle.layout.proofs.place.Goals as goal
use Rattle.layout.proofs.place.Goals.{In_default}

-- the bytes before one of the first rows are few
few : (c : In_default) → (let a = c.args in 4 * a.i * a.n ≤ 28 * 256)
few c =
    let i : 4 * c.args.i ≤ 28 = omega (arith, c.rows_in.ensures, c.requires) in
    mul-le-mul i c.requires.1.1

pub overflow_mul-result-in_default-2 : goal.overflow_mul-result-in_default-2
overflow_mul-result-in_default-2 c = let f = few c in search rules

pub overflow_add-result-in_default : goal.overflow_add-result-in_default
overflow_add-result-in_default c = let f = few c in search rules

pub returns-in-5 : goal.returns-in-5
unfolding head_length
returns-in-5 c =
    let b = before_5 c.args.edition c.args.n c.requires.1.0 c.args.i c.in-5.is c.requires.0 in
    omega (arith, c.rows_in.ensures, c.counts_in.ensures, b, c.requires)

pub returns-in-6 : goal.returns-in-6
unfolding head_length
returns-in-6 c =
    let b = before_6 c.args.edition c.args.n c.requires.1.0 c.args.i c.in-6.is c.requires.0 in
    omega (arith, c.rows_in.ensures, c.counts_in.ensures, b, c.requires)

pub returns-in-7 : goal.returns-in-7
unfolding head_length
returns-in-7 c =
    let b = before_7 c.args.edition c.args.n c.requires.1.0 c.args.i c.in-7.is c.requires.0 in
    omega (arith, c.rows_in.ensures, c.counts_in.ensures, b, c.requires)

pub returns-in_default : goal.returns-in_default
unfolding head_length
returns-in_default c =
    let b = before_cells c.args.edition c.args.n c.requires.1.0 c.args.i (λ e. omega arith) (λ e. omega arith) (λ e. omega arith) c.requires.0 in
    omega (arith, c.rows_in.ensures, c.counts_in.ensures, b, c.requires)
