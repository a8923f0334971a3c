-- `equation::equation` meets its contract: each whole number is small enough to be a float. Assumes nothing.
use Rattle.std.specs.Prelude.{ℕ}
use Rattle.std.proofs.Common.{◌∙◌, ap, arith, w64}
use Rattle.std.proofs.lemmas.Int.{to_z_pos}
use Rattle.rule.specs.Floats.{whole, ◌⊗◌}
use Rattle.rule.specs.Solve.{equation}
use Rattle.rule.specs.Ranges.{most_reduced}
use Rattle.equation.proofs.Laws.{float_is}
use Rattle.equation.proofs.equation.Goals as goal

abbrev most : ℕ
most = 5_000_000_000_000_000

pub returns : goal.returns
unfolding equation
returns c =
    let r = c.args.r in
    let a = float_is _ r.a most c.requires.1.a tt c.exact.ensures in
    let b = float_is _ r.b most c.requires.1.b tt c.exact-2.ensures in
    let c' = float_is _ r.c most c.requires.1.c tt c.exact-3.ensures in
    let w = c.exact-4.ensures ∙ ap whole (to_z_pos w64 c.args.w (omega (arith, c.requires.0))) in
    let v = float_is _ c.args.v most_reduced c.requires.2 tt c.exact-5.ensures in
    (λ t. record { a = a t; b = b t; c = c' t; d = w t ⊗ v t })
