-- `solve::row` meets its contract. Assumes nothing.
use mathlib.Core.Path.{◌∙◌}
use native.Mathlib.Omega.{arith}
use Rattle.whole.specs.Expr.{back}
use Rattle.rule.specs.Rows.{cell}
use Rattle.rule.specs.Solve.{equation}
use Rattle.rule.specs.Ranges.{most_reduced}
use Rattle.coefficients.specs.Rows.{scale_small, sized}
use Rattle.coefficients.proofs.Laws.{read_small}
use Rattle.solve.proofs.row.Goals as goal

pub equation-requires : goal.equation-requires
equation-requires c =
    let s = c.args in (
      omega (arith, c.scale.ensures, scale_small c.requires.0.bed.wide),
      rw c.coefficients.ensures (sized s.n s.x s.h.now s.j c.requires.0.bed c.requires.1),
      read_small (cell s.v.now s.j) most_reduced (c.requires.0.v_small.at s.j c.requires.1) tt,
    )

pub returns : goal.returns
returns c =
    let s = c.args in
    c.equation.ensures
    ∙ (λ t. equation (c.scale.ensures t) (c.coefficients.ensures t) (back (cell s.v.now s.j) most_reduced (c.requires.0.v_small.at s.j c.requires.1) tt t))
