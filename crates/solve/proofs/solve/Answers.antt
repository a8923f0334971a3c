-- `solve::solve` meets its contract: the three ways out of the sweeps. Assumes nothing.
use mathlib.Core.Path.{◌∙◌, ap}
use Rattle.std.specs.Prelude.{Ok}
use Rattle.places.specs.Met.{from_err}
use Rattle.solve.specs.Solved.{unreduced, unanswered, answers_in, answer}
use Rattle.solve.proofs.solve.Goals as goal

pub returns-in_err-forward : goal.returns-in_err-forward
returns-in_err-forward c =
    let a = c.args in
    from_err _ _ c.from_residual.ensures.1 ∙ unreduced a.n a.x a.h.now a.v.now c.in_err-forward.ensures

pub returns-in_err-backward : goal.returns-in_err-backward
returns-in_err-backward c =
    let a = c.args in
    from_err _ _ c.from_residual-in_err-backward.ensures.1 ∙ unanswered a.n a.x a.h.now a.v.now c.in_ok-forward.ensures c.in_err-backward.ensures

pub rounded_row-requires : goal.rounded_row-requires
rounded_row-requires c =
    let a = c.args in
    answers_in a.n a.x a.h.now a.v.now c.in_ok-forward.ensures c.in_ok-backward.ensures c.requires.bed.most

pub returns : goal.returns
returns c =
    let a = c.args in
    ap (λ u. Ok u) c.rounded_row.ensures ∙ answer a.n a.x a.h.now a.v.now c.in_ok-forward.ensures c.in_ok-backward.ensures
