-- `make_v::term` meets its contract. Assumes nothing.
use mathlib.Core.Path.{◌∙◌}
use borrow.Author.Rules.{rules}
use Rattle.rule.specs.Rows.{cell}
use Rattle.rule.specs.Floats.{whole, ◌⊗◌}
use Rattle.make_v.proofs.Laws.{read_back}
use Rattle.make_v.proofs.term.Goals as goal

pub returns : goal.returns
returns c =
    let p = c.to_float.ensures ∙ read_back whole c.args.k c.ranges.k.sfits in
    let q = c.to_float-2.ensures ∙ read_back whole (cell c.args.u.now c.args.j) (search rules) in
    (λ t. p t ⊗ q t)
