-- `values::all_within` meets its contract: `fine` is the test of the entries passed. Assumes nothing.
use mathlib.Core.Path.{◌≡◌, sym, ◌∙◌, ap}
use native.Mathlib.Omega.{arith}
use borrow.Author.Rules.{rules}
use mir.Syntax.{w64}
use mir.ValLaws.{to_z-of_z}
use Rattle.rule.specs.Rows.{cell, all}
use Rattle.rule.specs.Ranges.{within}
use Rattle.rule.specs.Checks.{small}
use Rattle.rows.specs.All.{all_none}
use Rattle.rows.specs.Firsts.{firsts, all_and}
use Rattle.values.proofs.all_within.Goals as goal

pub loop-j-init : goal.loop-j-init
loop-j-init c = sym (all_none (within c.args.most) (cell c.args.row.now))

pub loop-j-preserved : goal.loop-j-preserved
loop-j-preserved c =
    let p = within c.args.most in
    let f = cell c.args.row.now in
    let l = c.loop-j in
    all_and p f l.j l.fine c.within-fine.result l.invariant (c.within-fine.ensures ∙ ap p (to_z-of_z w64 (f l.j) (search rules)))

pub returns : goal.returns
unfolding small
returns c =
    let e : c.loop-j.j ≡ c.args.n = omega arith in
    c.loop-j.invariant ∙ ap (λ k. all (within c.args.most) (firsts k c.args.row.now)) e
