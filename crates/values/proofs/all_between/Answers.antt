-- `values::all_between` meets its contract: `fine` is the test of the entries passed. Assumes nothing.
use mathlib.Core.Path.{◌≡◌, refl, sym, ◌∙◌, ap}
use native.Mathlib.Omega.{arith}
use borrow.Author.Rules.{rules}
use lib.ListN.{length}
use mir.Syntax.{w64}
use mir.Val.{to_z, of_z}
use mir.ValLaws.{to_z-of_z}
use Rattle.rule.specs.Rows.{cell, all}
use Rattle.rows.specs.All.{all_none}
use Rattle.rows.specs.Firsts.{firsts, firsts_all, all_and}
use Rattle.values.specs.Between.{between}
use Rattle.values.proofs.all_between.Goals as goal

pub loop-x-init : goal.loop-x-init
loop-x-init c = sym (all_none _ (cell c.args.row.now))

pub loop-x-preserved : goal.loop-x-preserved
loop-x-preserved c =
    let p = between (to_z w64 (of_z w64 c.args.least)) (to_z w64 (of_z w64 c.args.most)) in
    let f = cell c.args.row.now in
    let l = c.loop-x in
    all_and p f l.x-index l.fine c.between-fine.result l.invariant (c.between-fine.ensures ∙ ap p (to_z-of_z w64 (f l.x-index) (search rules)))

pub returns : goal.returns
returns c =
    let row = c.args.row.now in
    let p = between c.args.least c.args.most in
    let least = to_z-of_z w64 c.args.least c.ranges.least in
    let most = to_z-of_z w64 c.args.most c.ranges.most in
    let e : c.loop-x.x-index ≡ length row = omega arith in
    c.loop-x.invariant ∙ (λ i. all (between (least i) (most i)) (firsts (e i) row)) ∙ ap (all p) (firsts_all (length row) row refl)
