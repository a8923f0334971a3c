-- `values::lowest_beyond` meets its contract: `place` is the lowest of the entries passed. Assumes nothing.
use mathlib.Core.Path.{◌≡◌, refl, ◌∙◌, ap, sym}
use native.Mathlib.Omega.{arith}
use borrow.Author.Rules.{rules}
use lib.ListN.{length}
use mathlib.Core.Bool.{Bool}
use lib.IntN.{ℤ}
use Rattle.std.proofs.Common.{SFits}
use Rattle.rule.specs.Rows.{all}
use mir.Syntax.{w64}
use mir.Val.{to_z, of_z}
use mir.ValLaws.{to_z-of_z}
use Rattle.rule.specs.Rows.{cell, lowest}
use Rattle.rows.specs.Firsts.{firsts, firsts_all}
use Rattle.places.specs.Lowest.{found, found_before, found_more, found_none, lower_place}
use Rattle.values.specs.Between.{between}
use Rattle.values.proofs.lowest_beyond.Goals as goal

-- the test, as the machine has its bounds, is the test
same_test : (least most : ℤ) → SFits w64 least → SFits w64 most → between (to_z w64 (of_z w64 least)) (to_z w64 (of_z w64 most)) ≡ between least most
same_test least most f g = (λ i. between (to_z-of_z w64 least f i) (to_z-of_z w64 most g i))

pub returns-then-all_between : goal.returns-then-all_between
returns-then-all_between c =
    let same = same_test c.args.least c.args.most c.ranges.least c.ranges.most in
    found_none (between c.args.least c.args.most) c.args.row.now (ap (λ (p : ℤ → Bool). all p c.args.row.now) (sym same) ∙ sym c.if-all_between.ensures)

pub loop-j-init : goal.loop-j-init
loop-j-init c = found_before _ (cell c.args.row.now)

pub loop-j-preserved : goal.loop-j-preserved
loop-j-preserved c =
    let p = between (to_z w64 (of_z w64 c.args.least)) (to_z w64 (of_z w64 c.args.most)) in
    let f = cell c.args.row.now in
    let l = c.loop-j in
    let passes = c.between.ensures ∙ ap p (to_z-of_z w64 (f l.j) (search rules)) in
    c.lower-place.ensures ∙ (λ i. lower_place (l.invariant i) (passes i) l.j) ∙ found_more p f l.j

pub returns : goal.returns
returns c =
    let row = c.args.row.now in
    let same = same_test c.args.least c.args.most c.ranges.least c.ranges.most in
    let e : c.loop-j.j ≡ length row = omega arith in
    c.loop-j.invariant
    ∙ (λ i. found (lowest (same i) (firsts (e i) row)))
    ∙ ap (λ l. found (lowest (between c.args.least c.args.most) l)) (firsts_all (length row) row refl)
