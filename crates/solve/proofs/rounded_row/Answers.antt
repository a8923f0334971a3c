-- `solve::rounded_row` meets its contract. Assumes nothing.
use mathlib.Core.Path.{sym, ◌∙◌, ap}
use borrow.Author.Rules.{sfits_of}
use lib.ListN.{get_or}
use lib.Ieee.{nan}
use mir.Syntax.{w64}
use mir.ValLaws.{to_z-of_z}
use Rattle.whole.specs.Row.{filled_start, filled_step, zeros, fill_zeros, padded}
use Rattle.rule.specs.Rounded.{rounded_float}
use Rattle.rows.specs.All.{map_tab}
use Rattle.rows.specs.Firsts.{firsts_lt, filled_firsts}
use Rattle.solve.proofs.rounded_row.Goals as goal

pub loop-j-init : goal.loop-j-init
loop-j-init c = filled_start _ _

pub rounded_float-requires : goal.rounded_float-requires
rounded_float-requires c = c.requires.within c.loop-j.j (firsts_lt _ c.loop-j-test.true)

pub loop-j-preserved : goal.loop-j-preserved
loop-j-preserved c = filled_step c.loop-j.invariant (to_z-of_z w64 _ (sfits_of c.rounded_float.type_inv) ∙ c.rounded_float.ensures) c.loop-j-test.true

pub returns : goal.returns
unfolding zeros
returns c =
    filled_firsts _ c.loop-j.invariant c.requires.most c.loop-j.auto.j-end c.loop-j-test.false
    ∙ fill_zeros c.args.n (λ k. rounded_float (get_or c.args.answers.now k nan))
    ∙ ap (padded c.args.n) (sym (map_tab rounded_float c.args.n (λ k. get_or c.args.answers.now k nan)))
