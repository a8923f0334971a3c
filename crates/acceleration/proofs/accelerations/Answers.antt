-- `acceleration::accelerations` meets its contract. Assumes nothing.
use Rattle.std.proofs.Common.{w64, ◌∙◌}
use Rattle.std.proofs.lemmas.Int.{to_z-of_z}
use borrow.Author.Rules.{sfits_of}
use Rattle.whole.specs.Row.{filled_start, filled_step, zeros, fill_zeros}
use Rattle.rule.specs.Acceleration.{accelerations}
use Rattle.rows.specs.Firsts.{filled_firsts}
use Rattle.acceleration.proofs.accelerations.Goals as goal

pub loop-j-init : goal.loop-j-init
loop-j-init c = filled_start _ _

pub loop-j-preserved : goal.loop-j-preserved
loop-j-preserved c =
    filled_step c.loop-j.invariant (to_z-of_z w64 _ (sfits_of c.acceleration.type_inv) ∙ c.acceleration.ensures) c.loop-j-test.true

pub returns : goal.returns
unfolding zeros accelerations
returns c =
    filled_firsts _ c.loop-j.invariant c.requires.moving.heights.most c.loop-j.auto.j-end c.loop-j-test.false ∙ fill_zeros _ _
