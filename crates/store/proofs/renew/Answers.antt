-- `store::renew` meets its contract. The entries before j are stored. Assumes nothing.
use Rattle.std.proofs.Common.{rules, ◌∙◌, arith}
use mir.ValLaws.{to_z-of_z}
use mir.Syntax.{w64}
use Rattle.whole.specs.Row.{filled_start, filled_step, filled_end}
use Rattle.store.specs.Levels.{stored}
use Rattle.store.proofs.renew.Goals as goal

pub loop-j-init : goal.loop-j-init
loop-j-init c = filled_start _ _

pub loop-j-preserved : goal.loop-j-preserved
loop-j-preserved c = filled_step c.loop-j.invariant (to_z-of_z w64 _ (search rules)) (omega (arith, c.requires.1))

pub returns : goal.returns
returns c = filled_end c.loop-j.invariant (omega arith) (omega arith) ∙ stored c.args.m c.args.newest.now c.args.levels.now
