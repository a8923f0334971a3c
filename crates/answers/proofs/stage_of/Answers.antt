-- `answers::stage_of` meets its contract, arm by arm. Assumes nothing.
use mathlib.Core.Path.{sym}
use native.Mathlib.Omega.{arith}
use Rattle.answers.specs.Stages.{stage_met, stage_last, stage_low, stage_high}
use Rattle.answers.proofs.stage_of.Goals as goal

pub returns-in-10 : goal.returns-in-10
returns-in-10 c = stage_last c.args.number c.args.k c.in-10.is

pub returns-in-4-to-9 : goal.returns-in-4-to-9
returns-in-4-to-9 c = sym (stage_met c.args.number c.args.k (omega arith) (omega arith))

pub returns-in_default : goal.returns-in_default
returns-in_default c = stage_low c.args.number c.args.k (omega arith)

pub returns-in_default-2 : goal.returns-in_default-2
returns-in_default-2 c = stage_high c.args.number c.args.k (omega arith)
