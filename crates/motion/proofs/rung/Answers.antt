-- `motion::rung` meets its contract. Assumes nothing.
use Rattle.std.proofs.Common.{arith}
use Rattle.std.proofs.lemmas.Bool.Decides.{nat_tests}
use Rattle.rule.specs.Step as rule
use Rattle.motion.proofs.rung.Goals as goal

pub returns-clause-value : goal.returns-clause-value
unfolding rule.rung
returns-clause-value c = grind (arith, nat_tests)
