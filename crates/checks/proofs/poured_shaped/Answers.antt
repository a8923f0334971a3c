-- `checks::poured_shaped` meets its contract. Assumes nothing.
use mathlib.Core.Path.{sym}
use lib.Dec.{eqb}
use lib.ListN.{length}
use Rattle.rule.specs.Rows.{all}
use Rattle.rule.specs.Checks.{long}
use Rattle.checks.specs.Tests.{and_true}
use Rattle.checks.proofs.poured_shaped.Goals as goal

pub returns-in-Some : goal.returns-in-Some
unfolding long all
returns-in-Some c = rw c.in-Some.is (sym (and_true (eqb (length c.in-Some.s.now) c.args.n)))

pub returns-in-None : goal.returns-in-None
unfolding long all
returns-in-None c = rw c.in-None.is
