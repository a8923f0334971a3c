-- `coefficients::check` meets its contract: `lowest` is the lowest place of the rows passed. Assumes nothing.
use mathlib.Core.Path.{◌≡◌}
use Rattle.whole.specs.Row.{tab}
use Rattle.rule.specs.Rows.{lowest}
use Rattle.rule.specs.Coefficients.{coefficients, dominant}
use Rattle.places.specs.Lowest.{found}
use Rattle.coefficients.proofs.check.Given as goal

abbrev pub invariant-loop-j : goal.invariant-loop-j
invariant-loop-j l = l.lowest ≡ found (lowest dominant (tab l.j (coefficients l.n l.x l.h)))
