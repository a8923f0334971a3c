-- `pace::deepest` meets its contract: `most` is the deepest of the cells passed. Assumes nothing.
use Rattle.std.proofs.Common.{◌≡◌}
use Rattle.rule.specs.Checks.{deepest}
use Rattle.pace.proofs.deepest.Given as goal

abbrev pub invariant-loop-depth : goal.invariant-loop-depth
invariant-loop-depth l = l.most ≡ deepest l.depth-index l.h
