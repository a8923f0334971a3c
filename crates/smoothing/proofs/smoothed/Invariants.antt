-- `smoothing::smoothed` meets its contract: what a cell gains over its right face the next loses over its left one, and no sum
-- wraps. Assumes nothing.
use Rattle.std.proofs.Common.{◌≡◌}
use Rattle.whole.specs.Row.{Filled}
use Rattle.rule.specs.Rows.{cell}
use Rattle.motion.specs.Moved.{Gs, smoothed_at}
use Rattle.smoothing.proofs.smoothed.Given as goal

abbrev pub invariant-loop-j : goal.invariant-loop-j
invariant-loop-j l =
    Filled (smoothed_at l.n l.e) l.initial.height-items l.j l.height-items × (l.left ≡ cell (Gs l.n l.e) l.j)
