-- `motion::raised` meets its contract: what a cell gains over its right face the next loses over its left one, and no sum wraps.
-- Assumes nothing.
use Rattle.std.proofs.Common.{◌≡◌}
use Rattle.whole.specs.Row.{Filled}
use Rattle.rule.specs.Rows.{cell}
use Rattle.motion.specs.Moved.{Ws, raised_at}
use Rattle.motion.proofs.raised.Given as goal

abbrev pub invariant-loop-j : goal.invariant-loop-j
invariant-loop-j l =
    Filled (raised_at l.fn.stage l.accepted l.n l.x l.t l.e l.s l.trial l.levels) l.initial.row l.j l.row
    × (l.left ≡ cell (Ws l.fn.stage l.accepted l.n l.x l.t l.e l.s l.trial l.levels) l.j)
