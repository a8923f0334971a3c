-- `little::keep_row` meets its contract. The entries before j are stored. Assumes nothing.
use Rattle.std.proofs.Common.{◌≡◌, length}
use Rattle.whole.specs.Row.{Filled}
use Rattle.little.specs.Entries.{entry}
use Rattle.little.proofs.keep_row.Given as goal

abbrev pub invariant-loop-j : goal.invariant-loop-j
invariant-loop-j g l = (length l.row ≡ length l.initial.row) × Filled (entry g.E.Entry.WIDTH l.s l.at) l.initial.row l.j l.row
