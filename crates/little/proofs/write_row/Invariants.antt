-- `little::write_row` meets its contract. The entries before j are written. Assumes nothing.
use Rattle.std.proofs.Common.{◌≡◌, length, take}
use Rattle.rule.specs.Bytes.{row_bytes}
use Rattle.little.specs.Written.{written}
use Rattle.little.proofs.write_row.Given as goal

abbrev pub invariant-loop-j : goal.invariant-loop-j
invariant-loop-j g l = (length l.d ≡ length l.initial.d) × (l.d ≡ written l.initial.d l.at (row_bytes g.E.Entry.WIDTH (take l.j l.row)))
