-- `text::sum_of` meets its contract. The heights before this one are added. Assumes nothing.
use Rattle.std.proofs.Common.{◌≡◌, ◌≤◌, length, take}
use Rattle.rule.specs.Rows.{sum}
use Rattle.text.proofs.sum_of.Given as goal

abbrev pub invariant-loop-height : goal.invariant-loop-height
invariant-loop-height l = (l.height-index ≤ length l.row) × (l.total ≡ sum (take l.height-index l.row))
