-- `layout::offsets_right` meets its contract, whatever the edition: the offsets before i are tested. Assumes nothing.
use Rattle.std.proofs.Common.{◌≡◌, take}
use Rattle.rule.specs.Rows.{same}
use Rattle.rule.specs.Layout.{offsets}
use Rattle.rule.specs.File.{counts_at}
use Rattle.layout.proofs.offsets_right.Given as goal

abbrev pub invariant-loop-i : goal.invariant-loop-i
invariant-loop-i l = l.fine ≡ same (counts_at l.i l.s l.first) (take l.i (offsets l.edition l.n))
