-- `layout::put_offsets` meets its contract, whatever the edition: the offsets before i are written. Assumes nothing.
use Rattle.std.proofs.Common.{◌≡◌, length, take}
use Rattle.rule.specs.Layout.{offsets}
use Rattle.rule.specs.File.{head_bytes}
use Rattle.little.specs.Written.{written}
use Rattle.layout.proofs.put_offsets.Given as goal

abbrev pub invariant-loop-i : goal.invariant-loop-i
invariant-loop-i l = (length l.d ≡ length l.initial.d) × (l.d ≡ written l.initial.d l.first (head_bytes (take l.i (offsets l.edition l.n))))
