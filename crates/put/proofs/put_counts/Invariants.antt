-- `put::put_counts` meets its contract: the counts before i are written. Assumes nothing.
use Rattle.std.proofs.Common.{◌≡◌, length, take}
use Rattle.rule.specs.File.{head_bytes}
use Rattle.little.specs.Written.{written}
use Rattle.put.proofs.put_counts.Given as goal

abbrev pub invariant-loop-i : goal.invariant-loop-i
invariant-loop-i l = (length l.d ≡ length l.initial.d) × (l.d ≡ written l.initial.d 0 (head_bytes (take l.i l.counts)))
