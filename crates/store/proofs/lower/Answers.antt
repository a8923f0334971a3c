-- `store::lower` meets its contract. The entries from j on have moved. Assumes nothing.
use Rattle.std.proofs.Common.{arith}
use Rattle.store.specs.Levels.{lowered_end}
use Rattle.store.proofs.lower.Goals as goal

pub returns : goal.returns
returns c = lowered_end c.requires.1 c.loop-j.invariant.0 (omega arith) c.loop-j.invariant.2
