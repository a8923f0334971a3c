-- `little::count_at` meets its contract. Assumes nothing.
use Rattle.std.proofs.Common.{arith}
use Rattle.little.specs.Machine.{count_four}
use Rattle.little.proofs.count_at.Goals as goal

pub returns : goal.returns
returns c = omega (arith, count_four c.args.s.now c.args.at c.bytes_at.ensures c.requires)
