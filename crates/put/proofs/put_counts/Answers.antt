-- `put::put_counts` meets its contract: the counts before i are written. Assumes nothing.
use Rattle.std.proofs.Common.{refl, sym, arith}
use Rattle.rule.specs.File.{head_bytes}
use Rattle.little.specs.Written.{written_none}
use Rattle.layout.specs.Counts.{written_firsts}
use Rattle.put.proofs.put_counts.Goals as goal

pub loop-i-init : goal.loop-i-init
unfolding head_bytes
loop-i-init c = (refl, sym (written_none _ _))

pub loop-i-preserved : goal.loop-i-preserved
loop-i-preserved c =
    let l = c.loop-i in
    let more = written_firsts c.args.counts.now c.args.d.now l.d _ 0 l.i _ _ l.invariant.1 in
    (omega arith, more (omega arith) (omega arith) (omega arith) refl c.put_count.ensures)
