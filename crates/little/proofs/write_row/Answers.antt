-- `little::write_row` meets its contract. The entries before j are written. Assumes nothing.
use Rattle.std.proofs.Common.{refl, sym, arith, rules}
use Rattle.std.proofs.lemmas.Int.{to_z-of_z}
use Rattle.std.specs.Int.{w64}
use Rattle.rule.specs.Rows.{cell}
use Rattle.rule.specs.Bytes.{row_bytes}
use Rattle.little.specs.Written.{written_none}
use Rattle.little.specs.Entries.{write_more}
use Rattle.little.proofs.write_row.Goals as goal

pub loop-j-init : goal.loop-j-init
unfolding row_bytes
loop-j-init g c = (refl, sym (written_none _ _))

pub loop-j-preserved : goal.loop-j-preserved
loop-j-preserved g c =
    let z = cell c.args.row.now c.loop-j.j in
    let e = rw (c.WIDTH.ensures, to_z-of_z w64 z (search rules)) at c.put.ensures in
    (omega arith, write_more g.E.Entry.WIDTH c.args.row.now c.args.d.now c.loop-j.d _ c.args.at c.loop-j.j _ c.loop-j.invariant.1 (omega arith) (omega arith) refl e)
