-- `little::keep_row` meets its contract. The entries before j are stored. Assumes nothing.
use Rattle.std.proofs.Common.{refl, ◌∙◌, arith}
use Rattle.std.proofs.lemmas.Int.{to_z-of_z}
use Rattle.std.specs.Int.{w64}
use Rattle.std.proofs.Math.ListN.{length-set}
use Rattle.whole.specs.Row.{filled_start, filled_step, filled_end}
use Rattle.little.specs.Entries.{fill_whole}
use Rattle.little.proofs.keep_row.Goals as goal

pub loop-j-init : goal.loop-j-init
loop-j-init g c = (refl, filled_start _ _)

pub loop-j-preserved : goal.loop-j-preserved
loop-j-preserved g c =
    let v = to_z-of_z w64 _ (record { sfits = c.entry_at.type_inv }) ∙ (rw c.WIDTH.ensures at c.entry_at.ensures) in
    (simp length-set (omega arith), filled_step c.loop-j.invariant.1 v (omega arith))

pub returns : goal.returns
returns g c =
    filled_end c.loop-j.invariant.1 (omega arith) (omega arith) ∙ fill_whole g.E.Entry.WIDTH c.args.s.now c.args.at c.args.row.now
