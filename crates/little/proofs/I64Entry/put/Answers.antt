-- `little::I64Entry::put` meets its contract. Assumes nothing.
use Rattle.std.proofs.Common.{◌∙◌}
use Rattle.std.proofs.lemmas.Int.{to_z-of_z}
use Rattle.std.specs.Int.{w64}
use Rattle.little.specs.Numbers.{length-bytes}
use Rattle.little.specs.Written.{written_part}
use Rattle.little.specs.Machine.{put_eight}
use Rattle.little.proofs.I64Entry.put.Goals as goal

pub returns : goal.returns
returns c =
    let z = c.args.z in
    let e = put_eight z (to_z-of_z w64 z c.ranges.z) in
    written_part c.args.d.now c.args.at 8 (c.copy_from_slice.ensures.after ∙ c.to_le_bytes.ensures ∙ e) (length-bytes 8 _)
