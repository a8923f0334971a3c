-- `little::I32Entry::put` meets its contract. Assumes nothing.
use Rattle.std.proofs.Common.{ℤ, SFits, to_z, of_z, ap, ◌∙◌, arith}
use Rattle.std.proofs.lemmas.Int.{to_z-of_z}
use Rattle.std.specs.Int.{w32, w64}
use Rattle.whole.specs.Abs.{mag_abs}
use Rattle.little.specs.Numbers.{length-bytes}
use Rattle.little.specs.Written.{written_part}
use Rattle.little.specs.Machine.{put_four}
use Rattle.little.proofs.I32Entry.put.Goals as goal

pub returns : goal.returns
returns c =
    let z = c.args.z in
    let f : SFits w32 z = record { sfits = omega (arith, mag_abs z) } in
    let e = put_four z (ap (λ (x : ℤ). to_z w32 (of_z w32 x)) (to_z-of_z w64 z c.ranges.z) ∙ to_z-of_z w32 z f) in
    written_part c.args.d.now c.args.at 4 (c.copy_from_slice.ensures.after ∙ c.to_le_bytes.ensures ∙ e) (length-bytes 4 _)
