-- `little::put_count` meets its contract. The bytes of a number are those of its low part. Assumes nothing.
use Rattle.std.proofs.Common.{◌∙◌}
use Rattle.little.specs.Numbers.{length-bytes}
use Rattle.little.specs.Written.{written_part}
use Rattle.little.specs.Machine.{bytes_four, bytes_low_four}
use Rattle.little.proofs.put_count.Goals as goal

pub returns : goal.returns
returns c = written_part c.args.d.now c.args.at 4 (c.copy_from_slice.ensures.after ∙ c.to_le_bytes.ensures ∙ bytes_four _ ∙ bytes_low_four c.args.n) (length-bytes 4 _)
