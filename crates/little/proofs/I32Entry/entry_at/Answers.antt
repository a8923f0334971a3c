-- `little::I32Entry::entry_at` meets its contract. Assumes nothing.
use Rattle.std.proofs.Common.{◌∙◌}
use Rattle.std.proofs.lemmas.Int.{to_z-of_z}
use Rattle.std.specs.Int.{w32, w64}
use Rattle.little.specs.Machine.{signed_four}
use Rattle.little.proofs.I32Entry.entry_at.Goals as goal

pub returns : goal.returns
returns c =
    to_z-of_z w64 _ (record { sfits = c.from.type_inv })
    ∙ c.from.ensures
    ∙ to_z-of_z w32 _ (record { sfits = c.from_le_bytes.type_inv })
    ∙ c.from_le_bytes.ensures
    ∙ signed_four c.args.s.now c.args.at c.bytes_at.ensures c.requires (λ i. (c.type_inv.s i).fits)
