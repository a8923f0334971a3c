-- `text::Pen::word` meets its contract. Assumes nothing.
use Rattle.std.proofs.Common.{length, refl, ap, ◌∙◌}
use Rattle.little.specs.Written.{length_written, written_part}
use Rattle.text.proofs.Pen.word.Goals as goal

pub returns : goal.returns
returns c =
    let p = c.args.self.now in
    let is = written_part p.d.now p.at _ c.copy_from_slice.ensures.after refl in
    record { is = is; ends = refl; kept = ap length is ∙ length_written p.d.now p.at c.args.word.now c.requires; same = refl }
