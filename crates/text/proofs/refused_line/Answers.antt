-- `text::refused_line` meets its contract. Assumes nothing.
use Rattle.std.proofs.Common.{rules, arith}
use Rattle.text.specs.Lines.{refused_short}
use Rattle.text.proofs.refused_line.Goals as goal

pub returns : goal.returns
returns c =
    let p = c.refused.ensures in
    let is = p.is in
    (omega (arith, p.ends), search rules, omega (arith, p.ends, refused_short c.args.number (omega arith)))
