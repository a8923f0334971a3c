-- `text::channel_line` meets its contract. Assumes nothing.
use Rattle.std.proofs.Common.{rules, arith}
use Rattle.text.specs.Lines.{line_short}
use Rattle.text.proofs.channel_line.Goals as goal

pub returns : goal.returns
returns c =
    let p = c.line.ensures in
    (omega (arith, p.ends), search rules, omega (arith, p.ends, line_short c.requires.1))
