-- `layout::start_of` meets its contract: a row starts where the rows before it end. Assumes nothing.
use Rattle.std.proofs.Common.{sym, ◌∙◌}
use Rattle.layout.specs.Places.{start_is}
use Rattle.layout.proofs.start_of.Goals as goal

pub returns : goal.returns
returns c = c.place.ensures ∙ sym (start_is c.args.edition c.args.n c.args.i c.requires.0)
