-- `little::read_row` meets its contract. Assumes nothing.
use Rattle.std.proofs.Common.{◌++◌, drop, ap, ◌∙◌}
use Rattle.rule.specs.Ranges.{most_cells}
use Rattle.whole.specs.Row.{zeros, padded}
use Rattle.rule.specs.Bytes.{row_at}
use Rattle.little.specs.Entries.{length_places}
use Rattle.little.proofs.read_row.Goals as goal

pub returns : goal.returns
unfolding zeros padded
returns g c =
    ap (λ r. r ++ drop c.args.n zeros) (c.keep_row.ensures ∙ ap (row_at g.E.Entry.WIDTH c.args.s.now c.args.at) (length_places most_cells _ c.requires.1))
