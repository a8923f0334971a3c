-- `opened::opened` meets its contract: each lent row, and each count, is the file's. Assumes nothing.
use mathlib.Core.Path.{ap, ◌∙◌}
use Rattle.rule.specs.Counted.{counted}
use Rattle.rule.specs.declared.Counts.{Counts}
use Rattle.opened.specs.Held.{cells_is}
use Rattle.opened.specs.Fitting.{head_held, cells_fit, levels_fit}
use Rattle.opened.proofs.opened.Goals as goal

pub counts-c-requires : goal.counts-c-requires
counts-c-requires c = head_held c.requires

pub keep_cells-requires : goal.keep_cells-requires
keep_cells-requires c = cells_fit c.requires

pub keep_levels-requires : goal.keep_levels-requires
keep_levels-requires c = levels_fit c.requires _ (ap (λ (r : Counts). r.n) c.counts-c.ensures ∙ cells_is c.args.s.now)

pub returns : goal.returns
returns c =
    let p = c.counts-c.ensures in
    let q = c.keep_cells.ensures in
    let t = c.keep_levels.ensures in
    (λ i. counted (p i) (q.0 i) (q.1 i) (q.2 i) (q.3 i) (t.0 i) (t.1 i) (t.2 i))
