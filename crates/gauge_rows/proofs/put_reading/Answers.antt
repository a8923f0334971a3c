-- `gauge_rows::put_reading` meets its contract. Assumes nothing.
use borrow.Author.Rules.{sfits_of}
use Rattle.std.proofs.Common.{◌∙◌, [], ◌∷◌, w64, arith}
use Rattle.std.proofs.lemmas.Int.{to_z-of_z}
use Rattle.whole.specs.Expr.{back}
use Rattle.gauge.specs.State.{reading}
use Rattle.gauge_rows.proofs.Parts.{written_part}
use Rattle.gauge_rows.proofs.put_reading.Goals as goal

pub returns : goal.returns
unfolding reading
returns c =
    let g = c.args.g in
    let q = c.requires.1 in
    let waves = to_z-of_z w64 _ (sfits_of c.waves.type_inv) ∙ c.waves.ensures in
    let e =
    c.copy_from_slice.ensures.after
    ∙ (λ i. back g.cell 256 q.cell tt i
    ∷ back g.fed 1_000_000 q.fed tt i
    ∷ back g.crossings 500_000 q.crossings tt i
    ∷ waves i
    ∷ back g.largest 39_999_000 q.largest tt i
    ∷ back g.sum 19_999_460_001_000 q.sum tt i
    ∷ []) in
    written_part c.args.at _ c.args.row.now _ _ e (omega arith)
