-- `rows::at` meets its contract. Assumes nothing.
use Rattle.std.proofs.Common.{◌≡◌, true, sym, ap, ◌∙◌, w64, rules}
use Rattle.std.proofs.lemmas.Int.{to_z-of_z}
use borrow.Author.Rules.{sfits_of}
use Rattle.rule.specs.Mirror.{beyond}
use Rattle.rule.specs.Rows.{cell}
use Rattle.rows.specs.Mirrored.{beyond_left, beyond_right, beyond_inner}
use Rattle.rows.proofs.at.Goals as goal
use Rattle.rows.proofs.at.Goals.{else-k-ge4-via-then-k-ge4+else-k-n, else-k-ge4-via-else-k-ge4}

pub returns-then-k-n : goal.returns-then-k-n
returns-then-k-n g c =
    to_z-of_z w64 _ (search rules) ∙ ap (cell c.args.row.now) c.mirror.ensures.0
    ∙ sym (g.P.Parity.laws.between _ _ _ (beyond_inner _ _ c.if-k-ge4.true c.if-k-n.true))

pub returns-else-k-ge4 : goal.returns-else-k-ge4
returns-else-k-ge4 g c =
    let image = g.P.Parity.image in
    let past : beyond c.args.n c.args.k ≡ true =
    elim c.else-k-ge4.branch [ else-k-ge4-via-then-k-ge4+else-k-n w ↦ beyond_right _ _ w.if-k-ge4.true w.if-k-n.false | else-k-ge4-via-else-k-ge4 w ↦ beyond_left _ _ w.if-k-ge4.false ] in
    to_z-of_z w64 _ (sfits_of c.image.type_inv) ∙ c.image.ensures
    ∙ ap image (to_z-of_z w64 _ (search rules))
    ∙ ap (λ j. image (cell c.args.row.now j)) c.mirror.ensures.0
    ∙ sym (g.P.Parity.laws.past _ _ _ past)
