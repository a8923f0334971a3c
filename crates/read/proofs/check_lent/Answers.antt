-- `read::check_lent` meets its contract: its ways out are the rule's. Assumes nothing.
use mathlib.Core.Path.{refl, sym, ◌∙◌, ap}
use mathlib.Core.List.{[]}
use Rattle.rule.specs.declared.Counts.{Counts}
use Rattle.rule.specs.Channel.{rows}
use Rattle.rule.specs.Refusals.{met}
use Rattle.rule.specs.Calls.{fit}
use Rattle.rule.specs.Counted.{lent}
use Rattle.places.specs.Met.{met_number, from_err}
use Rattle.checks.specs.Tests.{both}
use Rattle.checks.specs.Facts.{cells_few}
use Rattle.form.specs.Reader.{shape_passes, body_tests, by_head, by_shape, by_body}
use Rattle.opened.specs.Held.{cells_is}
use Rattle.opened.specs.Opened.{head_passed}
use Rattle.read.specs.Left.{lent_shape}
use Rattle.read.proofs.check_lent.Goals as goal

pub returns-in_err-head : goal.returns-in_err-head
returns-in_err-head c =
    from_err _ _ c.from_residual.ensures.1 ∙ by_head (fit (lent c.args.c)) [] c.args.s.now _ c.in_err-head.ensures

pub counts-counts-requires : goal.counts-counts-requires
counts-counts-requires c = (head_passed c.args.s.now (met_number _ _ c.in_ok-head.ensures)).0

pub returns-then-not-shaped : goal.returns-then-not-shaped
unfolding rows
returns-then-not-shaped c =
    let s = c.args.s.now in
    let g = lent c.args.c in
    let n = ap (λ (k : Counts). k.n) c.counts-counts.ensures ∙ cells_is s in
    let is = c.shaped.ensures ∙ lent_shape g _ ∙ ap (shape_passes (fit g) []) n in
    by_shape (fit g) [] s c.in_ok-head.ensures (sym is ∙ c.if-not-shaped.true)

pub body-requires : goal.body-requires
body-requires c =
    let s = c.args.s.now in
    let few = cells_few _ (both _ _ (sym c.shaped.ensures ∙ c.if-not-shaped.false)).0 in
    let n = ap (λ (k : Counts). k.n) c.counts-counts.ensures ∙ cells_is s in
    record { head = (head_passed s (met_number _ _ c.in_ok-head.ensures)).0; cells = sym n; least = few.0; most = few.1; fits = refl }

pub returns : goal.returns
unfolding rows
returns c =
    let s = c.args.s.now in
    let g = lent c.args.c in
    let n = ap (λ (k : Counts). k.n) c.counts-counts.ensures ∙ cells_is s in
    let is = c.shaped.ensures ∙ lent_shape g _ ∙ ap (shape_passes (fit g) []) n in
    c.body.ensures
    ∙ ap (λ m. met (body_tests m [] s)) n
    ∙ by_body (fit g) [] s c.in_ok-head.ensures (sym is ∙ c.if-not-shaped.false)
