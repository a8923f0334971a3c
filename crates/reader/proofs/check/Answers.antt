-- `reader::check` meets its contract: its ways out are the rule's. Assumes nothing.
use mathlib.Core.Path.{sym, ◌∙◌, ap}
use native.Mathlib.Omega.{arith}
use Rattle.rule.specs.Refusals.{met}
use Rattle.rule.specs.File.{count_of}
use Rattle.places.specs.Met.{met_number, from_err}
use Rattle.checks.specs.Facts.{cells_few}
use Rattle.checks.specs.Tests.{both}
use Rattle.opened.specs.Opened.{head_passed}
use Rattle.opened.specs.Held.{shape_is}
use Rattle.form.specs.Reader.{fits_lent, rows_in, shape_passes, body_tests, by_head, by_shape, by_body}
use Rattle.reader.proofs.check.Goals as goal

pub returns-in_err-head : goal.returns-in_err-head
returns-in_err-head c =
    let p = c.args.poured in
    from_err _ _ c.from_residual.ensures.1 ∙ by_head (fits_lent p) (rows_in p) c.args.s.now _ c.in_err-head.ensures

pub count_at-n-requires : goal.count_at-n-requires
count_at-n-requires c = omega (arith, head_passed c.args.s.now (met_number _ _ c.in_ok-head.ensures))

pub returns-then-not-shape_passes : goal.returns-then-not-shape_passes
unfolding count_of
returns-then-not-shape_passes c =
    let p = c.args.poured in
    let is = c.shape_passes.ensures ∙ shape_is p c.count_at-n.result ∙ ap (shape_passes (fits_lent p) (rows_in p)) c.count_at-n.ensures.0 in
    by_shape (fits_lent p) (rows_in p) c.args.s.now c.in_ok-head.ensures (sym is ∙ c.if-not-shape_passes.true)

pub body-requires : goal.body-requires
unfolding count_of
body-requires c =
    let shape = both _ _ (sym c.shape_passes.ensures ∙ c.if-not-shape_passes.false) in
    let few = cells_few _ shape.0 in
    record { head = (head_passed c.args.s.now (met_number _ _ c.in_ok-head.ensures)).0; cells = (sym c.count_at-n.ensures.0); least = few.0; most = few.1; fits = shape.1 }

pub returns : goal.returns
unfolding count_of
returns c =
    let p = c.args.poured in
    let s = c.args.s.now in
    let is = c.shape_passes.ensures ∙ shape_is p c.count_at-n.result ∙ ap (shape_passes (fits_lent p) (rows_in p)) c.count_at-n.ensures.0 in
    c.body.ensures
    ∙ ap (λ n. met (body_tests n (rows_in p) s)) c.count_at-n.ensures.0
    ∙ by_body (fits_lent p) (rows_in p) s c.in_ok-head.ensures (sym is ∙ c.if-not-shape_passes.false)
