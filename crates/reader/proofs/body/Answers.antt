-- `reader::body` meets its contract: past the form, 1 passes. Assumes nothing.
use mathlib.Core.Path.{◌≡◌, sym, ◌∙◌, ap, subst}
use mathlib.Core.Bool.{true}
use mathlib.Core.List.{[], ◌∷◌}
use native.Mathlib.Omega.{arith}
use Rattle.rule.specs.Refusals.{met}
use Rattle.rule.specs.Checks.{checked}
use Rattle.rule.specs.File.{channel_of}
use Rattle.places.specs.Met.{met_number, from_err}
use Rattle.form.specs.Reader.{fits_lent, rows_in, by_form, by_values}
use Rattle.opened.specs.Held.{begun_shaped, poured_bytes, read_cut}
use Rattle.opened.specs.Opened.{form_passed}
use Rattle.reader.proofs.body.Goals as goal

pub returns-in_err-form : goal.returns-in_err-form
returns-in_err-form c =
    let a = c.args in
    from_err _ _ c.from_residual.ensures.1 ∙ by_form a.n (rows_in a.poured) a.s.now _ c.in_err-form.ensures

pub read_row-row-requires : goal.read_row-row-requires
read_row-row-requires c =
    let fits = subst (λ o. fits_lent o c.args.n ≡ true) c.in-Some.is c.requires.fits in
    (omega (arith, poured_bytes _ _ fits), c.requires.most)

pub values-requires : goal.values-requires
values-requires c =
    let b = c.requires in
    record { cells = b.cells; least = b.least; most = b.most; long = (form_passed c.args.n c.args.s.now (met_number _ _ c.in_ok-form.ensures)).0 }

pub returns-in-Some : goal.returns-in-Some
returns-in-Some c =
    let a = c.args in
    let d = channel_of a.s.now in
    let fits = subst (λ o. fits_lent o a.n ≡ true) c.in-Some.is c.requires.fits in
    c.values.ensures
    ∙ ap (λ row. met (checked d (row ∷ []))) (read_cut c.in-Some.p.now a.n c.read_row-row.ensures fits)
    ∙ ap (λ o. met (checked d (rows_in o))) (sym c.in-Some.is)
    ∙ by_values a.n (rows_in a.poured) a.s.now c.in_ok-form.ensures (begun_shaped a.n a.poured a.s.now c.requires)

pub values-requires-in-None : goal.values-requires-in-None
values-requires-in-None c =
    let b = c.requires in
    record { cells = b.cells; least = b.least; most = b.most; long = (form_passed c.args.n c.args.s.now (met_number _ _ c.in_ok-form.ensures)).0 }

pub returns-in-None : goal.returns-in-None
returns-in-None c =
    let a = c.args in
    c.values-in-None.ensures
    ∙ ap (λ o. met (checked (channel_of a.s.now) (rows_in o))) (sym c.in-None.is)
    ∙ by_values a.n (rows_in a.poured) a.s.now c.in_ok-form.ensures (begun_shaped a.n a.poured a.s.now c.requires)
