-- `in_arrays::in_arrays` meets its contract: parts of its own arrays are lent. Assumes nothing.
use mathlib.Core.Path.{refl, ◌∙◌, ap}
use Rattle.std.specs.Bool.{then_some}
use Rattle.rule.specs.File.{channel_of}
use Rattle.rule.specs.Calls.{row_in}
use Rattle.form.specs.Reader.{fits_lent}
use Rattle.opened.specs.Held.{poured_array, fits_poured, poured_cut}
use Rattle.opened.specs.Fitting.{opens_parts}
use Rattle.call.specs.Kept.{filed}
use Rattle.call.specs.Walk.{pours_of, same_poured}
use Rattle.in_arrays.proofs.in_arrays.Goals as goal

pub poured_row-s-requires : goal.poured_row-s-requires
poured_row-s-requires c =
    let a = c.args in
    let is = c.then_some.ensures ∙ ap (λ b. then_some b a.poured) c.pours.ensures in
    (c.requires.most, ap (λ o. fits_lent o a.n) is ∙ fits_poured (pours_of a.call) a.poured a.n ∙ c.requires.fits)

pub walk_rows-requires : goal.walk_rows-requires
walk_rows-requires c =
    let w = c.requires in
    (opens_parts c.args.file.now c.args.n _ _ _ _ _ _ _ w.cells w.least w.most w.sized refl refl refl refl refl refl refl, w.passing)

pub returns : goal.returns
returns c =
    let a = c.args in
    let is = c.then_some.ensures ∙ ap (λ b. then_some b a.poured) c.pours.ensures in
    let row = poured_cut (pours_of a.call) a.n a.poured (c.poured_row-s.ensures ∙ ap (λ o. poured_array o a.n) is) c.requires.fits in
    c.walk_rows.ensures ∙ ap filed (same_poured a.call _ (row_in a.poured.now) (channel_of a.file.now) row)
