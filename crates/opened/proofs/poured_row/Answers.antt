-- `opened::poured_row` meets its contract. Assumes nothing.
use mathlib.Core.Path.{◌≡◌, ap, subst, ◌∙◌}
use mathlib.Core.Bool.{true}
use native.Mathlib.Omega.{arith}
use Rattle.whole.specs.Row.{zeros, padded}
use Rattle.opened.specs.Held.{poured_bytes, poured_is, poured_array}
use Rattle.form.specs.Reader.{fits_lent}
use Rattle.opened.proofs.poured_row.Goals as goal

pub read_row-requires : goal.read_row-requires
read_row-requires c =
    let b = poured_bytes _ _ (subst (λ o. fits_lent o c.args.n ≡ true) c.in-Some.is c.requires.1) in
    (omega (arith, b), c.requires.0)

pub returns-in-Some : goal.returns-in-Some
unfolding poured_array
returns-in-Some c =
    rw c.in-Some.is (c.read_row.ensures ∙ ap (padded c.args.n) (poured_is _ c.args.n (subst (λ o. fits_lent o c.args.n ≡ true) c.in-Some.is c.requires.1)))

pub returns-in-None : goal.returns-in-None
unfolding poured_array zeros
returns-in-None c = rw c.in-None.is
