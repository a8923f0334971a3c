-- `form::form` meets its contract. Assumes nothing.
use mathlib.Core.Path.{sym, ◌∙◌}
use native.Mathlib.Omega.{arith}
use Rattle.layout.specs.Places.{head_within}
use Rattle.rule.specs.File.{edition}
use Rattle.form.specs.Reader.{form_12, form_14, form_0}
use Rattle.form.proofs.form.Goals as goal

pub returns-then-s-length_of : goal.returns-then-s-length_of
returns-then-s-length_of c =
    let a = c.args in
    form_12 a.n a.s.now (λ z. omega (arith, z, c.if-s-length_of.true, c.length_of.ensures))

pub offsets_right-requires : goal.offsets_right-requires
offsets_right-requires c =
    (omega (arith, c.if-s-length_of.false, c.length_of.ensures, head_within edition c.args.n), c.requires)

pub returns-then-not-offsets_right : goal.returns-then-not-offsets_right
returns-then-not-offsets_right c =
    let a = c.args in
    form_14 a.n a.s.now (omega (arith, c.if-s-length_of.false, c.length_of.ensures)) (sym c.offsets_right.ensures ∙ c.if-not-offsets_right.true)

pub returns : goal.returns
returns c =
    let a = c.args in
    form_0 a.n a.s.now (omega (arith, c.if-s-length_of.false, c.length_of.ensures)) (sym c.offsets_right.ensures ∙ c.if-not-offsets_right.false)
