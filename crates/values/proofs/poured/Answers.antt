-- `values::poured` meets its contract. Assumes nothing.
use mathlib.Core.Path.{◌∙◌, ap, refl}
use Rattle.rule.specs.declared.Refusal.TheVariants.{PouredValue}
use Rattle.places.specs.Met.{refusal_at}
use Rattle.values.specs.Poured.{pours_met, pours_none}
use Rattle.values.proofs.poured.Goals as goal

pub returns-in-Some-lowest_outside : goal.returns-in-Some-lowest_outside
returns-in-Some-lowest_outside c = rw c.in-Some.is (ap (refusal_at PouredValue) c.in-Some-lowest_outside.ensures ∙ pours_met c.in-Some.row)

pub returns-in_default-lowest_outside : goal.returns-in_default-lowest_outside
returns-in_default-lowest_outside c = rw c.in-Some.is (ap (refusal_at PouredValue) c.in_default-lowest_outside.ensures ∙ pours_met c.in-Some.row)

pub returns-in_default : goal.returns-in_default
returns-in_default c = rw c.in_default.is pours_none
