-- `values::reduced` meets its contract. Assumes nothing.
use mathlib.Core.Path.{◌∙◌, ap}
use Rattle.rule.specs.declared.Refusal.TheVariants.{ReducedValue}
use Rattle.places.specs.Met.{refusal_at, each_met}
use Rattle.values.proofs.reduced.Goals as goal

pub returns-in-Some : goal.returns-in-Some
returns-in-Some c = ap (refusal_at ReducedValue) (c.in-Some.ensures) ∙ each_met _ _ ReducedValue

pub returns : goal.returns
returns c = ap (refusal_at ReducedValue) (c.in_default.ensures) ∙ each_met _ _ ReducedValue
