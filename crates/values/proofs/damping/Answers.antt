-- `values::damping` meets its contract. Assumes nothing.
use mathlib.Core.Path.{◌∙◌, ap}
use Rattle.rule.specs.declared.Refusal.TheVariants.{DampingValue}
use Rattle.places.specs.Met.{refusal_at, each_met}
use Rattle.places.specs.Lowest.{found}
use Rattle.values.specs.Between.{lowest_dampings}
use Rattle.values.proofs.damping.Goals as goal

pub returns-in-Some : goal.returns-in-Some
returns-in-Some c = ap (refusal_at DampingValue) (c.in-Some.ensures ∙ ap found (lowest_dampings c.args.damping.now)) ∙ each_met _ _ DampingValue

pub returns : goal.returns
returns c = ap (refusal_at DampingValue) (c.in_default.ensures ∙ ap found (lowest_dampings c.args.damping.now)) ∙ each_met _ _ DampingValue
