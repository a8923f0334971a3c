-- `checks::deep` meets its contract. Assumes nothing.
use mathlib.Core.Path.{◌∙◌, ap}
use Rattle.rule.specs.declared.Refusal.TheVariants.{Depth}
use Rattle.rule.specs.Checks.{deep}
use Rattle.places.specs.Met.{refusal_at, each_met}
use Rattle.checks.proofs.deep.Goals as goal

pub returns-in-Some : goal.returns-in-Some
unfolding deep
returns-in-Some c = ap (refusal_at Depth) c.in-Some.ensures ∙ each_met _ _ Depth

pub returns : goal.returns
unfolding deep
returns c = ap (refusal_at Depth) c.in_default.ensures ∙ each_met _ _ Depth
