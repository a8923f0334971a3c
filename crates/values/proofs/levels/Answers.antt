-- `values::levels` meets its contract. Assumes nothing.
use mathlib.Core.Path.{◌∙◌, ap}
use Rattle.rule.specs.declared.Refusal.TheVariants.{FluxValue, AccelerationValue}
use Rattle.places.specs.Met.{refusal_at, err_first, ok_then}
use Rattle.values.specs.Levels.{level_met}
use Rattle.values.proofs.levels.Goals as goal

pub returns-in-Some : goal.returns-in-Some
returns-in-Some c = err_first _ _ _ (ap (refusal_at FluxValue) c.in-Some.ensures ∙ level_met _ _ _ FluxValue)

pub returns-in-Some-lowest_level : goal.returns-in-Some-lowest_level
returns-in-Some-lowest_level c =
    ap (refusal_at AccelerationValue) c.in-Some-lowest_level.ensures ∙ level_met _ _ _ AccelerationValue
    ∙ ok_then _ _ _ (ap (refusal_at FluxValue) c.in_default.ensures ∙ level_met _ _ _ FluxValue)

pub returns : goal.returns
returns c =
    ap (refusal_at AccelerationValue) c.in_default-lowest_level.ensures ∙ level_met _ _ _ AccelerationValue
    ∙ ok_then _ _ _ (ap (refusal_at FluxValue) c.in_default.ensures ∙ level_met _ _ _ FluxValue)
