-- `values::bed` meets its contract. Assumes nothing.
use mathlib.Core.Path.{◌∙◌, sym, ap}
use Rattle.rule.specs.declared.Refusal.TheVariants.{DepthValue, HeightValue}
use Rattle.places.specs.Lowest.{found}
use Rattle.places.specs.Met.{refusal_at, each_met, err_first, ok_then}
use Rattle.values.specs.Between.{lowest_depths}
use Rattle.values.proofs.bed.Goals as goal

pub returns-in-Some : goal.returns-in-Some
returns-in-Some c = err_first _ _ _ (ap (refusal_at DepthValue) (c.in-Some.ensures ∙ ap found (lowest_depths c.args.h.now)) ∙ each_met _ _ DepthValue)

pub returns-in-Some-lowest_outside : goal.returns-in-Some-lowest_outside
returns-in-Some-lowest_outside c =
    ap (refusal_at HeightValue) c.in-Some-lowest_outside.ensures ∙ each_met _ _ HeightValue
    ∙ ok_then _ _ _ (ap (refusal_at DepthValue) (c.in_default.ensures ∙ ap found (lowest_depths c.args.h.now)) ∙ each_met _ _ DepthValue)

pub returns : goal.returns
returns c =
    ap (refusal_at HeightValue) c.in_default-lowest_outside.ensures ∙ each_met _ _ HeightValue
    ∙ ok_then _ _ _ (ap (refusal_at DepthValue) (c.in_default.ensures ∙ ap found (lowest_depths c.args.h.now)) ∙ each_met _ _ DepthValue)
