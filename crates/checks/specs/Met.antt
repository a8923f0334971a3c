-- Refusal numbers: what the checks of an input refuse by, 1, 2, 4, 5, 26 and 31 to 38, outside the stages of a step. Assumes nothing.
use Rattle.std.specs.Prelude.{ℕ, refl, List, [], ◌∷◌}
use Rattle.rule.specs.Rows.{Row}
use Rattle.rule.specs.Ranges.{between}
use Rattle.rule.specs.Channel.{Channel}
use Rattle.rule.specs.declared.Refusal.TheVariants.{Shape, CountValue, DepthValue, HeightValue, VelocityValue, ReducedValue, FluxValue, AccelerationValue, DampingValue, PouredValue, Depth, TimeStep, Dominance}
use Rattle.rule.specs.Refusals.{number}
use Rattle.rule.specs.Checks.{deep, timed, wet, pourable, allowed, checked}
use Rattle.rule.specs.Make.{make_checked}
use Rattle.checks.specs.Numbers.{Refuses, of_input, Input, Outside, outside_input, refuses_then, refuses_test, refuses_each, refuses_levels}

wet_met : (n X T : ℕ) (h e : Row) → Refuses Input (wet n X T h e)
unfolding wet deep timed number of_input between
wet_met n X T h e =
    refuses_then Input _ _ (refuses_each Input _ _ Depth (λ j. refl)) (λ _.
    refuses_test Input _ TimeStep _ refl
    (refuses_each Input _ _ Dominance (λ j. refl)))

pours_met : (poured : List Row) → Refuses Input (pourable poured)
unfolding pourable number of_input between
pours_met [] = tt
pours_met (s ∷ more) = refuses_then Input _ _ (refuses_each Input _ _ PouredValue (λ j. refl)) (λ _. pours_met more)

pub allowed_met : (c : Channel) (poured : List Row) → Refuses Input (allowed c poured)
unfolding allowed number of_input between
allowed_met c poured =
    refuses_test Input _ CountValue _ refl
    (refuses_then Input _ _ (refuses_each Input _ _ DepthValue (λ j. refl)) (λ _.
    refuses_then Input _ _ (refuses_each Input _ _ HeightValue (λ j. refl)) (λ _.
    refuses_then Input _ _ (refuses_each Input _ _ VelocityValue (λ j. refl)) (λ _.
    refuses_then Input _ _ (refuses_each Input _ _ ReducedValue (λ j. refl)) (λ _.
    refuses_then Input _ _ (refuses_levels Input _ _ _ FluxValue (λ j. refl)) (λ _.
    refuses_then Input _ _ (refuses_levels Input _ _ _ AccelerationValue (λ j. refl)) (λ _.
    refuses_then Input _ _ (refuses_each Input _ _ DampingValue (λ j. refl)) (λ _.
    refuses_then Input _ _ (pours_met poured) (λ _.
    wet_met c.N c.X c.T c.h c.e)))))))))

pub checked_met : (c : Channel) (poured : List Row) → Refuses Input (checked c poured)
unfolding checked number of_input between
checked_met c poured = refuses_test Input _ Shape _ refl (allowed_met c poured)

pub make_checked_met : (n X T wanted : ℕ) (h e u damping : Row) → Refuses Input (make_checked n X T wanted h e u damping)
unfolding make_checked number of_input between
make_checked_met n X T wanted h e u damping =
    refuses_test Input _ Shape _ refl
    (refuses_test Input _ CountValue _ refl
    (refuses_then Input _ _ (refuses_each Input _ _ DepthValue (λ j. refl)) (λ _.
    refuses_then Input _ _ (refuses_each Input _ _ HeightValue (λ j. refl)) (λ _.
    refuses_then Input _ _ (refuses_each Input _ _ VelocityValue (λ j. refl)) (λ _.
    refuses_then Input _ _ (refuses_each Input _ _ DampingValue (λ j. refl)) (λ _.
    wet_met n X T h e))))))

-- so that each has stage 0
pub allowed_outside : (c : Channel) (poured : List Row) → Outside (allowed c poured)
allowed_outside c poured = outside_input (allowed c poured) (allowed_met c poured)

pub checked_outside : (c : Channel) (poured : List Row) → Outside (checked c poured)
checked_outside c poured = outside_input (checked c poured) (checked_met c poured)

pub make_checked_outside : (n X T wanted : ℕ) (h e u damping : Row) → Outside (make_checked n X T wanted h e u damping)
make_checked_outside n X T wanted h e u damping = outside_input (make_checked n X T wanted h e u damping) (make_checked_met n X T wanted h e u damping)
