-- "Refusal numbers", 31 to 38: the checks of two rows, one after the other.
use Rattle.std.specs.Prelude.{ℕ, ◌-◌}
use Rattle.rule.specs.declared.Refusal.TheVariants.{DepthValue, HeightValue, VelocityValue, ReducedValue, FluxValue, AccelerationValue}
use Rattle.rule.specs.Rows.{Row}
use Rattle.rule.specs.Ranges.{within, depth_allowed, most_height, most_velocity, most_reduced, most_flux, most_acceleration}
use Rattle.rule.specs.Refusals.{Outcome, ◌>>=◌}
use Rattle.rule.specs.Checks.{each, each_level}

-- depths, then heights
abbrev pub bed : Row → Row → Outcome (Unit {0})
bed h e = each depth_allowed h DepthValue >>= λ _. each (within most_height) e HeightValue

-- velocities, then reduced velocities
abbrev pub speeds : Row → Row → Outcome (Unit {0})
speeds u v = each (within most_velocity) u VelocityValue >>= λ _. each (within most_reduced) v ReducedValue

-- the levels of flux, then those of acceleration
abbrev pub levels : ℕ → Row → Row → Outcome (Unit {0})
levels n Q F = each_level (n - 1) (within most_flux) Q FluxValue >>= λ _. each_level n (within most_acceleration) F AccelerationValue
