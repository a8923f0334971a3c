-- `make_v::reduced_velocities` meets its contract: the V of the cells passed are in their places and in range. Assumes nothing.
use mathlib.Core.Path.{◌≡◌}
use mathlib.Core.Bool.{true}
use Rattle.whole.specs.Row.{tab, Filled}
use Rattle.rule.specs.Rows.{all}
use Rattle.rule.specs.Ranges.{most_reduced}
use Rattle.rule.specs.Floats.{within_float}
use Rattle.make_v.specs.Velocities.{each}
use Rattle.make_v.proofs.reduced_velocities.Given as goal

abbrev pub invariant-loop-j : goal.invariant-loop-j
invariant-loop-j l = record {
  filled : Filled (each l.n l.x l.h l.u) l.initial.v-items l.j l.v-items;
  in_range : all (within_float most_reduced) (tab l.j (each l.n l.x l.h l.u)) ≡ true;
}
