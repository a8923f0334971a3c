-- `values::within` meets its contract. Assumes nothing.
use mathlib.Core.Path.{◌∙◌, ap}
use Rattle.std.specs.Prelude.{leb, nat_abs}
use mir.Syntax.{w64}
use mir.ValLaws.{to_z-of_z}
use Rattle.rule.specs.Ranges.{within}
use Rattle.values.proofs.within.Goals as goal

pub returns : goal.returns
unfolding within
returns c = ap (λ k. leb k c.args.most) (c.unsigned_abs.ensures.value ∙ ap nat_abs (to_z-of_z w64 c.args.x c.ranges.x))
