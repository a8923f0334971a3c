-- `values::between` meets its contract. Assumes nothing.
use mathlib.Core.Bool.{◌&&◌}
use lib.Signed.{le_z}
use mir.Syntax.{w64}
use mir.ValLaws.{to_z-of_z}
use Rattle.values.proofs.between.Goals as goal

pub returns : goal.returns
returns c =
    let x = to_z-of_z w64 c.args.x c.ranges.x in
    let least = to_z-of_z w64 c.args.least c.ranges.least in
    let most = to_z-of_z w64 c.args.most c.ranges.most in
    (λ i. le_z (least i) (x i) && le_z (x i) (most i))
