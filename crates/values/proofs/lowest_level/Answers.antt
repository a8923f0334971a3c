-- `values::lowest_level` meets its contract. Assumes nothing.
use Prim.Native.Nat.{ℕ, ◌*◌}
use Rattle.std.specs.Prelude.{Option}
use mathlib.Core.Path.{◌≡◌, ◌∙◌, ap}
use native.Mathlib.Omega.{arith}
use lib.ListN.{take, drop}
use Rattle.std.specs.Option.{option_or}
use Rattle.rule.specs.Rows.{lowest}
use Rattle.rule.specs.Ranges.{within}
use Rattle.places.specs.Lowest.{found}
use Rattle.values.proofs.lowest_level.Goals as goal

pub returns : goal.returns
returns c =
    let none : 0 ≡ 0 * c.args.m = omega arith in
    let one : c.args.m ≡ 1 * c.args.m = omega arith in
    let at : ℕ → Option ℕ = λ k. found (lowest (within c.args.most) (take c.args.m (drop k c.args.row.now))) in
    c.or-2.ensures
    ∙ (λ i. option_or (c.or.ensures i) (c.lowest_from-oldest.ensures i))
    ∙ (λ i. option_or (option_or (c.lowest_from-newest.ensures i) (c.lowest_from-middle.ensures i)) (at (2 * c.args.m)))
    ∙ (λ i. option_or (option_or (at (none i)) (at (one i))) (at (2 * c.args.m)))
