-- `values::lowest_outside` meets its contract. Assumes nothing.
use mathlib.Core.Path.{◌∙◌, ap, refl}
use Prim.Native.Nat.{◌^◌}
use lib.IntN.{pos}
use Rattle.whole.specs.Expr.{E, loc, lit, sub, rd_is}
use Rattle.rule.specs.Rows.{lowest}
use Rattle.places.specs.Lowest.{found}
use Rattle.values.specs.Between.{between, lowest_within}
use Rattle.values.proofs.lowest_outside.Goals as goal
use Rattle.values.proofs.lowest_outside.Goals.{After-lowest_beyond}

-- the upper bound
abbrev top : After-lowest_beyond → E
top c = loc c.args.most (pos c.args.most) (2 ^ 62) refl c.requires

pub returns : goal.returns
returns c =
    c.lowest_beyond.ensures
    ∙ (λ i. found (lowest (between (rd_is (sub (lit (pos 0)) (top c)) tt i) (rd_is (top c) tt i)) c.args.row.now))
    ∙ ap found (lowest_within c.args.most c.args.row.now)
