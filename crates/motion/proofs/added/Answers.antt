-- `motion::added` meets its contract. Assumes nothing.
use mathlib.Core.Path.{◌∙◌, ap}
use native.Mathlib.Nat.{le_trans}
use borrow.Author.Rules.{sfits_of}
use lib.Dec.{lit≤}
use mir.Syntax.{w64}
use mir.ValLaws.{to_z-of_z}
use Rattle.whole.specs.Expr.{E, res, rd_is, abs≤}
use Rattle.rule.specs.Rounded.{rounded}
use Rattle.motion.specs.Weights.{carried_within}
use Rattle.motion.proofs.added.Goals as goal
use Rattle.motion.proofs.added.Goals.{After-timed}

abbrev sum : After-timed → E
sum c =
    let s = c.before in
    res 4_400_000_000_000_000_000 c.timed.ensures (carried_within 1_000_000_000_000_000 s.args.n s.args.trial.now s.args.levels.now s.requires.levels s.args.j s.requires.place s.args.table.now s.requires.table_four s.args.t s.requires.brief)

pub rounded-requires : goal.rounded-requires
rounded-requires c = (rw (rd_is (sum c) tt) (le_trans (abs≤ (sum c)) (lit≤ tt)), (c.before.requires.some, c.before.requires.most))

pub returns : goal.returns
returns c =
    to_z-of_z w64 _ (sfits_of c.rounded.type_inv) ∙ c.rounded.ensures
    ∙ ap (λ z. rounded z c.before.before.args.d) (rd_is (sum c.before) tt)
