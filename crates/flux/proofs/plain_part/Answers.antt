-- `flux::plain_part` meets its contract. Assumes nothing.
use mathlib.Core.Path.{◌∙◌, ap}
use native.Mathlib.Nat.{le_trans}
use native.Mathlib.Omega.{arith}
use borrow.Author.Rules.{rules, sfits_of}
use lib.Dec.{lit≤}
use mir.Syntax.{w64}
use mir.ValLaws.{to_z-of_z}
use Rattle.whole.specs.Expr.{E, res, rd_is}
use Rattle.rule.specs.Rounded.{rounded}
use Rattle.rule.specs.Rows.{sizes}
use Rattle.rule.specs.Flux.{plain_part}
use Rattle.dispersion.specs.Sizes.{plain_sum}
use Rattle.dispersion.proofs.Laws.{read_small}
use Rattle.flux.proofs.plain_part.Goals as goal
use Rattle.flux.proofs.plain_part.Goals.{After-weigh}

abbrev sum : After-weigh → E
sum c =
    res 16_000_000_000_000_000 c.weigh.ensures (plain_sum 1_000_000_000_000_000 c.args.n c.args.p.now c.requires.0.small (omega arith) c.args.j c.requires.1)

pub weigh-requires : goal.weigh-requires
unfolding sizes
weigh-requires c = search rules

pub rounded-requires : goal.rounded-requires
rounded-requires c = (le_trans (read_small (sum c) tt) (lit≤ tt), (lit≤ tt, lit≤ tt))

pub returns : goal.returns
unfolding plain_part
returns c = to_z-of_z w64 _ (sfits_of c.rounded.type_inv) ∙ c.rounded.ensures ∙ ap (λ z. rounded z 12) (rd_is (sum c.before) tt)
