-- `make::made` meets its contract: the lengths of the rows come first. Assumes nothing.
use mathlib.Core.Path.{◌≡◌, sym, ◌∙◌}
use mathlib.Core.Bool.{Bool, ◌&&◌}
use mathlib.Core.List.{[], ◌∷◌}
use lib.ListN.{length}
use Rattle.rule.specs.declared.Lent.{Lent}
use Rattle.rule.specs.Ranges.{cells_allowed}
use Rattle.rule.specs.Rows.{map, same}
use Rattle.rule.specs.Channel.{rows, lengths}
use Rattle.rule.specs.Calls.{fit}
use Rattle.rule.specs.Counted.{lent}
use Rattle.make.specs.Left.{unfit, goes_on}
use Rattle.make.proofs.made.Goals as goal

-- the test of the lengths
tests : (c : Lent) (b : Bool) → b ≡ cells_allowed c.counts.n && same (map length (c.h.now ∷ c.e.now ∷ c.u.now ∷ c.v.now ∷ c.q.now ∷ c.f.now ∷ c.damping.now ∷ [])) (lengths c.counts.n) → b ≡ cells_allowed c.counts.n && fit (lent c) c.counts.n
unfolding fit rows
tests c b s = s

pub returns-then-not-shaped : goal.returns-then-not-shaped
returns-then-not-shaped c = unfit (lent c.args.c) (sym (tests c.args.c _ c.shaped.ensures) ∙ c.if-not-shaped.true)

pub returns : goal.returns
returns c = goes_on (lent c.args.c) _ c.work_out.ensures (sym (tests c.args.c _ c.shaped.ensures) ∙ c.if-not-shaped.false)
