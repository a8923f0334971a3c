-- `equation::eliminate` meets its contract. Assumes nothing.
use Rattle.equation.proofs.Laws.{kept_is, no_pivot_is}
use Rattle.equation.proofs.eliminate.Goals as goal

pub returns-then-p : goal.returns-then-p
returns-then-p c = kept_is _ _ _ c.if-p.true

pub returns-else-p : goal.returns-else-p
returns-else-p c = no_pivot_is _ _ _ c.if-p.false
