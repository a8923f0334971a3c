-- `stage::Trial::settled` meets its contract. Assumes nothing.
use mathlib.Core.Path.{◌≡◌, sym, ◌∙◌}
use mathlib.Core.Bool.{Bool, true, false, ◌&&◌}
use Rattle.rule.specs.Step.{settled}
use Rattle.stage.proofs.Trial.settled.Goals as goal

both : (a b r s : Bool) → r ≡ a → r ≡ true → s ≡ b → s ≡ a && b
both a b r s e t f = rw (sym e ∙ t) f

first : (a b r : Bool) → r ≡ a → r ≡ false → r ≡ a && b
first a b r e t = rw (sym e ∙ t) t

pub returns-then-settled_row : goal.returns-then-settled_row
unfolding settled
returns-then-settled_row c = both _ _ c.settled_row.result c.settled_row-then-settled_row.result c.settled_row.ensures c.if-settled_row.true c.settled_row-then-settled_row.ensures

pub returns-else-settled_row : goal.returns-else-settled_row
unfolding settled
returns-else-settled_row c = first _ _ c.settled_row.result c.settled_row.ensures c.if-settled_row.false
