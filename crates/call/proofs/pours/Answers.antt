-- `call::pours` meets its contract. Assumes nothing.
use mathlib.Core.Path.{◌≡◌, refl, sym, ap}
use mathlib.Core.Bool.{false}
use Rattle.call.specs.declared.Call.{Call}
use Rattle.call.specs.declared.Call.TheVariants.{Step, Filter, Run}
use Rattle.call.specs.Walk.{pours_of}
use Rattle.call.proofs.pours.Goals as goal

-- no other call than a step
by_call : (call : Call) → (call ≡ Step → ⊥) → false ≡ pours_of call
unfolding pours_of
by_call Step other = absurd (other refl)
by_call Filter other = refl
by_call (Run most) other = refl

pub returns-in-Step : goal.returns-in-Step
unfolding pours_of
returns-in-Step c = sym (ap pours_of c.in-Step.is)

pub returns-in_default : goal.returns-in_default
returns-in_default c = by_call c.args.call c.in_default.not-Step
