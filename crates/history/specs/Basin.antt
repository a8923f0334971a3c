-- No call changes the basin: the cells, X, T, the count that is wanted, the depths and the damping; making a channel leaves its heights and
-- velocities too. Assumes nothing.
use Rattle.std.specs.Prelude.{◌≡◌, refl, List, [], ◌∷◌}
use Rattle.std.proofs.Common.{sym, ◌∙◌, ap}
use Rattle.rule.specs.Rows.{Row}
use Rattle.rule.specs.Channel.{Channel, moved, filled}
use Rattle.rule.specs.declared.Refusal.TheVariants.{Shape}
use Rattle.rule.specs.Refusals.{Outcome, refused, done}
use Rattle.rule.specs.Acceleration.{accelerations}
use Rattle.rule.specs.Make.{reduced_velocities, make_checked, make}
use Rattle.rule.specs.Step.{Stepped, accept, step}
use Rattle.rule.specs.Filter.{filter}
use Rattle.rule.specs.Calls.{called, plainly, fit, make_call, step_call, filter_call}
use Rattle.checks.specs.Chain.{came, came_by}
use Rattle.water.specs.History.{Call, pour, smooth, next, after}
use Rattle.water.specs.Calls.{step_accepted, filter_accepted}

-- d in the basin of c
abbrev pub like : Channel → Channel → Channel
like c d = moved c d.accepted d.e d.u d.v d.Q d.F

by_step : (c : Channel) (s : Row) (o : Outcome Stepped) → step c s ≡ o → let d = (called c (λ t. t.passes) (λ t. t.channel) o).left in like c d ≡ d
unfolding called accept
by_step c s (refused r k) e = refl
by_step c s (done t) e = let i = (step_accepted c s t e).is in ap (like c) i ∙ sym i

pub step_like : (c : Channel) (s : Row) → like c (step_call c s).left ≡ (step_call c s).left
unfolding step_call
step_like c s = by_step c s (step c s) refl

-- and with its count of accepted steps, which a filter pass leaves too
abbrev pub still_like : Channel → Channel → Channel
still_like c d = moved c c.accepted d.e d.u d.v d.Q d.F

by_filter : (c : Channel) (o : Outcome Channel) → filter c ≡ o → let d = (plainly c o).left in still_like c d ≡ d
unfolding plainly called
by_filter c (refused r k) e = refl
by_filter c (done d) e = let i = (filter_accepted c d e).is in ap (still_like c) i ∙ sym i

pub filter_like : (c : Channel) → still_like c (filter_call c).left ≡ (filter_call c).left
unfolding filter_call
filter_like c = by_filter c (filter c) refl

next_like : (c : Channel) (call : Call) → like c (next c call) ≡ next c call
unfolding next
next_like c (pour s) = step_like c s
next_like c smooth = let i = filter_like c in ap (like c) (sym i) ∙ i

after_like : (c : Channel) (calls : List Call) → like c (after c calls) ≡ after c calls
unfolding after
after_like c [] = refl
after_like c (call ∷ calls) =
    let d = next c call in
    ap (λ x. like x (after d calls)) (next_like c call) ∙ after_like d calls

-- what calls leave
pub is_like : (c d : Channel) (calls : List Call) → d ≡ after c calls → like c d ≡ d
is_like c d calls e = ap (like c) e ∙ after_like c calls ∙ sym e

-- a channel that is made
abbrev pub made_like : Channel → Channel → Channel
made_like c d = moved c d.accepted c.e c.u d.v d.Q d.F

made_of : (c d : Channel) → make c.N c.X c.T c.wanted c.h c.e c.u c.damping ≡ done d → made_like c d ≡ d
unfolding make
made_of c d m =
    let k = came (make_checked c.N c.X c.T c.wanted c.h c.e c.u c.damping) _ d m in
    let v = came (reduced_velocities c.N c.X c.h c.u) _ d k.rest in
    let Q = came _ _ d v.rest in
    let is : moved c 0 c.e c.u v.mid (filled Q.mid) (filled (accelerations c.N c.X c.e c.u c.damping)) ≡ d = cc Q.rest in
    ap (made_like c) (sym is) ∙ is

by_make : (c : Channel) (m : Outcome Channel) → ((d : Channel) → m ≡ done d → made_like c d ≡ d) → let d = (plainly c m).left in made_like c d ≡ d
unfolding plainly called
by_make c (refused r k) h = refl
by_make c (done d) h = h d refl

pub make_like : (c : Channel) → made_like c (make_call c).left ≡ (make_call c).left
unfolding make_call
make_like c = by_make c _ (λ d e. made_of c d (came_by (fit c c.N) Shape _ d e).1)
