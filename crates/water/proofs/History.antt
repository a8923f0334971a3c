-- Water is kept: by each call, and by any calls one after the other, refused ones among them. Assumes nothing.
use Rattle.std.specs.Prelude.{◌≡◌, refl, List, [], ◌∷◌, ◌+ℤ◌}
use Rattle.std.proofs.Common.{sym, ◌∙◌, ap}
use Rattle.std.proofs.Math.IntN.{+ℤ_idr, +ℤ_assoc}
use Rattle.rule.specs.Rows.{Row, sum}
use Rattle.rule.specs.Channel.{Channel}
use Rattle.rule.specs.Refusals.{Outcome, refused, done}
use Rattle.rule.specs.Step.{Stepped, step}
use Rattle.rule.specs.Filter.{filter}
use Rattle.rule.specs.Calls.{called, plainly, step_call, filter_call}
use Rattle.water.specs.Calls.{step_water, filter_water}
use Rattle.water.specs.History.{Call, pour, smooth, next, after, taken, poured_by, poured}

step_kept : (c : Channel) (s : Row) (o : Outcome Stepped) → step c s ≡ o → sum (called c (λ t. t.passes) (λ t. t.channel) o).left.e ≡ sum c.e +ℤ taken s o
unfolding called taken
step_kept c s (refused r k) e = sym (+ℤ_idr (sum c.e))
step_kept c s (done t) e = step_water c s t e

filter_kept : (c : Channel) (o : Outcome Channel) → filter c ≡ o → sum (plainly c o).left.e ≡ sum c.e
unfolding plainly called
filter_kept c (refused r k) e = refl
filter_kept c (done new) e = filter_water c new e

-- by one call
pub call_keeps : (c : Channel) (call : Call) → sum (next c call).e ≡ sum c.e +ℤ poured_by c call
unfolding next poured_by step_call filter_call
call_keeps c (pour s) = step_kept c s (step c s) refl
call_keeps c smooth = filter_kept c (filter c) refl ∙ sym (+ℤ_idr (sum c.e))

-- the heights add up to exactly their starting sum and every amount poured in by the accepted steps
pub water_kept : (c : Channel) (calls : List Call) → sum (after c calls).e ≡ sum c.e +ℤ poured c calls
unfolding after poured
water_kept c [] = sym (+ℤ_idr (sum c.e))
water_kept c (call ∷ calls) =
    water_kept (next c call) calls
    ∙ ap (λ t. t +ℤ poured (next c call) calls) (call_keeps c call)
    ∙ +ℤ_assoc (sum c.e) (poured_by c call) (poured (next c call) calls)
