-- Refusal numbers: the stages of a step are 0 to 10, its places to 256 and its corrections 1 to 10; a run takes no more steps than it has left. Assumes nothing.
use Prim.Native.Nat.{ℕ, zero, suc, ◌+◌, ◌-◌, ◌≤◌}
use native.Mathlib.Omega.{arith}
use Rattle.std.specs.Prelude.{◌≡◌, refl, Bool, true, false, not, cond, List, [], ◌∷◌}
use Rattle.std.proofs.Common.{sym, subst}
use Rattle.rule.specs.Rows.{Row}
use Rattle.rule.specs.Channel.{Channel}
use Rattle.rule.specs.declared.Refusal.TheVariants.{Pivot, Speed, Height, Flux, Complete}
use Rattle.rule.specs.Refusals.{Outcome, refused, done, place, require, ◌>>=◌}
use Rattle.rule.specs.Flux.{fluxes}
use Rattle.rule.specs.Solve.{solve}
use Rattle.rule.specs.Checks.{checked, is_complete, ready}
use Rattle.rule.specs.Step.{Weights, Trial, Stepped, raised, hastened, tried, stage, prediction, correction, settled, corrections, step}
use Rattle.rule.specs.Filter.{smoothed, smoothed_reduced, filter}
use Rattle.rule.specs.Run.{Ran, whole, paused, run_on, run_for}
use Rattle.rule.specs.Calls.{plainly, ended, ran, step_call, filter_call, run_for_call}
use Rattle.rule.specs.Ranges.{most_cells, most_steps}
use Rattle.checks.specs.Numbers.{number_of_done, number_within, first_done}
use Rattle.checks.specs.Allowed.{allowed_of}
use Rattle.run_for.specs.Runs.{nothing, fewer_of, fewer_fits}
use Rattle.run_for.specs.Each.{took, ceased}
use Rattle.packing.specs.Small.{Small, Bounded, bounded_then, bounded_test, bounded_at, bounded_cond, Counted, counted_then, counted_cond, refused_small, called_small, uncounted_small}
use Rattle.packing.specs.Inputs.{deep_bounded, checked_bounded, ready_bounded}

solve_bounded : (n X : ℕ) (h v : Row) → Bounded (solve n X h v)
unfolding solve place
solve_bounded n X h v =
    bounded_test _ Pivot _ refl (λ _. bounded_test _ Speed _ refl (λ _. tt))

pub fluxes_bounded : (n X : ℕ) (h e u : Row) → Bounded (fluxes n X h e u)
unfolding fluxes place
fluxes_bounded n X h e u = bounded_test _ Flux _ refl (λ _. tt)

-- the checks of a stage
tried_bounded : (c : Channel) (e v : Row) → c.N ≤ most_cells → Bounded (tried c e v)
unfolding tried place
tried_bounded c e v few =
    bounded_test _ Height _ refl (λ _.
    bounded_then _ _ (deep_bounded c.N c.h e few) (λ _ _.
    bounded_test _ Speed _ refl (λ _.
    bounded_then _ _ (solve_bounded c.N c.X c.h v) (λ u _.
    bounded_then _ _ (fluxes_bounded c.N c.X c.h e u) (λ Q _. tt)))))

-- a channel that passed its checks has at most 256 cells
few_of : (c : Channel) (poured : List Row) (x : Unit {0}) → ready c poured ≡ done x → c.N ≤ most_cells
unfolding ready
few_of c poured x e =
    let z = first_done (checked c poured) (λ _. require (not (is_complete c)) Complete) (number_of_done _ x e) in
    (allowed_of c poured z).cells.most

-- corrections of a step, from correction k on
module _ (c : Channel) (s : Row) where
  stage_bounded : (w : Weights) (Q F : Row) → c.N ≤ most_cells → Bounded (stage c s w Q F)
  unfolding stage
  stage_bounded w Q F few = tried_bounded c (raised c s w Q) (hastened c w F) few

  corrections_bounded : c.N ≤ most_cells → (left k : ℕ) (old : Trial) → left + k ≤ 11 → Bounded (corrections c s left k old)
  unfolding corrections correction place
  corrections_bounded few zero k old h = (omega arith, omega arith)
  corrections_bounded few (suc left) k old h =
      bounded_then _ _ (bounded_at k (correction c s old) (omega arith) (stage_bounded _ _ _ few)) (λ new _. bounded_cond (settled c.N new old) _ _ tt (corrections_bounded few left (suc k) new (omega arith)))

  corrections_counted : (left k : ℕ) (old : Trial) → left + k ≤ 11 → Counted (λ (t : Stepped). t.passes) (corrections c s left k old)
  unfolding corrections
  corrections_counted zero k old h = tt
  corrections_counted (suc left) k old h =
      counted_then (λ (t : Stepped). t.passes) _ _ (λ new. counted_cond (λ (t : Stepped). t.passes) (settled c.N new old) _ _ (omega arith) (corrections_counted left (suc k) new (omega arith)))

  step_bounded : Bounded (step c s)
  unfolding step prediction
  step_bounded =
      bounded_then (ready c (s ∷ [])) _ (ready_bounded c (s ∷ [])) (λ x e.
      let few = few_of c (s ∷ []) x e in
      bounded_then (prediction c s) _ (stage_bounded _ _ _ few) (λ t _. corrections_bounded few 10 1 t (omega arith)))

  step_counted : Counted (λ (t : Stepped). t.passes) (step c s)
  unfolding step
  step_counted =
      counted_then (λ (t : Stepped). t.passes) (ready c (s ∷ [])) _ (λ _. counted_then (λ (t : Stepped). t.passes) (prediction c s) _ (λ t. corrections_counted 10 1 t (omega arith)))

  pub step_small : Small (step_call c s).answer
  unfolding step_call
  step_small = called_small c _ _ (step c s) step_bounded step_counted

pub filter_small : (c : Channel) → Small (filter_call c).answer
unfolding filter_call plainly filter
filter_small c =
    let e = smoothed c.N c.e in
    let v = smoothed_reduced c.N c.v in
    uncounted_small c _ (filter c)
    (bounded_then (ready c []) _ (ready_bounded c []) (λ x p. bounded_then (tried c e v) _ (tried_bounded c e v (few_of c [] x p)) (λ _ _. tt)))

-- how a run ended, and its count
pub record Few (most : ℕ) (it : Ran) : Type 0 where
  pub ending : (count : ℕ) → count ≤ most_steps → Small (ended count it.ending)
  pub count : it.count ≤ most

ends_small : (b : Bool) (count : ℕ) → count ≤ most_steps → Small (ended count (cond b whole paused))
unfolding ended
ends_small true count h = record { number = omega arith; stage = omega arith; place = omega arith; count = h }
ends_small false count h = record { number = omega arith; stage = omega arith; place = omega arith; count = h }

by_step : (left count : ℕ) (c : Channel) (o : Outcome Stepped) → step c (nothing c.N) ≡ o → Bounded o → ((d : Channel) → Few (suc count + left) (run_on left (suc count) d)) → Few (count + suc left) (run_on (suc left) count c)
unfolding ended
by_step left count c (refused r k) p g next =
    subst (Few (count + suc left)) (sym (ceased left count c r k p))
    (record { ending = λ n h. record { number = (number_within r).1; stage = g.0; place = g.1; count = h }; count = omega arith })
by_step left count c (done t) p g next =
    let w = next t.channel in
    subst (Few (count + suc left)) (sym (took left count c t p)) (record { ending = w.ending; count = omega (arith, w.count) })

steps_few : (left count : ℕ) (c : Channel) → Few (count + left) (run_on left count c)
unfolding run_on
steps_few zero count c = record { ending = ends_small (is_complete c); count = omega arith }
steps_few (suc left) count c = by_step left count c (step c (nothing c.N)) refl (step_bounded c (nothing c.N)) (steps_few left (suc count))

by_checks : (c : Channel) (left : ℕ) (m : Outcome (Unit {0})) → checked c [] ≡ m → Bounded m → left ≤ c.wanted - c.accepted → Small (ran c (m >>= λ _. done (run_on left 0 c))).answer
unfolding ran ◌>>=◌
by_checks c left (refused r k) e g h = refused_small r k g
by_checks c left (done u) e g h =
    let w = steps_few left 0 c in
    let a = allowed_of c [] (number_of_done (checked c []) u e) in
    w.ending (run_on left 0 c).count (omega (arith, w.count, a.counts.wanted_most))

pub run_small : (most : ℕ) (c : Channel) → Small (run_for_call most c).answer
unfolding run_for_call run_for fewer_of
run_small most c =
    let left = c.wanted - c.accepted in
    by_checks c (fewer_of most left) (checked c []) refl (checked_bounded c []) (fewer_fits most left)
