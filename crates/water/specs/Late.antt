-- Refusal numbers: X, T and the depths stay, so that a channel which passed the input checks never meets 26 later, whatever is called on it. Assumes nothing.
use Rattle.std.specs.Prelude.{ℕ, zero, suc, ◌≡◌, Bool, true, false, cond, List, [], ◌∷◌, eqb, pos, replicate}
use Rattle.std.proofs.Math.Path.{refl}
use Rattle.rule.specs.Rows.{Row}
use Rattle.rule.specs.Channel.{Channel}
use Rattle.rule.specs.declared.Refusal.TheVariants.{Shape, CountValue, DepthValue, HeightValue, VelocityValue, ReducedValue, FluxValue, AccelerationValue, DampingValue, PouredValue, Depth, Dominance, Pivot, Speed, Height, Flux, Complete}
use Rattle.rule.specs.Refusals.{number, Outcome, refused, done, number_of, ◌>>=◌, at}
use Rattle.rule.specs.Flux.{fluxes}
use Rattle.rule.specs.Solve.{solve}
use Rattle.rule.specs.Checks.{deep, timed, wet, pourable, allowed, checked, is_complete, ready}
use Rattle.rule.specs.Step.{Trial, Stepped, tried, stage, prediction, correction, settled, corrections, step}
use Rattle.rule.specs.Filter.{filter}
use Rattle.rule.specs.Run.{whole, paused, run_on, run, run_for}
use Rattle.rule.specs.Calls.{called, plainly, ended, ran, step_call, filter_call, run_call, run_for_call}
use Rattle.checks.specs.Numbers.{Meets, meets_then, meets_last, meets_test, meets_each, meets_levels}
use Rattle.checks.specs.Allowed.{allowed_of}
use Rattle.water.specs.Again.{step_passes}

-- another number than 26
abbrev pub Timely : ℕ → Type 0
Timely n = eqb n 26 ≡ false

-- a refusal by another number, at whatever stage
abbrev pub InTime : ℕ → ℕ → Type 0
InTime n k = Timely n

abbrev pub Refuses : {A : Type 0} → Outcome A → Type 0
Refuses m = Meets InTime m

refuses_at : {A : Type 0} (k : ℕ) (m : Outcome A) → Refuses m → Refuses (at k m)
unfolding at
refuses_at k (refused r j) h = h
refuses_at k (done a) h = tt

refuses_cond : {A : Type 0} (b : Bool) (x y : Outcome A) → Refuses x → Refuses y → Refuses (cond b x y)
refuses_cond true x y p q = p
refuses_cond false x y p q = q

deep_timely : (n : ℕ) (h e : Row) → Refuses (deep n h e)
unfolding deep number
deep_timely n h e = meets_each InTime _ _ Depth (λ j. refl)

pours_timely : (poured : List Row) → Refuses (pourable poured)
unfolding pourable number
pours_timely [] = tt
pours_timely (s ∷ more) = meets_then InTime _ _ (meets_each InTime _ s PouredValue (λ j. refl)) (λ _. pours_timely more)

-- what a stage is refused by
tried_timely : (c : Channel) (e v : Row) → Refuses (tried c e v)
unfolding tried solve fluxes number
tried_timely c e v =
    meets_test InTime _ Height _ refl
    (meets_then InTime _ _ (deep_timely c.N c.h e) (λ _.
    meets_test InTime _ Speed _ refl
    (meets_then InTime _ _ (meets_test InTime _ Pivot _ refl (meets_test InTime _ Speed _ refl tt)) (λ u.
    meets_then InTime _ _ (meets_test InTime _ Flux _ refl tt) (λ Q. tt)))))

corrections_timely : (c : Channel) (s : Row) (left k : ℕ) (old : Trial) → Refuses (corrections c s left k old)
unfolding corrections correction stage number
corrections_timely c s zero k old = refl
corrections_timely c s (suc left) k old =
    meets_then InTime _ _ (refuses_at k (correction c s old) (tried_timely c _ _)) (λ new.
    refuses_cond (settled c.N new old) _ _ tt (corrections_timely c s left (suc k) new))

-- a channel whose time step is allowed
abbrev pub Paced : Channel → Type 0
Paced c = timed c.N c.X c.T c.h ≡ done tt

module _ (c : Channel) (paced : Paced c) where
  pace_timely : Refuses (timed c.N c.X c.T c.h)
  pace_timely = rw paced tt

  -- what the input checks refuse it by, whatever is poured
  pub allowed_timely : (poured : List Row) → Refuses (allowed c poured)
  unfolding allowed wet number
  allowed_timely poured =
      meets_test InTime _ CountValue _ refl
      (meets_then InTime _ _ (meets_each InTime _ c.h DepthValue (λ j. refl)) (λ _.
      meets_then InTime _ _ (meets_each InTime _ c.e HeightValue (λ j. refl)) (λ _.
      meets_then InTime _ _ (meets_each InTime _ c.u VelocityValue (λ j. refl)) (λ _.
      meets_then InTime _ _ (meets_each InTime _ c.v ReducedValue (λ j. refl)) (λ _.
      meets_then InTime _ _ (meets_levels InTime _ _ c.Q FluxValue (λ j. refl)) (λ _.
      meets_then InTime _ _ (meets_levels InTime _ _ c.F AccelerationValue (λ j. refl)) (λ _.
      meets_then InTime _ _ (meets_each InTime _ c.damping DampingValue (λ j. refl)) (λ _.
      meets_then InTime _ _ (pours_timely poured) (λ _.
      meets_then InTime _ _ (deep_timely c.N c.h c.e) (λ _.
      meets_then InTime _ _ pace_timely (λ _.
      meets_each InTime _ _ Dominance (λ j. refl))))))))))))

  checked_timely : (poured : List Row) → Refuses (checked c poured)
  unfolding checked number
  checked_timely poured = meets_test InTime _ Shape _ refl (allowed_timely poured)

  ready_timely : (poured : List Row) → Refuses (ready c poured)
  unfolding ready number
  ready_timely poured = meets_then InTime (checked c poured) _ (checked_timely poured) (λ _. meets_last InTime _ Complete refl)

  step_refuses : (s : Row) → Refuses (step c s)
  unfolding step prediction stage
  step_refuses s =
      meets_then InTime (ready c (s ∷ [])) _ (ready_timely (s ∷ [])) (λ _.
      meets_then InTime (prediction c s) _ (tried_timely c _ _) (λ t. corrections_timely c s 10 1 t))

  filter_refuses : Refuses (filter c)
  unfolding filter
  filter_refuses =
      meets_then InTime (ready c []) _ (ready_timely []) (λ _.
      meets_then InTime _ _ (tried_timely c _ _) (λ _. tt))

-- the number of a call's answer
called_timely : {A B : Type 0} (lent : A) (count : B → ℕ) (after : B → A) (o : Outcome B) → Refuses o → Timely (called lent count after o).answer.number
unfolding called
called_timely lent count after (refused r k) h = h
called_timely lent count after (done b) h = refl

-- of a channel that passed the input checks
pub paced_of : (c : Channel) (poured : List Row) → number_of (checked c poured) ≡ 0 → Paced c
paced_of c poured z = (allowed_of c poured z).wet.timed

pub step_timely : (c : Channel) (s : Row) → number_of (checked c []) ≡ 0 → Timely (step_call c s).answer.number
unfolding step_call
step_timely c s z = called_timely c _ _ (step c s) (step_refuses c (paced_of c [] z) s)

pub filter_timely : (c : Channel) → number_of (checked c []) ≡ 0 → Timely (filter_call c).answer.number
unfolding filter_call plainly
filter_timely c z = called_timely c _ _ (filter c) (filter_refuses c (paced_of c [] z))

-- a run, step by step
ends_timely : (count : ℕ) (b : Bool) → Timely (ended count (cond b whole paused)).number
unfolding ended
ends_timely count true = refl
ends_timely count false = refl

by_step : (left count : ℕ) (c : Channel) (o : Outcome Stepped) → step c (replicate c.N (pos 0)) ≡ o → Refuses o → ((d : Channel) → number_of (checked d []) ≡ 0 → (n : ℕ) → Timely (ended n (run_on left (suc count) d).ending).number) → (n : ℕ) → Timely (ended n (run_on (suc left) count c).ending).number
unfolding run_on ended
by_step left count c (refused r k) p h next n = rw (run_on, p) h
by_step left count c (done t) p h next n = rw (run_on, p) (next t.channel (step_passes c (replicate c.N (pos 0)) t p) n)

steps_timely : (left count : ℕ) (c : Channel) → number_of (checked c []) ≡ 0 → (n : ℕ) → Timely (ended n (run_on left count c).ending).number
unfolding run_on
steps_timely zero count c z n = ends_timely n (is_complete c)
steps_timely (suc left) count c z n =
    by_step left count c (step c (replicate c.N (pos 0))) refl (step_refuses c (paced_of c [] z) (replicate c.N (pos 0))) (steps_timely left (suc count)) n

by_checks : (left : ℕ) (c : Channel) (m : Outcome (Unit {0})) → Refuses m → number_of (checked c []) ≡ 0 → Timely (ran c (m >>= λ _. done (run_on left 0 c))).answer.number
unfolding ran ◌>>=◌
by_checks left c (refused r k) h z = h
by_checks left c (done u) h z = steps_timely left 0 c z (run_on left 0 c).count

pub run_timely : (c : Channel) → number_of (checked c []) ≡ 0 → Timely (run_call c).answer.number
unfolding run_call run
run_timely c z = by_checks _ c (checked c []) (checked_timely c (paced_of c [] z) []) z

pub run_for_timely : (most : ℕ) (c : Channel) → number_of (checked c []) ≡ 0 → Timely (run_for_call most c).answer.number
unfolding run_for_call run_for
run_for_timely most c z = by_checks _ c (checked c []) (checked_timely c (paced_of c [] z) []) z
