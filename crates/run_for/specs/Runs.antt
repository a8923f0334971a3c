-- Refusal numbers: a run as the answers of its steps make it. Assumes nothing.
use Rattle.std.specs.Prelude.{ℕ, zero, suc, ◌+◌, ◌-◌, ◌≤◌, ◌<◌, ◌≡◌, min, refl, Bool, true, false, cond, [], ◌∷◌, Ok, Err, ltb, pos, length, take, replicate}
use Rattle.std.proofs.Common.{suc-add, sym, ◌∙◌, ap, add-one, arith, ltb-true, lt-ltb, le-ltb}
use Rattle.std.proofs.Math.Decide.{dec_lt}
use Rattle.rule.specs.declared.Answer.{Answer}
use Rattle.rule.specs.Refusals.{Fault}
use Rattle.rule.specs.Rows.{Row}
use Rattle.rule.specs.Channel.{Channel, moved}
use Rattle.rule.specs.declared.Refusal.{Refusal}
use Rattle.rule.specs.Refusals.{met, Outcome, refused, done, ◌>>=◌}
use Rattle.rule.specs.Checks.{checked, is_complete}
use Rattle.rule.specs.Step.{Stepped, step}
use Rattle.rule.specs.Run.{Ending, Ran, whole, open_by, paused, run_on, run, run_for}
use Rattle.rule.specs.Calls.{Called, called, step_call, ended, ran, run_call, run_for_call}
use Rattle.rule.specs.Ranges.{most_cells, most_steps}
use Rattle.answers.specs.Stages.{leaves, early, stage_none}
use Rattle.answers.specs.Ends.{ending_of}
use Rattle.places.specs.Faults as faults
use Rattle.places.specs.Met.{met_done, met_number, met_refused}
use Rattle.checks.specs.Numbers.{number_not_0, numbered, refused_of_lem, Early}
use Rattle.checks.specs.Met.{checked_outside}
use Rattle.checks.specs.Allowed.{allowed_of}

-- nothing poured in n cells
abbrev pub nothing : ℕ → Row
nothing n = replicate n (pos 0)

-- all steps that are left, but at most `most`
unfoldable pub fewer_of : ℕ → ℕ → ℕ
fewer_of most left = cond (ltb most left) most left

-- what a run answers and leaves
unfoldable pub ran_of : Ran → Called Channel
ran_of it = record { answer = ended it.count it.ending; left = it.channel }

abbrev pub answer : Fault → ℕ → ℕ → Answer
answer fault stage count = record { number = fault.number; stage = stage; place = fault.place; count = count }

-- what an answer tells of a refusal
abbrev pub fault_in : Answer → Fault
fault_in r = record { number = r.number; place = r.place }

-- a step's answer tells how a run goes on
pub data Told (c : Channel) (left count : ℕ) (r : Answer) (after : Channel) : Type 0 where
  took : r.number ≡ 0 → run_on (suc left) count c ≡ run_on left (count + 1) after → Told c left count r after
  ceased : (r.number ≡ 0 → ⊥) → record { answer = answer (fault_in r) r.stage count; left = after } ≡ ran_of (run_on (suc left) count c) → Told c left count r after

by_outcome : (c : Channel) (left count : ℕ) (r : Answer) (after : Channel) (o : Outcome Stepped) → step c (nothing c.N) ≡ o → record { answer = r; left = after } ≡ called c (λ t. t.passes) (λ t. t.channel) o → Told c left count r after
unfolding called run_on ran_of ended
by_outcome c left count r after (refused why stage) p e =
    let f : fault_in r ≡ faults.told why = ap (λ k. fault_in k.answer) e in
    let s : r.stage ≡ stage = ap (λ k. k.answer.stage) e in
    let a : after ≡ c = ap (λ k. k.left) e in
    ceased (λ z. number_not_0 why (sym (numbered f) ∙ z)) (rw (run_on, p) (λ i. record { answer = answer (f i) (s i) count; left = a i }))
by_outcome c left count r after (done t) p e =
    let n : r.number ≡ 0 = ap (λ k. k.answer.number) e in
    let a : after ≡ t.channel = ap (λ k. k.left) e in
    took n (rw (run_on, p, add-one, a))

pub told : (c : Channel) (left count : ℕ) (r : Answer) (after : Channel) → record { answer = r; left = after } ≡ step_call c (nothing c.N) → Told c left count r after
unfolding step_call
told c left count r after e = by_outcome c left count r after (step c (nothing c.N)) refl e

-- however a run ends, its answer has its count
pub ended_count : (count : ℕ) (ending : Ending) → (ended count ending).count ≡ count
unfolding ended
ended_count count whole = refl
ended_count count (open_by r stage) = refl
ended_count count paused = refl

pub run_ended : (count : ℕ) (c : Channel) → leaves (ended count (ending_of c.accepted c.wanted)) c ≡ ran_of (run_on 0 count c)
unfolding ran_of run_on ending_of is_complete
run_ended count c = refl

-- the smaller of two numbers
pub fewer_most : (most left : ℕ) → most < left → most ≡ fewer_of most left
unfolding fewer_of
fewer_most most left h = rw (lt-ltb most left h)

pub fewer_left : (most left : ℕ) → left ≤ most → left ≡ fewer_of most left
unfolding fewer_of
fewer_left most left h = rw (le-ltb most left h)

min_by : (most left : ℕ) → Dec (most < left) → min most left ≡ fewer_of most left
min_by most left (yes h) = let e : min most left ≡ most = omega arith in e ∙ fewer_most most left h
min_by most left (no h) = let e : min most left ≡ left = omega arith in e ∙ fewer_left most left (omega arith)

pub min_fewer : (most left : ℕ) → min most left ≡ fewer_of most left
min_fewer most left = min_by most left (dec_lt most left)

by_test : (b : Bool) (most left : ℕ) → ltb most left ≡ b → cond b most left ≤ left
by_test true most left e = let h = ltb-true most left e in omega arith
by_test false most left e = omega arith

pub fewer_fits : (most left : ℕ) → fewer_of most left ≤ left
unfolding fewer_of
fewer_fits most left = by_test (ltb most left) most left refl

-- the channel of a run is refused, or its steps begin
pub run_refused : (most : ℕ) (c : Channel) (why : Refusal) → checked c [] ≡ refused why 0 → leaves (answer (faults.told why) 0 0) c ≡ run_for_call most c
unfolding run_for_call ran run_for ◌>>=◌
run_refused most c why e = rw e

pub run_goes : (most : ℕ) (c : Channel) → checked c [] ≡ done tt → ran_of (run_on (fewer_of most (c.wanted - c.accepted)) 0 c) ≡ run_for_call most c
unfolding run_for_call ran run_for ◌>>=◌ ran_of fewer_of
run_goes most c e = rw e

-- a run of at most all steps is a run
pub run_is : (c : Channel) → run_for_call c.wanted c ≡ run_call c
unfolding run_for_call run_call run_for run
run_is c = rw (le-ltb c.wanted (c.wanted - c.accepted) (omega arith))

take-replicate : (m k : ℕ) → take m (replicate (m + k) (pos 0)) ≡ replicate m (pos 0)
take-replicate zero k = refl
take-replicate (suc m) k = rw (suc-add m k) (ap (λ t. pos 0 ∷ t) (take-replicate m k))

-- the first n entries of an array that holds nothing
pub nothing_poured : (n : ℕ) → n ≤ most_cells → take n (replicate most_cells (pos 0)) ≡ nothing n
nothing_poured n h =
    let e : most_cells ≡ n + (most_cells - n) = omega arith in
    ap (λ k. take n (replicate k (pos 0))) e ∙ take-replicate n (most_cells - n)

-- a run whose channel is refused
pub run_early : (most : ℕ) (c : Channel) (r : Refusal) → Err r ≡ met (checked c []) → leaves (early (faults.told r)) c ≡ run_for_call most c
run_early most c r e =
    let y = refused_of_lem Early (faults.told r) (checked c []) (checked_outside c []) (met_refused _ r e) (number_not_0 r) in
    (λ i. leaves (answer (y.tells i) (stage_none _ y.such i) 0) c) ∙ run_refused most c y.why y.is

module _ (most : ℕ) (start : Channel) where
  abbrev pub now : ℕ → Row → Row → Row → Row → Row → Channel
  now accepted e u v q f = moved start accepted e u v q f

  -- a run of at most `most` steps from the channel `start`, with the rows at hand, `count` steps accepted and `left` to come
  pub record Running (accepted : ℕ) (e u v q f : Row) (count left : ℕ) : Type 0 where
    pub few : start.N ≤ most_cells
    pub counted : count + left ≤ most_steps
    pub e_long : length e ≡ length start.e
    pub u_long : length u ≡ length start.u
    pub v_long : length v ≡ length start.v
    pub q_long : length q ≡ length start.Q
    pub f_long : length f ≡ length start.F
    pub going : ran_of (run_on left count (now accepted e u v q f)) ≡ run_for_call most start

  module _ {accepted : ℕ} {e u v q f : Row} {count left : ℕ} (g : Running accepted e u v q f count left) where
    pub run_ends : left ≡ 0 → leaves (ended count (ending_of accepted start.wanted)) (now accepted e u v q f) ≡ run_for_call most start
    run_ends z = run_ended count (now accepted e u v q f) ∙ ap (λ k. ran_of (run_on k count (now accepted e u v q f))) (sym z) ∙ g.going

    -- one step more, with its answer r
    module _ (some : 0 < left) (r : Answer) (a : ℕ) (e' u' v' q' f' : Row) (p : leaves r (now a e' u' v' q' f') ≡ step_call (now accepted e u v q f) (nothing start.N)) where
      abbrev after : Channel
      after = now a e' u' v' q' f'

      unrolled : ran_of (run_on (suc (left - 1)) count (now accepted e u v q f)) ≡ run_for_call most start
      unrolled =
          let z : suc (left - 1) ≡ left = omega arith in
          ap (λ k. ran_of (run_on k count (now accepted e u v q f))) z ∙ g.going

      stops : Told (now accepted e u v q f) (left - 1) count r after → (r.number ≡ 0 → ⊥) → leaves (answer (fault_in r) r.stage count) after ≡ run_for_call most start
      stops (took z w) d = absurd (d z)
      stops (ceased z w) d = w ∙ unrolled

      pub run_stops : (r.number ≡ 0 → ⊥) → leaves (answer (fault_in r) r.stage count) after ≡ run_for_call most start
      run_stops = stops (told (now accepted e u v q f) (left - 1) count r after p)

      goes : Told (now accepted e u v q f) (left - 1) count r after → r.number ≡ 0 → ran_of (run_on (left - 1) (count + 1) after) ≡ run_for_call most start
      goes (took z w) d = ap ran_of (sym w) ∙ unrolled
      goes (ceased z w) d = absurd (z d)

      pub run_on_lem : r.number ≡ 0 → length e' ≡ length e → length u' ≡ length u → length v' ≡ length v → length q' ≡ length q → length f' ≡ length f → Running a e' u' v' q' f' (count + 1) (left - 1)
      run_on_lem d p₁ p₂ p₃ p₄ p₅ =
          record {
            few = g.few;
            counted = omega (arith, g.counted);
            e_long = p₁ ∙ g.e_long;
            u_long = p₂ ∙ g.u_long;
            v_long = p₃ ∙ g.v_long;
            q_long = p₄ ∙ g.q_long;
            f_long = p₅ ∙ g.f_long;
            going = goes (told (now accepted e u v q f) (left - 1) count r after p) d;
          }

pub run_starts : (most : ℕ) (c : Channel) {a : Unit {0}} → Ok a ≡ met (checked c []) → Running most c c.accepted c.e c.u c.v c.Q c.F 0 (fewer_of most (c.wanted - c.accepted))
run_starts most c e =
    let a = allowed_of c [] (met_number (checked c []) _ e) in
    record {
      few = a.cells.most;
      counted = omega (arith, fewer_fits most (c.wanted - c.accepted), a.counts.wanted_most);
      e_long = refl;
      u_long = refl;
      v_long = refl;
      q_long = refl;
      f_long = refl;
      going = run_goes most c (met_done (checked c []) _ e);
    }

pub run_room : (c : Channel) {a : Unit {0}} → Ok a ≡ met (checked c []) → c.accepted ≤ c.wanted
run_room c e = (allowed_of c [] (met_number (checked c []) _ e)).counts.accepted_most
