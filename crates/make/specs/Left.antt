-- Making, stepping, filtering: what the call make answers, and what it leaves in the lent rows. Assumes nothing.
use Rattle.std.specs.Prelude.{ℕ, ◌-◌, ◌≤◌, ◌≡◌, Bool, true, false, ◌&&◌, length, Result, Ok, Err}
use Rattle.std.proofs.Math.Path.{refl, sym, ap}
use Rattle.std.proofs.Common.{◌∙◌, arith}
use Rattle.whole.specs.Row.{length_tab}
use Rattle.rule.specs.Rounded.{rounded_float}
use Rattle.rule.specs.Rows.{Row}
use Rattle.rule.specs.Ranges.{cells_allowed, most_cells}
use Rattle.rule.specs.Channel.{Channel, moved, channel, filled, renewed, rows}
use Rattle.rule.specs.declared.Answer.{Answer}
use Rattle.rule.specs.declared.Counts.{Counts}
use Rattle.rule.specs.declared.Left.{Left}
use Rattle.rule.specs.declared.Refusal.{Refusal}
use Rattle.rule.specs.declared.Refusal.TheVariants.{Shape, Speed, Flux}
use Rattle.rule.specs.Refusals.{number, Outcome, refused, done, number_of, ◌>>=◌, require, met_as}
use Rattle.rule.specs.Flux.{fluxes}
use Rattle.rule.specs.Acceleration.{accelerations}
use Rattle.rule.specs.Make.{make_checked, make, reduced_velocities}
use Rattle.rule.specs.Calls.{plainly, fit, make_call}
use Rattle.rows.specs.All.{map_tab}
use Rattle.rows.specs.Firsts.{firsts, firsts_padded}
use Rattle.flux.specs.Faces.{length-fluxes}
use Rattle.dispersion.specs.Sizes.{length-accelerations}
use Rattle.places.specs.Faults.{told}
use Rattle.places.specs.Met.{as_refused, as_done}
use Rattle.checks.specs.Numbers.{number_of_done, passed, first_done, Outside, refuses_then, refuses_test, Early}
use Rattle.checks.specs.Met.{make_checked_outside}
use Rattle.checks.specs.Tests.{both}
use Rattle.checks.specs.Facts.{lengths_of, LengthsOf}
use Rattle.checks.specs.Made.{Makeable, makeable_of, make_is}
use Rattle.answers.specs.Stages.{leaves, early, acceptance, refused_met, accepted_call}
use Rattle.store.specs.Levels.{renewed_all}
use Rattle.work_out.specs.declared.Made.{Made}
use Rattle.work_out.specs.Made.{made_of, rows_of, rows_kept, whole_of}

-- of a call that counts nothing, its answer; and with the count of accepted steps that make leaves
abbrev pub answer_by : Result (Unit {0}) Refusal → Answer
answer_by (Ok a) = acceptance 0
answer_by (Err r) = early (told r)

abbrev pub left_by : Counts → Result (Unit {0}) Refusal → Left
left_by c (Ok a) = record { answer = acceptance 0; accepted = 0 }
left_by c (Err r) = record { answer = early (told r); accepted = c.accepted }

-- what make makes of a channel whose rows are lent
unfoldable pub fitted : Channel → Outcome Channel
fitted lent =
    require (fit lent lent.N) Shape >>= λ _. make lent.N lent.X lent.T lent.wanted lent.h lent.e lent.u lent.damping

-- a refusal of make has stage 0
make_outside : (n X T wanted : ℕ) (h e u damping : Row) → Outside (make n X T wanted h e u damping)
unfolding make reduced_velocities fluxes number
make_outside n X T wanted h e u damping =
    refuses_then Early (make_checked n X T wanted h e u damping) _ (make_checked_outside n X T wanted h e u damping)
    (λ _. refuses_then Early (reduced_velocities n X h u) _ (refuses_test Early _ Speed _ refl tt)
    (λ v. refuses_then Early (fluxes n X h e u) _ (refuses_test Early _ Flux _ refl tt) (λ Q. tt)))

fitted_outside : (lent : Channel) → Outside (fitted lent)
unfolding fitted number
fitted_outside lent = refuses_test Early (fit lent lent.N) Shape _ refl (make_outside lent.N lent.X lent.T lent.wanted lent.h lent.e lent.u lent.damping)

make_unfit : (n X T wanted : ℕ) (h e u damping : Row) → cells_allowed n ≡ false → make n X T wanted h e u damping ≡ refused Shape 0
unfolding make make_checked require ◌>>=◌
make_unfit n X T wanted h e u damping z = rw z

-- the test of the lengths, before the rest
unfit_by : {A B : Type 0} (f : A → B) (a b : Bool) (m : Outcome A) → (a ≡ false → m ≡ refused Shape 0) → a && b ≡ false → Err Shape ≡ met_as f (require b Shape >>= λ _. m)
unfolding require ◌>>=◌ met_as
unfit_by f a false m p z = refl
unfit_by f false true m p z = rw (p refl)
unfit_by f true true m p z = cc z

went : (b : Bool) (new row : Row) → (require b Speed >>= λ _. done row) ≡ done new → new ≡ row
unfolding require ◌>>=◌
went true new row p = cc p
went false new row p = let y : ◌≡◌ {A = ℕ} 0 1 = cc p in absurd (omega arith)

length_velocities : (n X : ℕ) (h u v : Row) → reduced_velocities n X h u ≡ done v → length v ≡ n
unfolding reduced_velocities
length_velocities n X h u v e = ap length (went _ v _ e ∙ map_tab rounded_float n _) ∙ length_tab n _

-- the ways out, with r what was worked out from the lent channel
module _ (lent : Channel) where
  abbrev made : Outcome Channel
  made = make lent.N lent.X lent.T lent.wanted lent.h lent.e lent.u lent.damping

  -- the lengths of the lent rows are not a channel's, or they are
  pub unfit : cells_allowed lent.N && fit lent lent.N ≡ false → Err Shape ≡ met_as (made_of lent.N) (fitted lent)
  unfolding fitted
  unfit z = unfit_by (made_of lent.N) (cells_allowed lent.N) (fit lent lent.N) made (make_unfit lent.N lent.X lent.T lent.wanted lent.h lent.e lent.u lent.damping) z

  fits : fit lent lent.N ≡ true → made ≡ fitted lent
  unfolding fitted require ◌>>=◌
  fits z = rw z

  pub goes_on : (r : Result Made Refusal) → r ≡ met_as (made_of lent.N) made → cells_allowed lent.N && fit lent lent.N ≡ true → r ≡ met_as (made_of lent.N) (fitted lent)
  goes_on r e z = e ∙ ap (met_as (made_of lent.N)) (fits (both (cells_allowed lent.N) (fit lent lent.N) z).1)

  call_is : plainly lent (fitted lent) ≡ make_call lent
  unfolding make_call fitted
  call_is = refl

  pub refused_by : (r : Refusal) → Err r ≡ met_as (made_of lent.N) (fitted lent) → leaves (early (told r)) lent ≡ make_call lent
  unfolding plainly
  refused_by r e = refused_met lent (λ _. 0) (λ c. c) (fitted lent) (fitted_outside lent) r (as_refused (made_of lent.N) (fitted lent) r e) ∙ call_is

  -- what is stored, and where
  pub record Storing (r : Made) : Type 0 where
    pub least : 1 ≤ lent.N
    pub most : lent.N ≤ most_cells
    pub long : LengthsOf lent
    pub stored :
        leaves (acceptance 0) (moved lent 0 lent.e lent.u (renewed lent.N (firsts lent.N r.v) lent.v) (filled (firsts (lent.N - 1) r.q)) (filled (firsts lent.N r.f))) ≡ make_call lent

  long_of : fit lent lent.N ≡ true → LengthsOf lent
  unfolding fit rows
  long_of t = lengths_of _ _ _ _ _ _ _ _ t

  pub storing : (r : Made) → Ok r ≡ met_as (made_of lent.N) (fitted lent) → Storing r
  unfolding fitted plainly
  storing r is =
      let n = lent.N in
      let X = lent.X in
      let T = lent.T in
      let wanted = lent.wanted in
      let h = lent.h in
      let e = lent.e in
      let u = lent.u in
      let damping = lent.damping in
      let k = as_done (made_of n) (fitted lent) r is in
      let p = passed (fit lent n) Shape (λ _. made) (number_of_done (fitted lent) k.result k.is) in
      let w = whole_of n X T wanted h e u damping p.1 in
      let few : Makeable n X T wanted h e u damping = makeable_of n X T wanted h e u damping (first_done (make_checked n X T wanted h e u damping) _ (ap number_of (sym (make_is n X T wanted h e u damping)) ∙ p.1)) in
      let long = long_of p.0 in
      let same : Ok r ≡ Ok (rows_of n w.v w.Q (accelerations n X e u damping)) = is ∙ ap (met_as (made_of n)) (sym (fits p.0)) ∙ sym (rows_kept n X T wanted h e u damping w) in
      let one : r ≡ rows_of n w.v w.Q (accelerations n X e u damping) = cc same in
      let v_is : renewed n (firsts n r.v) lent.v ≡ w.v =
      renewed_all n (firsts n r.v) lent.v long.v_long
      ∙ ap (λ (t : Made). firsts n t.v) one
      ∙ firsts_padded n w.v (length_velocities n X h u w.v w.v_done) in
      let Q_is : firsts (n - 1) r.q ≡ w.Q =
      ap (λ (t : Made). firsts (n - 1) t.q) one ∙ firsts_padded (n - 1) w.Q (length-fluxes n X h e u w.Q w.Q_done) in
      let F_is : firsts n r.f ≡ accelerations n X e u damping =
      ap (λ (t : Made). firsts n t.f) one ∙ firsts_padded n (accelerations n X e u damping) (length-accelerations n X e u damping) in
      record {
        least = omega (arith, few.cells.least);
        most = few.cells.most;
        long = long;
        stored =
            (λ i. leaves (acceptance 0) (channel n X T 0 wanted h e u (v_is i) (filled (Q_is i)) (filled (F_is i)) damping))
            ∙ accepted_call lent (λ _. 0) (λ c. c) (fitted lent) _ (sym (fits p.0) ∙ w.is) ∙ call_is;
      }
