-- A step as a call: the checks of its input, then its stages. Assumes nothing.
use Rattle.std.specs.Prelude.{ℕ, suc, ◌-◌, ◌≤◌, ◌<◌, ◌≡◌, [], ◌∷◌, Result, Ok, Err, IfOk, IfErr, OnOk}
use Rattle.std.proofs.Math.Path.{refl}
use Rattle.std.proofs.Common.{sym, ◌∙◌, arith, eq-eqb, ne_eqb}
use Rattle.rule.specs.Rows.{Row}
use Rattle.rule.specs.Channel.{Channel, channel, pushed}
use Rattle.rule.specs.declared.Refusal.{Refusal}
use Rattle.rule.specs.declared.Refusal.TheVariants.{Complete}
use Rattle.rule.specs.Refusals.{Outcome, refused, done, number, ◌>>=◌, require, met}
use Rattle.rule.specs.Checks.{checked, is_complete, ready}
use Rattle.rule.specs.Step as rule
use Rattle.rule.specs.Calls.{called, step_call}
use Rattle.places.specs.Met.{met_done, met_number}
use Rattle.places.specs.Faults.{told}
use Rattle.answers.specs.Stages.{leaves, stage_of, stage_none, refusal, acceptance}
use Rattle.checks.specs.Numbers.{Early, Outside}
use Rattle.checks.specs.Met.{checked_outside}
use Rattle.checks.specs.Allowed.{Allowed, allowed_of, poured_of}
use Rattle.stage.specs.Asked.{Staging}
use Rattle.stage.specs.Kept.{Kept}
use Rattle.rows.specs.Firsts.{firsts}
use Rattle.advance.specs.declared.Advanced.{Advanced}
use Rattle.advance.specs.declared.Stopped.{Stopped}
use Rattle.advance.specs.Steps.{stages}
use Rattle.advance.specs.Advance.{outcome_of, AtStage, Advances}

-- r is how a step on c with s poured ends, and its trial fits the rows of c
pub record Attempted (c : Channel) (s : Row) (r : Result Advanced Stopped) : Type 0 where
  pub is : outcome_of c r ≡ rule.step c s
  pub at_stage : IfErr r AtStage
  pub kept : IfOk r (λ a. Kept c.N a.trial)
  pub allowed : OnOk r (Allowed c)
  pub more : OnOk r (c.accepted < c.wanted)

-- a check that is refused
outside_refused : (m : Outcome (Unit {0})) → Outside m → (r : Refusal) → Err r ≡ met m → (m ≡ refused r 0) × Early (number r)
unfolding met
outside_refused (refused q k) h r e = let z : r ≡ q = cc e in rw z ((λ i. refused q (h.0 i)), h.1)
outside_refused (done a) h r e = cc e

on_ok : {A B P : Type 0} (r : Result A B) → P → OnOk r P
on_ok (Ok a) p = p
on_ok (Err b) p = tt

module _ (c : Channel) (s : Row) where
  -- what ends a step before its stages
  stopped : (r : Refusal) → rule.step c s ≡ refused r 0 → Early (number r) → Attempted c s (Err (record { refusal = r; stage = 0 }))
  stopped r e h = record { is = sym e; at_stage = stage_none (number r) h; kept = tt; allowed = tt; more = tt }

  pub attempt_checked : (r : Refusal) → Err r ≡ met (checked c (s ∷ [])) → Attempted c s (Err (record { refusal = r; stage = 0 }))
  unfolding rule.step ready ◌>>=◌
  attempt_checked r e =
      let y = outside_refused (checked c (s ∷ [])) (checked_outside c (s ∷ [])) r e in
      stopped r (rw y.0) y.1

  module _ (x : Unit {0}) (e : Ok x ≡ met (checked c (s ∷ []))) where
    passed : checked c (s ∷ []) ≡ done x
    passed = met_done (checked c (s ∷ [])) x e

    pub attempt_complete : c.accepted ≡ c.wanted → Attempted c s (Err (record { refusal = Complete; stage = 0 }))
    unfolding rule.step ready is_complete number require ◌>>=◌
    attempt_complete d =
        let z = eq-eqb c.accepted c.wanted d in
        stopped Complete (rw (passed, z)) refl

    allowed : Allowed c
    allowed = allowed_of c (s ∷ []) (met_number (checked c (s ∷ [])) x e)

    -- what the stages ask
    pub stages_ask : Staging c s
    stages_ask =
        let a = allowed in
        let p = poured_of c s (met_number (checked c (s ∷ [])) x e) in
        record {
          least = a.cells.least;
          most = a.cells.most;
          narrow = a.counts.X_least;
          wide = a.counts.X_most;
          brief = a.counts.T_most;
          h_long = omega (arith, a.cells.h_long);
          e_long = omega (arith, a.cells.e_long);
          v_long = omega (arith, a.levels.v_long);
          q_long = omega (arith, a.levels.Q_long);
          f_long = omega (arith, a.levels.F_long);
          damping_long = omega (arith, a.damping.long);
          s_long = omega (arith, p.s_long);
          h_small = a.cells.h_small;
          e_small = a.cells.e_small;
          v_small = a.levels.v_small;
          q_small = a.levels.Q_small;
          f_small = a.levels.F_small;
          damping_small = a.damping.small;
          s_small = p.s_small;
        }

    pub attempt_goes : {r : Result Advanced Stopped} → (c.accepted ≡ c.wanted → ⊥) → Advances c s r → Attempted c s r
    unfolding rule.step ready is_complete require stages ◌>>=◌
    attempt_goes {r} d g =
        let z = ne_eqb c.accepted c.wanted d in
        let l : c.accepted ≤ c.wanted = allowed.counts.accepted_most in
        record {
          is = g.is ∙ rw (passed, z);
          at_stage = g.at_stage;
          kept = g.kept;
          allowed = on_ok r allowed;
          more = on_ok r (omega (arith, l, d));
        }

pub step_refused : {c : Channel} {s : Row} {t : Stopped} → Attempted c s (Err t) → leaves (refusal (told t.refusal) (stage_of (number t.refusal) t.stage)) c ≡ step_call c s
unfolding step_call called
step_refused {c} {s} {t} g = rw (← g.is) (rw g.at_stage)

module _ {n x t accepted wanted : ℕ} {h e u v q f damping s : Row} {a : Advanced} (g : Attempted (channel n x t accepted wanted h e u v q f damping) s (Ok a)) where
  -- with the rows as they were stored
  pub step_accepted : (k : ℕ) (e' u' v' q' f' : Row) → k ≡ suc accepted → e' ≡ firsts n a.trial.e → u' ≡ firsts n a.trial.u → v' ≡ firsts n a.trial.v → q' ≡ pushed (n - 1) (firsts (n - 1) a.trial.q) q → f' ≡ pushed n (firsts n a.trial.f) f → leaves (acceptance a.count) (channel n x t k wanted h e' u' v' q' f' damping) ≡ step_call (channel n x t accepted wanted h e u v q f damping) s
  unfolding rule.accept step_call called
  step_accepted k e' u' v' q' f' p₀ p₁ p₂ p₃ p₄ p₅ =
      (λ i. leaves (acceptance a.count) (channel n x t (p₀ i) wanted h (p₁ i) (p₂ i) (p₃ i) (p₄ i) (p₅ i) damping))
      ∙ rw (← g.is) refl
