-- Making, stepping, filtering: the stages of a step one after the other, as trials in arrays, and where they end. Assumes nothing.
use Rattle.std.specs.Prelude.{ℕ, suc, ◌+◌, ◌-◌, ◌≤◌, ◌<◌, ◌≡◌, true, false, Result, Ok, Err, IfOk, IfErr}
use Rattle.std.proofs.Math.Path.{refl}
use Rattle.std.proofs.Common.{sym, ◌∙◌, ap, add-one, arith}
use Rattle.whole.specs.Row.{length_tab, Within}
use Rattle.rule.specs.Rows.{Row}
use Rattle.rule.specs.Ranges.{most_height, most_velocity, most_flux, most_acceleration, most_damping, least_cells, most_cells, least_width}
use Rattle.rule.specs.Channel.{Channel}
use Rattle.rule.specs.declared.Refusal.{Refusal}
use Rattle.rule.specs.declared.Refusal.TheVariants.{Unsettled}
use Rattle.rule.specs.Refusals.{Outcome, refused, done, number, met_as}
use Rattle.rule.specs.Step as rule
use Rattle.motion.specs.Asked.{Settling}
use Rattle.stage.specs.declared.Trial.{Trial}
use Rattle.stage.specs.Trials.{trial_of, rows_of}
use Rattle.stage.specs.Asked.{Before}
use Rattle.stage.specs.Stages.{Sound, tried_sound}
use Rattle.checks.specs.Numbers.{Met}
use Rattle.stage.specs.Met.{tried_met}
use Rattle.stage.specs.Kept.{Kept, Returned, returned, why_refused, within_array}
use Rattle.answers.specs.Stages.{stage_of, stage_met, stage_last}
use Rattle.advance.specs.declared.Advanced.{Advanced}
use Rattle.advance.specs.declared.Stopped.{Stopped}
use Rattle.advance.specs.Steps.{stages, stages_refused, stages_done, correction_refused, correction_settled, correction_not, corrections_end}

-- the outcome of a step on c, as the code has it
abbrev pub outcome_of : Channel → Result Advanced Stopped → Outcome rule.Stepped
outcome_of c (Ok a) = done (record { channel = rule.accept c (rows_of c.N a.trial); passes = a.count })
outcome_of c (Err t) = refused t.refusal t.stage

-- what is answered, with the step that is left where it is accepted
abbrev pub left_in : Result (Unit {0}) Stopped → Advanced → Result Advanced Stopped
left_in (Ok x) a = Ok a
left_in (Err t) a = Err t

-- a refusal is met at its stage
abbrev pub AtStage : Stopped → Type 0
AtStage t = stage_of (number t.refusal) t.stage ≡ t.stage

-- what a correction asks of the trial before
pub before_of : {n : ℕ} {t : Trial} → n ≤ most_cells → Kept n t → Before n t.q t.f
before_of {n} {t} most k =
    record {
      q_long = omega (arith, k.q_full);
      f_long = omega (arith, k.f_full);
      q_small = within_array most_flux (n - 1) t.q k.sound.Q_small;
      f_small = within_array most_acceleration n t.f k.sound.F_small;
    }

-- what the test of having settled asks of two trials
pub settles_asks : {n : ℕ} → n ≤ most_cells → (new old : Trial) → Kept n new → Kept n old → Settling n new.e old.e × Settling n new.u old.u
settles_asks {n} most new old a b = (
  record {
    most = most;
    new_long = omega (arith, a.e_full);
    old_long = omega (arith, b.e_full);
    new_small = within_array most_height n new.e a.sound.e_small;
    old_small = within_array most_height n old.e b.sound.e_small;
  },
  record {
    most = most;
    new_long = omega (arith, a.u_full);
    old_long = omega (arith, b.u_full);
    new_small = within_array most_velocity n new.u a.sound.u_small;
    old_small = within_array most_velocity n old.u b.sound.u_small;
  },
)

module _ (c : Channel) (s : Row) where
  -- r is how the stages end
  pub record Advances (r : Result Advanced Stopped) : Type 0 where
    pub is : outcome_of c r ≡ stages c s
    pub kept : IfOk r (λ a. Kept c.N a.trial)
    pub at_stage : IfErr r AtStage

  -- with correction k next, after the trial old
  pub record Going (k : ℕ) (old : Trial) : Type 0 where
    pub kept : Kept c.N old
    pub is : rule.corrections c s (11 - k) k (rows_of c.N old) ≡ stages c s

  stage_refuses : (w : rule.Weights) (q f : Row) → Met 4 9 (rule.stage c s w q f)
  unfolding rule.stage
  stage_refuses w q f = tried_met c _ _

  -- the prediction
  pub predicted_refused : (r : Refusal) → Err r ≡ met_as (trial_of c.N) (rule.prediction c s) → Advances (Err (record { refusal = r; stage = 0 }))
  unfolding rule.prediction
  predicted_refused r e =
      let y = why_refused c.N (rule.prediction c s) (stage_refuses _ _ _) r e in
      record { is = stages_refused c s r y.0; kept = tt; at_stage = stage_met (number r) 0 y.1.0 y.1.1 }

  module _ (least : least_cells ≤ c.N) (most : c.N ≤ most_cells) (wide : least_width ≤ c.X) (dampings : Within most_damping c.N c.damping) where
    stage_sound : (w : rule.Weights) (q f : Row) (z : rule.Trial) → rule.stage c s w q f ≡ done z → Sound c.N z
    unfolding rule.stage rule.raised rule.hastened
    stage_sound w q f z p = tried_sound c _ _ z least wide (length_tab c.N _) (length_tab c.N _) dampings p

    pub predicted : (t : Trial) → Ok t ≡ met_as (trial_of c.N) (rule.prediction c s) → Going 1 t
    unfolding rule.prediction
    predicted t e =
        let y = returned c.N most (rule.prediction c s) (stage_sound _ _ _) t e in
        record { kept = y.kept; is = stages_done c s (rows_of c.N t) y.is }

    -- a correction
    module _ (k : ℕ) (few : k ≤ 10) (old : Trial) (w : Going k old) where
      -- the corrections that are left, this one and those after it
      unrolled : rule.corrections c s (suc (10 - k)) k (rows_of c.N old) ≡ stages c s
      unrolled = let z : suc (10 - k) ≡ 11 - k = omega arith in ap (λ i. rule.corrections c s i k (rows_of c.N old)) z ∙ w.is

      pub corrected_refused : (r : Refusal) → Err r ≡ met_as (trial_of c.N) (rule.correction c s (rows_of c.N old)) → Advances (Err (record { refusal = r; stage = k }))
      unfolding rule.correction
      corrected_refused r e =
          let y = why_refused c.N (rule.correction c s (rows_of c.N old)) (stage_refuses _ _ _) r e in
          record { is = correction_refused c s (10 - k) k (rows_of c.N old) r y.0 ∙ unrolled; kept = tt; at_stage = stage_met (number r) k y.1.0 y.1.1 }

      module _ (new : Trial) (e : Ok new ≡ met_as (trial_of c.N) (rule.correction c s (rows_of c.N old))) where
        pub corrected : Returned c.N new (rule.correction c s (rows_of c.N old))
        unfolding rule.correction
        corrected = returned c.N most (rule.correction c s (rows_of c.N old)) (stage_sound _ _ _) new e

        pub corrected_settled : rule.settled c.N (rows_of c.N new) (rows_of c.N old) ≡ true → Advances (Ok (record { count = k; trial = new }))
        corrected_settled d =
            record { is = correction_settled c s (10 - k) k (rows_of c.N old) (rows_of c.N new) corrected.is d ∙ unrolled; kept = corrected.kept; at_stage = tt }

        pub corrected_not : rule.settled c.N (rows_of c.N new) (rows_of c.N old) ≡ false → Going (k + 1) new
        corrected_not d =
            let i : 11 - (k + 1) ≡ 10 - k = omega arith in
            record {
              kept = corrected.kept;
              is =
                  ap (λ m. rule.corrections c s m (k + 1) (rows_of c.N new)) i
                  ∙ ap (λ m. rule.corrections c s (10 - k) m (rows_of c.N new)) (add-one k)
                  ∙ correction_not c s (10 - k) k (rows_of c.N old) (rows_of c.N new) corrected.is d
                  ∙ unrolled;
            }

  -- after the tenth
  pub unsettled : (k : ℕ) (old : Trial) → 10 < k → Going k old → Advances (Err (record { refusal = Unsettled; stage = 10 }))
  unfolding number
  unsettled k old h w =
      let i : 11 - k ≡ 0 = omega arith in
      record {
        is = corrections_end c s k (rows_of c.N old) ∙ ap (λ m. rule.corrections c s m k (rows_of c.N old)) (sym i) ∙ w.is;
        kept = tt;
        at_stage = sym (stage_last 10 10 refl);
      }
