-- Refusal numbers, 31 to 38: the checks of a channel's values in their order, with their faults. Assumes nothing.
use Rattle.std.specs.Prelude.{◌≡◌, Bool, true, ◌&&◌, List, [], ◌∷◌, ℕ, ◌*◌, ◌-◌, length}
use Rattle.std.proofs.Math.Path.{refl, ap}
use Rattle.std.proofs.Common.{sym, ◌∙◌}
use Rattle.whole.specs.Tests.{and_yes, both}
use Rattle.rule.specs.Rows.{Row, all, lowest}
use Rattle.rule.specs.Ranges.{within, depth_allowed, most_height, most_velocity, most_reduced, most_flux, most_acceleration, damping_allowed, most_poured}
use Rattle.rule.specs.Channel.{Channel, level_of}
use Rattle.rule.specs.declared.Refusal.{Refusal}
use Rattle.rule.specs.declared.Refusal.TheVariants.{DepthValue, HeightValue, VelocityValue, ReducedValue, FluxValue, AccelerationValue, DampingValue, PouredValue}
use Rattle.rule.specs.Refusals.{Outcome, done, ◌>>=◌, number_of, fault_of}
use Rattle.rule.specs.Checks.{small, each, each_level, pourable}
use Rattle.values.specs.Levels.{in_turn, level_all, levels_all}
use Rattle.checks.specs.Numbers.{passed_each, passed_last, each_done, after_done}
use Rattle.places.specs.Faults.{regroup}
use Rattle.values.specs.Chains.{bed, speeds, levels}
use Rattle.checks.specs.Pairs.{four_pairs}
use Rattle.checks.specs.Facts.{values_allowed, levels_allowed}

-- of what a channel is made from
unfoldable pub given : Row → Row → Row → Row → Outcome (Unit {0})
given h e u damping =
    each depth_allowed h DepthValue >>= λ _.
    each (within most_height) e HeightValue >>= λ _.
    each (within most_velocity) u VelocityValue >>= λ _.
    each damping_allowed damping DampingValue

module _ (h e u damping : Row) where
  pub given_pairs : (bed h e >>= λ _. (each (within most_velocity) u VelocityValue >>= λ _. each damping_allowed damping DampingValue)) ≡ given h e u damping
  unfolding given
  given_pairs = sym (regroup (each depth_allowed h DepthValue) (λ _. each (within most_height) e HeightValue) (λ _. each (within most_velocity) u VelocityValue >>= λ _. each damping_allowed damping DampingValue))

  pub given_passed : number_of (given h e u damping) ≡ 0 → (values_allowed h e u ≡ true) × (all damping_allowed damping ≡ true)
  unfolding given small each
  given_passed z =
      let a = passed_each depth_allowed h DepthValue _ z in
      let b = passed_each (within most_height) e HeightValue _ a.1 in
      let c = passed_each (within most_velocity) u VelocityValue _ b.1 in
      (and_yes _ _ (and_yes _ _ a.0 b.0) c.0, passed_last (all damping_allowed damping) _ c.1)

  pub given_done : values_allowed h e u ≡ true → all damping_allowed damping ≡ true → given h e u damping ≡ done tt
  unfolding given small
  given_done z d =
      let p = both (all depth_allowed h && small most_height e) (small most_velocity u) z in
      let q = both (all depth_allowed h) (small most_height e) p.0 in
      after_done (each depth_allowed h DepthValue) tt _ (each_done depth_allowed h DepthValue q.0)
      ∙ after_done (each (within most_height) e HeightValue) tt _ (each_done (within most_height) e HeightValue q.1)
      ∙ after_done (each (within most_velocity) u VelocityValue) tt _ (each_done (within most_velocity) u VelocityValue p.1)
      ∙ each_done damping_allowed damping DampingValue d

-- the levels of one row: every level passes exactly where every entry does
module _ {A : Type 0} (m : ℕ) (p : A → Bool) (levels : List A) (r : ℕ → Refusal) where
  pub levels_passed : {B : Type 0} (f : Unit {0} → Outcome B) → length levels ≡ 3 * m → number_of (each_level m p levels r >>= f) ≡ 0 → (all p levels ≡ true) × (number_of (f tt) ≡ 0)
  levels_passed f long z =
      let a = passed_each p (level_of m levels 0) r _ (ap number_of (sym (in_turn m p levels r f)) ∙ z) in
      let b = passed_each p (level_of m levels 1) r _ a.1 in
      let c = passed_each p (level_of m levels 2) r f b.1 in
      (levels_all p m levels long a.0 b.0 c.0, c.1)

  pub levels_done : all p levels ≡ true → each_level m p levels r ≡ done tt
  unfolding each_level
  levels_done e =
      after_done (each p (level_of m levels 0) r) tt _ (each_done p (level_of m levels 0) r (level_all p m 0 levels e))
      ∙ after_done (each p (level_of m levels 1) r) tt _ (each_done p (level_of m levels 1) r (level_all p m 1 levels e))
      ∙ each_done p (level_of m levels 2) r (level_all p m 2 levels e)

-- of the rows that are poured
pub pours_passed : (poured : List Row) → number_of (pourable poured) ≡ 0 → all (small most_poured) poured ≡ true
unfolding pourable all small
pours_passed [] z = refl
pours_passed (s ∷ more) z =
    let p = passed_each (within most_poured) s PouredValue (λ _. pourable more) z in
    and_yes _ _ p.0 (pours_passed more p.1)

pub pours_done : (poured : List Row) → all (small most_poured) poured ≡ true → pourable poured ≡ done tt
unfolding pourable all small
pours_done [] e = refl
pours_done (s ∷ more) e =
    let p = both (small most_poured s) (all (small most_poured) more) e in
    after_done (each (within most_poured) s PouredValue) tt (λ _. pourable more) (each_done (within most_poured) s PouredValue p.0) ∙ pours_done more p.1

-- of a channel, and of the rows that a call pours
module _ (c : Channel) (poured : List Row) where
  unfoldable pub valued : Outcome (Unit {0})
  valued =
      each depth_allowed c.h DepthValue >>= λ _.
      each (within most_height) c.e HeightValue >>= λ _.
      each (within most_velocity) c.u VelocityValue >>= λ _.
      each (within most_reduced) c.v ReducedValue >>= λ _.
      each_level (c.N - 1) (within most_flux) c.Q FluxValue >>= λ _.
      each_level c.N (within most_acceleration) c.F AccelerationValue >>= λ _.
      each damping_allowed c.damping DampingValue >>= λ _.
      pourable poured

  -- by pairs, as the code has them
  pub valued_pairs : (bed c.h c.e >>= λ _. speeds c.u c.v >>= λ _. levels c.N c.Q c.F >>= λ _. (each damping_allowed c.damping DampingValue >>= λ _. pourable poured)) ≡ valued
  unfolding valued
  valued_pairs = four_pairs _ _ _ _ _ _ _ _

  abbrev pub values_pass : Bool
  values_pass = values_allowed c.h c.e c.u && levels_allowed c.v c.Q c.F && all damping_allowed c.damping && all (small most_poured) poured

  pub valued_passed : length c.Q ≡ 3 * (c.N - 1) → length c.F ≡ 3 * c.N → number_of valued ≡ 0 → values_pass ≡ true
  unfolding valued small
  valued_passed Q_long F_long z =
      let h = passed_each depth_allowed c.h DepthValue _ z in
      let e = passed_each (within most_height) c.e HeightValue _ h.1 in
      let u = passed_each (within most_velocity) c.u VelocityValue _ e.1 in
      let v = passed_each (within most_reduced) c.v ReducedValue _ u.1 in
      let Q = levels_passed (c.N - 1) (within most_flux) c.Q FluxValue _ Q_long v.1 in
      let F = levels_passed c.N (within most_acceleration) c.F AccelerationValue _ F_long Q.1 in
      let damping = passed_each damping_allowed c.damping DampingValue _ F.1 in
      and_yes _ _
      (and_yes _ _ (and_yes _ _ (and_yes _ _ (and_yes _ _ h.0 e.0) u.0) (and_yes _ _ (and_yes _ _ v.0 Q.0) F.0)) damping.0)
      (pours_passed poured damping.1)

  pub valued_pass : values_pass ≡ true → number_of valued ≡ 0
  unfolding valued small number_of
  valued_pass z =
      let p = both (values_allowed c.h c.e c.u && levels_allowed c.v c.Q c.F && all damping_allowed c.damping) (all (small most_poured) poured) z in
      let damping = both (values_allowed c.h c.e c.u && levels_allowed c.v c.Q c.F) (all damping_allowed c.damping) p.0 in
      let q = both (values_allowed c.h c.e c.u) (levels_allowed c.v c.Q c.F) damping.0 in
      let a = both (all depth_allowed c.h && small most_height c.e) (small most_velocity c.u) q.0 in
      let b = both (all depth_allowed c.h) (small most_height c.e) a.0 in
      let d = both (small most_reduced c.v && small most_flux c.Q) (small most_acceleration c.F) q.1 in
      let f = both (small most_reduced c.v) (small most_flux c.Q) d.0 in
      ap number_of
      (after_done (each depth_allowed c.h DepthValue) tt _ (each_done depth_allowed c.h DepthValue b.0)
      ∙ after_done (each (within most_height) c.e HeightValue) tt _ (each_done (within most_height) c.e HeightValue b.1)
      ∙ after_done (each (within most_velocity) c.u VelocityValue) tt _ (each_done (within most_velocity) c.u VelocityValue a.1)
      ∙ after_done (each (within most_reduced) c.v ReducedValue) tt _ (each_done (within most_reduced) c.v ReducedValue f.0)
      ∙ after_done (each_level (c.N - 1) (within most_flux) c.Q FluxValue) tt _ (levels_done (c.N - 1) (within most_flux) c.Q FluxValue f.1)
      ∙ after_done (each_level c.N (within most_acceleration) c.F AccelerationValue) tt _ (levels_done c.N (within most_acceleration) c.F AccelerationValue d.1)
      ∙ after_done (each damping_allowed c.damping DampingValue) tt _ (each_done damping_allowed c.damping DampingValue damping.1)
      ∙ pours_done poured p.1)
