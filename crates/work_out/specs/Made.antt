-- Making, stepping, filtering: what make works out, kept in arrays, and how its parts make it. Assumes nothing.
use Rattle.std.specs.Prelude.{ℕ, ◌-◌, ◌≡◌, ◌++◌, pos, length, Ok, Err}
use Rattle.std.proofs.Math.Path.{sym, ap}
use Rattle.std.proofs.Common.{◌∙◌, arith}
use Rattle.std.proofs.Math.ListN.{get_or-append}
use Rattle.whole.specs.Row.{tab_ext, padded}
use Rattle.rule.specs.Rows.{Row, cell}
use Rattle.rule.specs.Channel.{Channel, channel, filled}
use Rattle.rule.specs.declared.Refusal.{Refusal}
use Rattle.rule.specs.Refusals.{Outcome, done, number_of, ◌>>=◌, met, met_as}
use Rattle.rule.specs.Flux.{fluxes}
use Rattle.rule.specs.Acceleration.{accelerations}
use Rattle.rule.specs.Make.{make_checked, make, reduced_velocities}
use Rattle.rows.specs.Firsts.{firsts, firsts_all}
use Rattle.dispersion.specs.Asked.{Moving, Damped, Ready}
use Rattle.flux.specs.Faces.{length-fluxes}
use Rattle.dispersion.specs.Sizes.{length-accelerations}
use Rattle.places.specs.Met.{met_done, met_number, as_err, as_refused, as_done, err_first}
use Rattle.checks.specs.Numbers.{after_done, done_of, result_of, first_done}
use Rattle.checks.specs.Facts.{bed_of}
use Rattle.checks.specs.Made.{Makeable, makeable_of, worked, make_is}
use Rattle.make_v.specs.Velocities.{Given}
use Rattle.work_out.specs.declared.Made.{Made}

abbrev pub rows_of : ℕ → Row → Row → Row → Made
rows_of n v Q F = record { v = padded n v; q = padded (n - 1) Q; f = padded n F }

-- of a channel V, and the newest levels of Q and F
abbrev pub made_of : ℕ → Channel → Made
made_of n c = rows_of n c.v (firsts (n - 1) c.Q) (firsts n c.F)

-- the newest of filled levels
newest : (n : ℕ) (row : Row) → length row ≡ n → firsts n (filled row) ≡ row
unfolding filled
newest n row long = tab_ext n (cell (filled row)) (cell row) (λ i h. get_or-append row (row ++ row) (pos 0) i (rw long h)) ∙ firsts_all n row long

module _ (n X T wanted : ℕ) (h e u damping : Row) where
  abbrev checks : Outcome (Unit {0})
  checks = make_checked n X T wanted h e u damping

  abbrev pub made : Outcome Channel
  made = make n X T wanted h e u damping

  abbrev pub F : Row
  F = accelerations n X e u damping

  abbrev after_q : Row → Row → Outcome Channel
  after_q v Q = done (channel n X T 0 wanted h e u v (filled Q) (filled F) damping)

  abbrev after_v : Row → Outcome Channel
  after_v v = fluxes n X h e u >>= after_q v

  -- what V, Q and F are worked out from
  pub given : Makeable n X T wanted h e u damping → Given n X h u
  given m = record { bed = bed_of n X T wanted 0 h e u m.counts m.cells; u_long = omega (arith, m.cells.u_long) }

  moving : Makeable n X T wanted h e u damping → Moving n X e u
  moving m =
      let c = m.cells in
      record {
        positive = omega (arith, m.counts.X_least);
        wide = m.counts.X_most;
        heights = record { least = c.least; most = c.most; long = omega (arith, c.e_long); small = c.e_small };
        velocities = record { least = c.least; most = c.most; long = omega (arith, c.u_long); small = c.u_small };
      }

  pub damped : Makeable n X T wanted h e u damping → Damped n X e u damping
  damped m =
      let c = m.cells in
      record { moving = moving m; dampings = record { least = c.least; most = c.most; long = omega (arith, m.damped.long); small = m.damped.small } }

  pub ready : Makeable n X T wanted h e u damping → Ready n X h e u
  ready m =
      let c = m.cells in
      record { moving = moving m; depths = record { least = c.least; most = c.most; long = omega (arith, c.h_long); small = c.h_small } }

  -- the checks refuse
  pub stops_checked : (r : Refusal) → Err r ≡ met checks → Err r ≡ met_as (made_of n) made
  stops_checked r p = as_err (made_of n) made r (err_first checks _ r p ∙ ap met (sym (make_is n X T wanted h e u damping)))

  -- they pass
  module _ (passed : Ok tt ≡ met checks) where
    pub makeable : Makeable n X T wanted h e u damping
    makeable = makeable_of n X T wanted h e u damping (met_number checks tt passed)

    after_checks : made ≡ (reduced_velocities n X h u >>= after_v)
    unfolding worked
    after_checks = make_is n X T wanted h e u damping ∙ after_done checks tt _ (met_done checks tt passed)

    -- V is refused
    pub stops_7 : (r : Refusal) → Err r ≡ met_as (padded n) (reduced_velocities n X h u) → Err r ≡ met_as (made_of n) made
    stops_7 r p =
        as_err (made_of n) made r (err_first (reduced_velocities n X h u) after_v r (as_refused (padded n) (reduced_velocities n X h u) r p) ∙ ap met (sym after_checks))

    module _ (v : Row) (v_done : reduced_velocities n X h u ≡ done v) where
      after_velocities : made ≡ after_v v
      after_velocities = after_checks ∙ after_done (reduced_velocities n X h u) v after_v v_done

      after_fluxes : (Q : Row) → fluxes n X h e u ≡ done Q → made ≡ after_q v Q
      after_fluxes Q Q_done = after_velocities ∙ after_done (fluxes n X h e u) Q (after_q v) Q_done

    -- Q is refused, past V
    pub stops_9 : (r : Refusal) (v : Row) → Ok v ≡ met_as (padded n) (reduced_velocities n X h u) → Err r ≡ met_as (padded (n - 1)) (fluxes n X h e u) → Err r ≡ met_as (made_of n) made
    stops_9 r v p q =
        let k = as_done (padded n) (reduced_velocities n X h u) v p in
        as_err (made_of n) made r
        (err_first (fluxes n X h e u) (after_q k.result) r (as_refused (padded (n - 1)) (fluxes n X h e u) r q) ∙ ap met (sym (after_velocities k.result k.is)))

  -- V and Q of a channel that is made
  pub record Whole : Type 0 where
    pub v : Row
    pub Q : Row
    pub v_done : reduced_velocities n X h u ≡ done v
    pub Q_done : fluxes n X h e u ≡ done Q
    pub is : made ≡ after_q v Q

  abbrev whole : Ok tt ≡ met checks → (v Q : Row) → reduced_velocities n X h u ≡ done v → fluxes n X h e u ≡ done Q → Whole
  whole passed v Q p q = record { v = v; Q = Q; v_done = p; Q_done = q; is = after_fluxes passed v p Q q }

  pub rows_kept : (w : Whole) → Ok (rows_of n w.v w.Q F) ≡ met_as (made_of n) made
  unfolding met_as
  rows_kept w =
      let q : w.Q ≡ firsts (n - 1) (filled w.Q) = sym (newest (n - 1) w.Q (length-fluxes n X h e u w.Q w.Q_done)) in
      let f : F ≡ firsts n (filled F) = sym (newest n F (length-accelerations n X e u damping)) in
      (λ i. Ok (rows_of n w.v (q i) (f i))) ∙ ap (met_as (made_of n)) (sym w.is)

  -- past V and Q
  pub all_kept :
      (v q f : Row) → Ok tt ≡ met checks → Ok v ≡ met_as (padded n) (reduced_velocities n X h u) → Ok q ≡ met_as (padded (n - 1)) (fluxes n X h e u) → f ≡ padded n F →
      Ok (record { v = v; q = q; f = f }) ≡ met_as (made_of n) made
  all_kept v q f passed a b p =
      let k = as_done (padded n) (reduced_velocities n X h u) v a in
      let l = as_done (padded (n - 1)) (fluxes n X h e u) q b in
      (λ i. Ok (record { v = k.kept i; q = l.kept i; f = p i })) ∙ rows_kept (whole passed k.result l.result k.is l.is)

  pub whole_of : number_of made ≡ 0 → Whole
  unfolding met
  whole_of z =
      let c = done_of checks (first_done checks _ (sym (ap number_of (make_is n X T wanted h e u damping)) ∙ z)) in
      let passed : Ok tt ≡ met checks = ap met (sym c) in
      let d = result_of (reduced_velocities n X h u) (first_done (reduced_velocities n X h u) after_v (sym (ap number_of (after_checks passed)) ∙ z)) in
      let g = result_of (fluxes n X h e u) (first_done (fluxes n X h e u) _ (sym (ap number_of (after_velocities passed d.result d.is)) ∙ z)) in
      whole passed d.result g.result d.is g.is
