-- "Gauges": what follows where a test passes or fails. Assumes nothing.
use Rattle.std.specs.Prelude.{◌≡◌, Bool, true, false, cond, ℕ, ◌≤◌, ℤ, pos, nat_abs, ◌-ℤ◌}
use Rattle.std.proofs.Common.{lit≤}
use Rattle.std.specs.Int.Signed.{lt_z}
use Rattle.whole.specs.Expr.{var, lit, sub, abs≤}
use Rattle.gauge.specs.declared.Gauge.{Gauge}
use Rattle.gauge.specs.Small.{Small}
use Rattle.gauge.specs.Waves.{upward, higher, lower}
use Rattle.gauge.specs.Gauge.{is_empty, in_ranges, sound, right, met, below, waves, wave_of, ended, crossed, widened, passed, grown}

module _ (a b : ℤ) where
  pub higher_second : lt_z a b ≡ true → higher a b ≡ b
  unfolding higher
  higher_second e = rw e

  pub higher_first : lt_z a b ≡ false → higher a b ≡ a
  unfolding higher
  higher_first e = rw e

  pub lower_second : lt_z b a ≡ true → lower a b ≡ b
  unfolding lower
  lower_second e = rw e

  pub lower_first : lt_z b a ≡ false → lower a b ≡ a
  unfolding lower
  lower_first e = rw e

-- the higher and the lower of two are no larger than both
cond_small : (b : Bool) (x y : ℤ) {k : ℕ} → nat_abs x ≤ k → nat_abs y ≤ k → nat_abs (cond b x y) ≤ k
cond_small true x y p q = p
cond_small false x y p q = q

pub higher_small : (a b : ℤ) {k : ℕ} → nat_abs a ≤ k → nat_abs b ≤ k → nat_abs (higher a b) ≤ k
unfolding higher
higher_small a b p q = cond_small (lt_z a b) b a q p

pub lower_small : (a b : ℤ) {k : ℕ} → nat_abs a ≤ k → nat_abs b ≤ k → nat_abs (lower a b) ≤ k
unfolding lower
lower_small a b p q = cond_small (lt_z b a) b a q p

module _ (crossings highest lowest : ℤ) where
  pub wave_met : lt_z (pos 0) crossings ≡ true → wave_of crossings highest lowest ≡ highest -ℤ lowest
  unfolding wave_of
  wave_met e = rw e

  pub wave_none : lt_z (pos 0) crossings ≡ false → wave_of crossings highest lowest ≡ pos 0
  unfolding wave_of
  wave_none e = rw e

one_or_none : (b : Bool) → nat_abs (cond b (pos 1) (pos 0)) ≤ 1
one_or_none true = lit≤ tt
one_or_none false = lit≤ tt

fewer_or_none : (b : Bool) (c : ℤ) → nat_abs c ≤ 500_000 → nat_abs (cond b (c -ℤ pos 1) (pos 0)) ≤ 500_001
fewer_or_none true c h = abs≤ (sub (var c 500_000 h) (lit (pos 1)))
fewer_or_none false c h = lit≤ tt

apart_or_none : (b : Bool) (x y : ℤ) → nat_abs x ≤ 20_000_000 → nat_abs y ≤ 20_000_000 → nat_abs (cond b (x -ℤ y) (pos 0)) ≤ 40_000_000
apart_or_none true x y h k = abs≤ (sub (var x 20_000_000 h) (var y 20_000_000 k))
apart_or_none false x y h k = lit≤ tt

module _ (g : Gauge) where
  pub below_one : lt_z g.last (pos 0) ≡ true → below g ≡ pos 1
  unfolding below
  below_one e = rw e

  pub below_none : lt_z g.last (pos 0) ≡ false → below g ≡ pos 0
  unfolding below
  below_none e = rw e

  pub below_small : nat_abs (below g) ≤ 1
  unfolding below
  below_small = one_or_none (lt_z g.last (pos 0))

  pub waves_small : Small g → nat_abs (waves g) ≤ 500_001
  unfolding waves
  waves_small p = fewer_or_none (met g) g.crossings p.crossings

  pub ended_small : Small g → nat_abs (ended g) ≤ 40_000_000
  unfolding ended wave_of
  ended_small p = apart_or_none (lt_z (pos 0) g.crossings) g.highest g.lowest p.highest p.lowest

  module _ (e : lt_z (pos 0) g.crossings ≡ true) where
    pub waves_met : waves g ≡ g.crossings -ℤ pos 1
    unfolding waves met
    waves_met = rw e

    pub ended_met : ended g ≡ g.highest -ℤ g.lowest
    unfolding ended
    ended_met = wave_met g.crossings g.highest g.lowest e

  module _ (e : lt_z (pos 0) g.crossings ≡ false) where
    pub waves_none : waves g ≡ pos 0
    unfolding waves met
    waves_none = rw e

    pub ended_none : ended g ≡ pos 0
    unfolding ended
    ended_none = wave_none g.crossings g.highest g.lowest e

  pub right_empty : is_empty g ≡ true → right g ≡ true
  unfolding right
  right_empty e = rw e

  module _ (e : is_empty g ≡ false) where
    pub right_out : in_ranges g ≡ false → right g ≡ false
    unfolding right
    right_out r = rw (e, r)

    pub right_in : in_ranges g ≡ true → right g ≡ sound g
    unfolding right
    right_in r = rw (e, r)

  module _ (x : ℤ) where
    pub grown_crossed : upward g.last x ≡ true → grown g x ≡ crossed g x
    unfolding grown
    grown_crossed u = rw u

    module _ (u : upward g.last x ≡ false) where
      pub grown_widened : lt_z (pos 0) g.crossings ≡ true → grown g x ≡ widened g x
      unfolding grown met
      grown_widened e = rw (u, e)

      pub grown_passed : lt_z (pos 0) g.crossings ≡ false → grown g x ≡ passed g x
      unfolding grown met
      grown_passed e = rw (u, e)
