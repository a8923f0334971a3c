-- Making: V from u. What it asks, V of a cell at the walls and between them, and the ways out. Assumes nothing.
use Rattle.std.specs.Prelude.{ℕ, suc, ◌+◌, ◌-◌, ◌<◌, ◌≤◌, ◌≡◌, refl, true, List, length, get_or, Float, pos, Ok, Err}
use Rattle.std.proofs.Math.Path.{sym, ap}
use Rattle.std.proofs.Common.{◌∙◌, add-one, arith, lit≤}
use Rattle.std.proofs.Math.Bool.{false}
use borrow.Author.Tests.{eq-eqb, ne_eqb}
use Rattle.std.specs.Float.{nan}
use Rattle.whole.specs.Row.{tab, tab_ext, fill, length_fill, fill_at, padded}
use Rattle.rule.specs.Rounded.{rounded_float}
use Rattle.rule.specs.Rows.{Row, cell, map, all}
use Rattle.rule.specs.Ranges.{most_reduced, most_cells}
use Rattle.rule.specs.Floats.{whole, ◌⊕◌, ◌⊗◌, ◌⊘◌, within_float}
use Rattle.rule.specs.declared.Refusal.TheVariants.{Speed}
use Rattle.rule.specs.Refusals.{done, require, met_as}
use Rattle.places.specs.Met.{met_done}
use Rattle.places.specs.MetAs.{met_requires, met_fails, done_as, err_first_as, ok_then_as}
use Rattle.rule.specs.declared.Coefficients.{Coefficients}
use Rattle.rule.specs.Coefficients.{scale, coefficients}
use Rattle.rule.specs.Make.{reduced_velocity, reduced_velocities}
use Rattle.coefficients.specs.Ready.{Bed}
use Rattle.rows.specs.All.{all_fails}
use Rattle.solve.specs.Sweeps.{floats}
use Rattle.solve.specs.Solved.{Answered, answered}

pub record Given (n x : ℕ) (h u : Row) : Type 0 where
  pub bed : Bed n x h
  pub u_long : n ≤ length u

module _ (n w : ℕ) (r : Coefficients) (u : Row) (j : ℕ) where
  abbrev left : Float
  left = whole r.a ⊗ whole (cell u (j - 1))

  abbrev middle : Float
  middle = whole r.b ⊗ whole (cell u j)

  abbrev right : Float
  right = whole r.c ⊗ whole (cell u (j + 1))

  pub at_first : j ≡ 0 → (middle ⊕ right) ⊘ whole (pos w) ≡ reduced_velocity n w r u j
  unfolding reduced_velocity
  at_first e = rw (eq-eqb j 0 e, add-one)

  pub at_last : 2 ≤ n → j + 1 ≡ n → (left ⊕ middle) ⊘ whole (pos w) ≡ reduced_velocity n w r u j
  unfolding reduced_velocity
  at_last l e = rw (ne_eqb j 0 (omega arith), eq-eqb (suc j) n (omega arith))

  pub between : (j ≡ 0 → ⊥) → (j + 1 ≡ n → ⊥) → ((left ⊕ middle) ⊕ right) ⊘ whole (pos w) ≡ reduced_velocity n w r u j
  unfolding reduced_velocity
  between p q = rw (ne_eqb j 0 p, ne_eqb (suc j) n (λ e. q (add-one j ∙ e)), add-one)

-- V of each cell
abbrev pub each : ℕ → ℕ → Row → Row → ℕ → Float
each n X h u j = reduced_velocity n (scale X) (coefficients n X h j) u j

module _ (n X : ℕ) (h u : Row) where
  -- a V that is out of range
  pub refused_7 : (j : ℕ) → j < n → within_float most_reduced (each n X h u j) ≡ false → Err Speed ≡ met_as (padded n) (reduced_velocities n X h u)
  unfolding reduced_velocities
  refused_7 j l e =
      let b = all (within_float most_reduced) (tab n (each n X h u)) in
      err_first_as (padded n) (require b Speed) _ Speed (met_fails b Speed (all_fails (within_float most_reduced) (each n X h u) n j l e))

  module _ (before : List Float) {row : List Float} {j : ℕ} (m : n ≤ most_cells) (p : length before ≡ most_cells) (f : row ≡ fill n (each n X h u) before) (d : j ≡ n) (i : all (within_float most_reduced) (tab j (each n X h u)) ≡ true) where
    in_range : all (within_float most_reduced) (tab n (each n X h u)) ≡ true
    in_range = ap (λ k. all (within_float most_reduced) (tab k (each n X h u))) (sym d) ∙ i

    filled : floats n row ≡ tab n (each n X h u)
    filled = tab_ext n (λ k. get_or row k nan) (each n X h u) (λ k l. ap (λ t. get_or t k nan) f ∙ fill_at n (each n X h u) before k nan l)

    pub roundable : Answered n row
    roundable = answered most_reduced n row (lit≤ tt) m (ap length f ∙ length_fill n (each n X h u) before (omega arith) ∙ p) (ap (all (within_float most_reduced)) filled ∙ in_range)

    pub made : Ok (padded n (map rounded_float (floats n row))) ≡ met_as (padded n) (reduced_velocities n X h u)
    unfolding reduced_velocities
    made =
        let b = all (within_float most_reduced) (tab n (each n X h u)) in
        ap (λ vs. Ok (padded n (map rounded_float vs))) filled
        ∙ done_as (padded n) (done (map rounded_float (tab n (each n X h u)))) (map rounded_float (tab n (each n X h u))) refl
        ∙ ok_then_as (padded n) (require b Speed) _ tt (met_done (require b Speed) tt (met_requires b Speed in_range))
