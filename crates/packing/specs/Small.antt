-- Refusal numbers: answers small enough for one number, a number to 38, a stage to 10, a place to 256 and a count to a million. Assumes nothing.
use Rattle.std.specs.Prelude.{ℕ, zero, suc, ◌*◌, ◌≤◌, ◌≡◌, refl, Bool, true, false, cond, List, [], ◌∷◌, length, take, drop}
use Rattle.std.proofs.Common.{arith, sym, ap, ◌∙◌, subst}
use Rattle.rule.specs.declared.Answer.{Answer}
use Rattle.rule.specs.Rows.{all, lowest}
use Rattle.rule.specs.Channel.{level_of}
use Rattle.rule.specs.declared.Refusal.{Refusal}
use Rattle.rule.specs.Refusals.{number, place, Outcome, refused, done, ◌>>=◌, require, at}
use Rattle.rule.specs.Checks.{each, each_level}
use Rattle.rule.specs.Calls.{Called, called, packed}
use Rattle.rule.specs.Ranges.{most_cells, most_steps}
use Rattle.places.specs.Lowest.{lowest_most}
use Rattle.checks.specs.Numbers.{number_within}

pub record Small (a : Answer) : Type 0 where
  pub number : a.number ≤ 38
  pub stage : a.stage ≤ 10
  pub place : a.place ≤ most_cells
  pub count : a.count ≤ most_steps

-- a refusal has a stage to 10 and a place to 256
abbrev pub Bounded : {A : Type 0} → Outcome A → Type 0
Bounded (refused r k) = (k ≤ 10) × (place r ≤ most_cells)
Bounded (done a) = Unit {0}

by_place : (b : Bool) (r : Refusal) → place r ≤ most_cells → Bounded (require b r)
unfolding require
by_place true r p = tt
by_place false r p = (omega arith, p)

pub bounded_require : (b : Bool) (r : Refusal) → place r ≡ 0 → Bounded (require b r)
bounded_require b r e = by_place b r (omega (arith, e))

pub bounded_then : {A B : Type 0} (m : Outcome A) (f : A → Outcome B) → Bounded m → ((a : A) → m ≡ done a → Bounded (f a)) → Bounded (m >>= f)
unfolding ◌>>=◌
bounded_then (refused r k) f h g = h
bounded_then (done a) f h g = g a refl

-- what follows a test is asked for only where the test passes
pub bounded_test : {B : Type 0} (b : Bool) (r : Refusal) (f : Unit {0} → Outcome B) → place r ≡ 0 → (b ≡ true → Bounded (f tt)) → Bounded (require b r >>= f)
unfolding require ◌>>=◌
bounded_test true r f e g = g refl
bounded_test false r f e g = (omega arith, omega (arith, e))

pub bounded_at : {A : Type 0} (k : ℕ) (m : Outcome A) → k ≤ 10 → Bounded m → Bounded (at k m)
unfolding at
bounded_at k (refused r j) h g = (h, g.1)
bounded_at k (done a) h g = tt

pub bounded_cond : {A : Type 0} (b : Bool) (x y : Outcome A) → Bounded x → Bounded y → Bounded (cond b x y)
bounded_cond true x y p q = p
bounded_cond false x y p q = q

-- a place is one of its row's
pub bounded_each : {A : Type 0} (p : A → Bool) (row : List A) (r : ℕ → Refusal) → ((j : ℕ) → place (r j) ≡ j) → length row ≤ most_cells → Bounded (each p row r)
unfolding each
bounded_each p row r is h = by_place (all p row) (r (lowest p row)) (omega (arith, is (lowest p row), lowest_most p row))

length_part : {A : Type 0} (m : ℕ) (l : List A) → length (take m l) ≤ m
length_part zero l = omega arith
length_part (suc m) [] = omega arith
length_part (suc m) (x ∷ l) = let h = length_part m l in omega arith

pub bounded_levels : {A : Type 0} (m : ℕ) (p : A → Bool) (levels : List A) (r : ℕ → Refusal) → ((j : ℕ) → place (r j) ≡ j) → m ≤ most_cells → Bounded (each_level m p levels r)
unfolding each_level
bounded_levels m p levels r is h =
    let level : (i : ℕ) → Bounded (each p (level_of m levels i) r) = λ i. bounded_each p (level_of m levels i) r is (omega (arith, length_part m (drop (i * m) levels))) in
    bounded_then _ _ (level 0) (λ _ _. bounded_then _ _ (level 1) (λ _ _. level 2))

-- what is done has a count to a million
abbrev pub Counted : {A : Type 0} → (A → ℕ) → Outcome A → Type 0
Counted count (refused r k) = Unit {0}
Counted count (done a) = count a ≤ most_steps

counted_none : {A : Type 0} (m : Outcome A) → Counted (λ _. 0) m
counted_none (refused r k) = tt
counted_none (done a) = omega arith

pub counted_then : {A B : Type 0} (count : B → ℕ) (m : Outcome A) (f : A → Outcome B) → ((a : A) → Counted count (f a)) → Counted count (m >>= f)
unfolding ◌>>=◌
counted_then count (refused r k) f g = tt
counted_then count (done a) f g = g a

pub counted_cond : {A : Type 0} (count : A → ℕ) (b : Bool) (x y : Outcome A) → Counted count x → Counted count y → Counted count (cond b x y)
counted_cond count true x y p q = p
counted_cond count false x y p q = q

-- so that the answer of a call is small
pub refused_small : (r : Refusal) (k : ℕ) → (k ≤ 10) × (place r ≤ most_cells) → Small (record { number = number r; stage = k; place = place r; count = 0 })
refused_small r k h = record { number = (number_within r).1; stage = h.0; place = h.1; count = omega arith }

pub called_small : {A B : Type 0} (lent : A) (count : B → ℕ) (after : B → A) (o : Outcome B) → Bounded o → Counted count o → Small (called lent count after o).answer
unfolding called
called_small lent count after (refused r k) h g = refused_small r k h
called_small lent count after (done b) h g = record { number = omega arith; stage = omega arith; place = omega arith; count = g }

-- and that of a call with nothing to count
pub uncounted_small : {A B : Type 0} (lent : A) (after : B → A) (o : Outcome B) → Bounded o → Small (called lent (λ _. 0) after o).answer
uncounted_small lent after o h = called_small lent (λ _. 0) after o h (counted_none o)

-- an answer that is such a call's
module _ {A : Type 0} {a : Answer} {s : A} {k : Called A} (e : ◌≡◌ {A = Called A} (record { answer = a; left = s }) k) where
  pub small_by : Small k.answer → Small a
  small_by h = subst Small (sym (ap (λ (x : Called A). x.answer) e)) h

  -- packed, beside what the call leaves
  pub packs : {n : ℕ} → n ≡ packed a → (n ≡ packed k.answer) × (s ≡ k.left)
  packs p = (p ∙ ap (λ (x : Called A). packed x.answer) e, ap (λ (x : Called A). x.left) e)
