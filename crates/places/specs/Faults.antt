-- Refusal numbers: the first test that fails, in order, with its number and its place. Assumes nothing.
use Rattle.std.specs.Prelude.{ℕ, ◌≡◌, Bool, cond, List, eqb}
use Rattle.std.proofs.Common.{◌∙◌, ap, ne_eqb}
use Rattle.std.proofs.Math.Path.{refl, sym}
use Rattle.std.proofs.Math.Bool.{true, false}
use Rattle.rule.specs.Refusals.{Fault}
use Rattle.rule.specs.Rows.{all, lowest}
use Rattle.rule.specs.declared.Refusal.{Refusal}
use Rattle.rule.specs.declared.Refusal.TheVariants.{DepthValue, HeightValue, VelocityValue, ReducedValue, FluxValue, AccelerationValue, DampingValue, PouredValue, Depth, Dominance}
use Rattle.rule.specs.Refusals.{number, place, Outcome, refused, done, ◌>>=◌, require, number_of, place_of, fault_of}
use Rattle.rule.specs.Checks.{each}
use Rattle.places.specs.Lowest.{lowest_none, lowest_some}

-- no fault; and one that has no place
abbrev pub plain : ℕ → Fault
plain number = record { number = number; place = 0 }

abbrev pub none : Fault
none = plain 0

-- what a refusal tells
abbrev pub told : Refusal → Fault
told r = record { number = number r; place = place r }

-- the refusal of this number at this place, where there is one, or what follows
unfoldable pub or_fault : ℕ → ℕ → Fault → Fault
or_fault number place rest = cond (eqb place 0) rest (record { number = number; place = place })

pub at_place : (number place : ℕ) (rest : Fault) → (place ≡ 0 → ⊥) → or_fault number place rest ≡ record { number = number; place = place }
unfolding or_fault
at_place number place rest z = rw (ne_eqb place 0 z)

-- one test more before those that follow, by what its place and they are
pub fault_then : (number : ℕ) {p p' : ℕ} {r a a' : Fault} → r ≡ or_fault number p a → p ≡ p' → a ≡ a' → r ≡ or_fault number p' a'
fault_then number e f g = e ∙ (λ i. or_fault number (f i) (g i))

-- refusals of one number, each with the place that it is given
pub record Numbered (k : ℕ) (r : ℕ → Refusal) : Type 0 where
  pub numbered : (j : ℕ) → number (r j) ≡ k
  pub placed : (j : ℕ) → place (r j) ≡ j

pub depth_value : Numbered 31 DepthValue
unfolding number place
depth_value = record { numbered = λ j. refl; placed = λ j. refl }

pub height_value : Numbered 32 HeightValue
unfolding number place
height_value = record { numbered = λ j. refl; placed = λ j. refl }

pub velocity_value : Numbered 33 VelocityValue
unfolding number place
velocity_value = record { numbered = λ j. refl; placed = λ j. refl }

pub reduced_value : Numbered 34 ReducedValue
unfolding number place
reduced_value = record { numbered = λ j. refl; placed = λ j. refl }

pub flux_value : Numbered 35 FluxValue
unfolding number place
flux_value = record { numbered = λ j. refl; placed = λ j. refl }

pub acceleration_value : Numbered 36 AccelerationValue
unfolding number place
acceleration_value = record { numbered = λ j. refl; placed = λ j. refl }

pub damping_value : Numbered 38 DampingValue
unfolding number place
damping_value = record { numbered = λ j. refl; placed = λ j. refl }

pub poured_value : Numbered 37 PouredValue
unfolding number place
poured_value = record { numbered = λ j. refl; placed = λ j. refl }

pub water_depth : Numbered 4 Depth
unfolding number place
water_depth = record { numbered = λ j. refl; placed = λ j. refl }

pub row_dominance : Numbered 5 Dominance
unfolding number place
row_dominance = record { numbered = λ j. refl; placed = λ j. refl }

pub regroup : {A B C : Type 0} (m : Outcome A) (f : A → Outcome B) (g : B → Outcome C) → (m >>= λ a. f a >>= g) ≡ ((m >>= f) >>= g)
unfolding ◌>>=◌
regroup (refused r k) f g = refl
regroup (done a) f g = refl

-- a check that nothing follows
alone : (m : Outcome (Unit {0})) → (m >>= λ _. done tt) ≡ m
unfolding ◌>>=◌
alone (refused r k) = refl
alone (done a) = refl

-- a test of every entry of a row, before what follows
module _ {A B : Type 0} (p : A → Bool) (row : List A) (k : ℕ) (r : ℕ → Refusal) (is : Numbered k r) (f : Unit {0} → Outcome B) (rest : Fault) where
  by_test : (b : Bool) → all p row ≡ b → rest ≡ fault_of (f tt) → or_fault k (lowest p row) rest ≡ fault_of (require b (r (lowest p row)) >>= f)
  unfolding or_fault require ◌>>=◌ number_of place_of
  by_test true e q = rw (lowest_none p row e) q
  by_test false e q =
      rw (ne_eqb (lowest p row) 0 (lowest_some p row e))
      (λ i. record { number = sym (is.numbered (lowest p row)) i; place = sym (is.placed (lowest p row)) i })

  pub each_then : rest ≡ fault_of (f tt) → or_fault k (lowest p row) rest ≡ fault_of (each p row r >>= f)
  unfolding each
  each_then q = by_test (all p row) refl q

-- the last test
pub each_last : {A : Type 0} (p : A → Bool) (row : List A) (k : ℕ) (r : ℕ → Refusal) → Numbered k r → or_fault k (lowest p row) none ≡ fault_of (each p row r)
unfolding number_of place_of
each_last p row k r is = each_then p row k r is (λ _. done tt) none refl ∙ ap fault_of (alone (each p row r))

-- a refusal without a place
abbrev pub Plain : {A : Type 0} → Outcome A → Type 0
Plain (refused r k) = place r ≡ 0
Plain (done a) = Unit {0}

pub plain_then : {A B : Type 0} (m : Outcome A) (f : A → Outcome B) → Plain m → ((a : A) → Plain (f a)) → Plain (m >>= f)
unfolding ◌>>=◌
plain_then (refused r k) f h g = h
plain_then (done a) f h g = g a

pub plain_last : (b : Bool) (r : Refusal) → place r ≡ 0 → Plain (require b r)
unfolding require
plain_last true r p = tt
plain_last false r p = p

-- by its number alone
pub plain_fault : {A : Type 0} (k : ℕ) (m : Outcome A) → Plain m → k ≡ number_of m → plain k ≡ fault_of m
unfolding number_of place_of
plain_fault k (refused r j) h e = (λ i. record { number = e i; place = sym h i })
plain_fault k (done a) h e = (λ i. record { number = e i; place = 0 })
