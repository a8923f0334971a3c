-- Refusal numbers: what code answers of a check, of its parts one after the other, and the fault that it tells. Assumes nothing.
use Rattle.std.specs.Prelude.{ℕ, zero, suc, ◌≡◌, Bool, List, Option, None, Some, Result, Ok, Err}
use Rattle.std.specs.Result.{IsErrAnd, result_and}
use Rattle.std.proofs.Common.{◌∙◌, ap, sym}
use Rattle.std.proofs.Math.Path.{refl}
use Rattle.std.proofs.Math.Bool.{true, false}
use Rattle.rule.specs.declared.Refusal.{Refusal}
use Rattle.rule.specs.Rows.{all, lowest}
use Rattle.rule.specs.Refusals.{Outcome, refused, done, ◌>>=◌, require, met, met_as, number_of, place_of, fault_of}
use Rattle.rule.specs.Checks.{each}
use Rattle.places.specs.Lowest.{found, found_none, lowest_some}
use Rattle.places.specs.Faults.{told}

module _ {A : Type 0} where
  -- what is done is no refusal
  pub met_done : (m : Outcome A) (a : A) → Ok a ≡ met m → m ≡ done a
  unfolding met
  met_done (refused r k) a e = cc e
  met_done (done b) a e = let z : a ≡ b = cc e in rw z

  -- what is refused, at some stage
  pub met_refused : (m : Outcome A) (r : Refusal) → Err r ≡ met m → told r ≡ fault_of m
  unfolding met number_of place_of
  met_refused (refused q k) r e = let z : r ≡ q = cc e in rw z
  met_refused (done a) r e = cc e

  pub met_number : (m : Outcome A) (a : A) → Ok a ≡ met m → number_of m ≡ 0
  unfolding number_of
  met_number m a e = rw (met_done m a e)

-- the same where the code keeps what is done in a form of its own
module _ {A B : Type 0} (f : A → B) where
  pub as_refused : (m : Outcome A) (r : Refusal) → Err r ≡ met_as f m → Err r ≡ met m
  unfolding met met_as
  as_refused (refused q k) r e = let z : r ≡ q = cc e in rw z
  as_refused (done a) r e = cc e

  pub record KeptAs (m : Outcome A) (b : B) : Type 0 where
    pub result : A
    pub is : m ≡ done result
    pub kept : b ≡ f result

  pub as_done : (m : Outcome A) (b : B) → Ok b ≡ met_as f m → KeptAs m b
  unfolding met_as
  as_done (refused r k) b e = cc e
  as_done (done a) b e = record { result = a; is = refl; kept = cc e }

  pub as_err : (m : Outcome A) (r : Refusal) → Err r ≡ met m → Err r ≡ met_as f m
  unfolding met met_as
  as_err (refused q k) r e = let z : r ≡ q = cc e in rw z
  as_err (done a) r e = cc e

  pub as_ok : (m : Outcome A) (a : A) → Ok a ≡ met m → Ok (f a) ≡ met_as f m
  unfolding met_as
  as_ok m a e = rw (met_done m a e)

-- one after the other: the first refusal, or the rest
pub err_first : {A B : Type 0} (m : Outcome A) (f : A → Outcome B) (r : Refusal) → Err r ≡ met m → Err r ≡ met (m >>= f)
unfolding met ◌>>=◌
err_first (refused q k) f r e = let z : r ≡ q = cc e in rw z
err_first (done a) f r e = cc e

pub ok_then : {A B : Type 0} (m : Outcome A) (f : A → Outcome B) (a : A) → Ok a ≡ met m → met (f a) ≡ met (m >>= f)
unfolding ◌>>=◌
ok_then m f a e = rw (met_done m a e)

-- a test of every entry of a row, by the lowest place that does not pass
abbrev pub refusal_at : (ℕ → Refusal) → Option ℕ → Result (Unit {0}) Refusal
refusal_at r None = Ok tt
refusal_at r (Some j) = Err (r j)

found_some : (m : ℕ) → (m ≡ 0 → ⊥) → found m ≡ Some m
unfolding found
found_some zero z = absurd (z refl)
found_some (suc m) z = refl

each_by : {A : Type 0} (p : A → Bool) (row : List A) (r : ℕ → Refusal) (b : Bool) → all p row ≡ b → refusal_at r (found (lowest p row)) ≡ met (require b (r (lowest p row)))
unfolding met require
each_by p row r true e = ap (refusal_at r) (sym (found_none p row e))
each_by p row r false e = ap (refusal_at r) (found_some (lowest p row) (lowest_some p row e))

pub each_met : {A : Type 0} (p : A → Bool) (row : List A) (r : ℕ → Refusal) → refusal_at r (found (lowest p row)) ≡ met (each p row r)
unfolding each
each_met p row r = each_by p row r (all p row) refl

-- what `?` hands on
pub from_err : {A E : Type 0} (r : Result A E) (e : E) → IsErrAnd r (λ y. y ≡ e) → r ≡ Err e
from_err (Ok a) e h = absurd h
from_err (Err y) e h = ap (λ x. Err x) h

-- a first part that is refused, at the return that `?` makes
pub refused_first : {A B : Type 0} (m : Outcome A) (f : A → Outcome B) (e : Refusal) → Err e ≡ met m → (r : Result B Refusal) → IsErrAnd r (λ y. y ≡ e) → r ≡ met (m >>= f)
refused_first m f e h r k = from_err r e k ∙ err_first m f e h

-- two checks, of which the second asks nothing of the first
pub both_met : {A B : Type 0} (m : Outcome A) (m' : Outcome B) → result_and (met m) (met m') ≡ met (m >>= λ _. m')
unfolding met ◌>>=◌
both_met (refused r k) m' = refl
both_met (done a) m' = refl
