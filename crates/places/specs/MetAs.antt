-- Refusal numbers: what code answers that keeps what is done in a form of its own, one part after the other. Assumes nothing.
use Rattle.std.specs.Prelude.{◌≡◌, Bool, Ok, Err}
use Rattle.std.proofs.Math.Path.{refl}
use Rattle.std.proofs.Math.Bool.{true, false}
use Rattle.rule.specs.declared.Refusal.{Refusal}
use Rattle.rule.specs.Refusals.{Outcome, done, ◌>>=◌, require, met, met_as}
use Rattle.places.specs.Met.{err_first, as_err, as_refused}

-- a test that is met is passed, and one that fails is refused
pub met_passes : (b : Bool) (r : Refusal) (a : Unit {0}) → Ok a ≡ met (require b r) → b ≡ true
unfolding met require
met_passes true r a e = refl
met_passes false r a e = cc e

pub met_requires : (b : Bool) (r : Refusal) → b ≡ true → Ok tt ≡ met (require b r)
unfolding met require
met_requires b r e = rw e

pub met_fails : (b : Bool) (r : Refusal) → b ≡ false → Err r ≡ met (require b r)
unfolding met require
met_fails b r e = rw e

-- what is done
pub done_as : {A B : Type 0} (f : A → B) (m : Outcome A) (a : A) → m ≡ done a → Ok (f a) ≡ met_as f m
unfolding met_as
done_as f m a e = rw e

-- a first part that is refused, and one that is done, before the rest
pub err_first_as : {A B C : Type 0} (f : B → C) (m : Outcome A) (g : A → Outcome B) (r : Refusal) → Err r ≡ met m → Err r ≡ met_as f (m >>= g)
err_first_as f m g r e = as_err f (m >>= g) r (err_first m g r e)

pub ok_then_as : {A B C : Type 0} (f : B → C) (m : Outcome A) (g : A → Outcome B) (a : A) → m ≡ done a → met_as f (g a) ≡ met_as f (m >>= g)
unfolding ◌>>=◌
ok_then_as f m g a e = rw e

-- a first part whose result is kept in a form too
pub err_as : {A B C D : Type 0} (h : A → D) (f : B → C) (m : Outcome A) (g : A → Outcome B) (r : Refusal) → Err r ≡ met_as h m → Err r ≡ met_as f (m >>= g)
err_as h f m g r e = err_first_as f m g r (as_refused h m r e)
