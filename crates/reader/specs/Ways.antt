-- The channel file: the check of its bytes answers the reader's refusal. Assumes nothing.
use Rattle.std.specs.Prelude.{ℕ, ◌≡◌, refl, None, Ok, List}
use Rattle.std.specs.Result.{result_and}
use Rattle.rule.specs.Refusals.{Outcome, refused, done, met_as}
use Rattle.rule.specs.File.{read_with}
use Rattle.rule.specs.Calls.{read, check_file}
use Rattle.answers.specs.Stages.{answer_of, answered}
use Rattle.form.specs.Reader.{fits_lent, rows_in}
use Rattle.opened.specs.Opened.{read_outside}

-- with a count of nothing
pub none_counted : {A : Type 0} (m : Outcome A) → result_and {U = ℕ} (met_as {B = Unit {0}} (λ _. tt) m) (Ok 0) ≡ met_as (λ _. 0) m
unfolding met_as
none_counted (refused r k) = refl
none_counted (done a) = refl

pub check_is : (s : List ℕ) → answer_of (met_as (λ _. 0) (read_with (fits_lent None) (rows_in None) s)) ≡ check_file s
unfolding check_file read
check_is s = answered s (λ _. s) (read_with (fits_lent None) (rows_in None) s) (read_outside (fits_lent None) (rows_in None) s) _ refl
