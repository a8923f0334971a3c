-- Refusal numbers: a file that the reader takes never meets 26 later, whatever is called on it and poured. Assumes nothing.
use Rattle.std.specs.Prelude.{ℕ, ◌≡◌, refl, Bool, true, List, [], ◌∷◌}
use Rattle.std.proofs.Common.{subst, sym}
use Rattle.rule.specs.Rows.{Row}
use Rattle.rule.specs.Channel.{Channel}
use Rattle.rule.specs.declared.Refusal.TheVariants.{Shape, FileLength, FileEdition, FileOffsets}
use Rattle.rule.specs.Refusals.{number, Outcome, refused, done, number_of}
use Rattle.rule.specs.Checks.{checked}
use Rattle.rule.specs.File.{channel_of, read_with}
use Rattle.rule.specs.Calls.{Called, read, row_in, holds, on_file, step_call, filter_call, run_for_call, step_file, filter_file, run_for_file}
use Rattle.checks.specs.Numbers.{meets_then, meets_test, result_of}
use Rattle.checks.specs.Allowed.{unpoured}
use Rattle.files.specs.Reading.{read_of}
use Rattle.files.specs.Trips.{read_passes}
use Rattle.water.specs.Late.{Timely, InTime, Refuses, Paced, paced_of, allowed_timely, step_timely, filter_timely, run_for_timely}
use Rattle.history.specs.FileRule.{FileCall, pour, smooth, run_for, on_bytes}

-- the time step of its channel is allowed
paced_file : (s : List ℕ) → number_of (read s) ≡ 0 → Paced (channel_of s)
unfolding read
paced_file s z =
    let r = result_of (read_with (λ _. true) [] s) z in
    subst Paced (sym (read_of (λ _. true) [] s r.result r.is).is)
    (paced_of r.result [] (read_passes (λ _. true) [] s r.result r.is))

-- what the reader refuses it by, with what is poured
reader_timely : (fits : ℕ → Bool) (poured : List Row) (s : List ℕ) → Paced (channel_of s) → Refuses (read_with fits poured s)
unfolding read_with number
reader_timely fits poured s p =
    meets_test InTime _ FileLength _ refl
    (meets_test InTime _ FileEdition _ refl
    (meets_test InTime _ Shape _ refl
    (meets_test InTime _ FileLength _ refl
    (meets_test InTime _ FileOffsets _ refl
    (meets_then InTime _ _ (allowed_timely (channel_of s) p poured) (λ _. tt))))))

module _ (f : Channel → Called Channel) (timely : (c : Channel) → number_of (checked c []) ≡ 0 → Timely (f c).answer.number) (fits : ℕ → Bool) (poured : List Row) (s : List ℕ) where
  by_read : (o : Outcome Channel) → read_with fits poured s ≡ o → Refuses o → Timely (on_file f s o).answer.number
  unfolding on_file
  by_read (refused r k) e h = h
  by_read (done c) e h = timely c (unpoured c poured (read_passes fits poured s c e))

  on_file_timely : number_of (read s) ≡ 0 → Timely (on_file f s (read_with fits poured s)).answer.number
  on_file_timely z = by_read (read_with fits poured s) refl (reader_timely fits poured s (paced_file s z))

pub file_timely : (s : List ℕ) (call : FileCall) → number_of (read s) ≡ 0 → Timely (on_bytes s call).answer.number
unfolding on_bytes step_file filter_file run_for_file read
file_timely s (pour p) z = on_file_timely (λ c. step_call c (row_in p)) (λ c y. step_timely c (row_in p) y) (holds p) (row_in p ∷ []) s z
file_timely s smooth z = on_file_timely filter_call filter_timely (λ _. true) [] s z
file_timely s (run_for most) z = on_file_timely (run_for_call most) (run_for_timely most) (λ _. true) [] s z
