-- A history of the library's own calls over the bytes of a channel file, one after the other, each with any bytes and any outcome
-- that its contract permits: what it poured, and how many steps it had accepted. Calls from C and the running program's among them.
use Rattle.std.specs.Prelude.{ℕ, ◌+◌, ◌≡◌, List, [], ◌∷◌, ◌++◌, ℤ, pos, ◌+ℤ◌}
use Rattle.rule.specs.declared.Answer.{Answer}
use Rattle.rule.specs.Calls.{Called, run_for_file}
use Rattle.rule.specs.Ranges.{most_steps}
use Rattle.packing.specs.Packed.{unpacked}
use Rattle.history.specs.FileRule as rule
use Rattle.history.specs.FileRule.{FileCall, pour, smooth, on_bytes, poured_with, accepted_with}
use Rattle.history.specs.FileCalls.{Step, Filter, RunFor, Run, Check, Make, CStep, CFilter, CRun, CCheck, CMake, step_entry, step_exit, step_row, entry, exit, run_for_most, run_for_entry, run_for_exit, c_run_most, c_run_entry, c_run_exit, check_bytes, make_exit}

-- bytes that the maker or the reader accepts
pub data FileStart : List ℕ → Type 0 where
  made : (o : Make) → o.r.number ≡ 0 → FileStart (make_exit o)
  checked : (o : Check) → o.r.number ≡ 0 → FileStart (check_bytes o)
  c_made : (o : CMake) → (unpacked o.r).number ≡ 0 → FileStart (make_exit o)
  c_checked : (o : CCheck) → (unpacked o.r).number ≡ 0 → FileStart (check_bytes o)

-- one call, from the bytes that it is lent to the bytes that it leaves
pub data FileLink : List ℕ → List ℕ → Type 0 where
  step : (o : Step) → FileLink (step_entry o) (step_exit o)
  filter : (o : Filter) → FileLink (entry o) (exit o)
  run_for : (o : RunFor) → FileLink (run_for_entry o) (run_for_exit o)
  run : (o : Run) → FileLink (entry o) (exit o)
  c_step : (o : CStep) → FileLink (step_entry o) (step_exit o)
  c_filter : (o : CFilter) → FileLink (entry o) (exit o)
  c_run : (o : CRun) → FileLink (c_run_entry o) (c_run_exit o)

-- calls one after the other, each lent what the one before left
pub data FileHistory (s : List ℕ) : List ℕ → Type 0 where
  none : FileHistory s s
  then : {between t : List ℕ} → FileHistory s between → FileLink between t → FileHistory s t

-- the rule's call that it stands for
unfoldable pub call_by : {s t : List ℕ} → FileLink s t → FileCall
call_by (step o) = pour (step_row o)
call_by (filter o) = smooth
call_by (run_for o) = rule.run_for (run_for_most o)
call_by (run o) = rule.run_for most_steps
call_by (c_step o) = pour (step_row o)
call_by (c_filter o) = smooth
call_by (c_run o) = rule.run_for (c_run_most o)

-- the answer, which for C is packed in one number. The running program's call gives no number but how many bytes to write: for it the rule's answer stands
unfoldable pub answer : {s t : List ℕ} → FileLink s t → Answer
answer (step o) = o.r
answer (filter o) = o.r
answer (run_for o) = o.r
answer (run o) = (run_for_file most_steps (entry o)).answer
answer (c_step o) = unpacked o.r
answer (c_filter o) = unpacked o.r
answer (c_run o) = unpacked o.r

-- what the rule answers and leaves for the same call
unfoldable pub ruled : {s t : List ℕ} → FileLink s t → Called (List ℕ)
ruled {s} l = on_bytes s (call_by l)

-- what was poured: the rows of exactly those step calls that answered number 0
unfoldable pub poured_by : {s t : List ℕ} → FileLink s t → ℤ
poured_by l = poured_with (call_by l) (answer l)

unfoldable pub poured : {s t : List ℕ} → FileHistory s t → ℤ
poured none = pos 0
poured (then h l) = poured h +ℤ poured_by l

-- how many steps were accepted: step calls that answered number 0, and the counts that runs answered
unfoldable pub accepted_by : {s t : List ℕ} → FileLink s t → ℕ
accepted_by l = accepted_with (call_by l) (answer l)

unfoldable pub accepted : {s t : List ℕ} → FileHistory s t → ℕ
accepted none = 0
accepted (then h l) = accepted h + accepted_by l

-- the rule's history
unfoldable pub calls : {s t : List ℕ} → FileHistory s t → List FileCall
calls none = []
calls (then h l) = calls h ++ (call_by l ∷ [])
