-- Calls of any kind over the bytes of a channel file, one after the other, and by which function: which of them a history made, and
-- what it answered.
use Rattle.std.specs.Prelude.{ℕ, List, [], ◌∷◌, ◌++◌}
use Rattle.rule.specs.declared.Answer.{Answer}
use Rattle.rule.specs.Ranges.{most_steps}
use Rattle.history.specs.FileRule as rule
use Rattle.history.specs.FileRule.{FileCall, pour, smooth, on_bytes}
use Rattle.history.specs.FileCalls.{step_row, run_for_most, c_run_most}
use Rattle.history.specs.FileHistory as links
use Rattle.history.specs.FileHistory.{FileLink, FileHistory, none, then, answer}

-- of on_file, the running program's, and from C
pub data AnyFileCall : Type 0 where
  step : List ℕ → AnyFileCall
  filter : AnyFileCall
  run_for : ℕ → AnyFileCall
  run : AnyFileCall
  c_step : List ℕ → AnyFileCall
  c_filter : AnyFileCall
  c_run : ℕ → AnyFileCall

-- the rule's call
unfoldable pub call_of : AnyFileCall → FileCall
call_of (step p) = pour p
call_of filter = smooth
call_of (run_for most) = rule.run_for most
call_of run = rule.run_for most_steps
call_of (c_step p) = pour p
call_of c_filter = smooth
call_of (c_run most) = rule.run_for most

-- what the rule answers to calls one after the other
unfoldable pub file_answers_to : List ℕ → List FileCall → List Answer
file_answers_to s [] = []
file_answers_to s (call ∷ calls) = (on_bytes s call).answer ∷ file_answers_to (on_bytes s call).left calls

-- the calls of a history, and its answers
unfoldable pub asked_by : {s t : List ℕ} → FileLink s t → AnyFileCall
asked_by (links.step o) = step (step_row o)
asked_by (links.filter o) = filter
asked_by (links.run_for o) = run_for (run_for_most o)
asked_by (links.run o) = run
asked_by (links.c_step o) = c_step (step_row o)
asked_by (links.c_filter o) = c_filter
asked_by (links.c_run o) = c_run (c_run_most o)

unfoldable pub asked : {s t : List ℕ} → FileHistory s t → List AnyFileCall
asked none = []
asked (then h l) = asked h ++ (asked_by l ∷ [])

unfoldable pub answers : {s t : List ℕ} → FileHistory s t → List Answer
answers none = []
answers (then h l) = answers h ++ (answer l ∷ [])
