-- A history of the library's own calls, one after the other, each with any arguments and any outcome that its contract permits:
-- what it poured, how many steps it had accepted, and the rule's calls that it stands for.
use Rattle.std.specs.Prelude.{ℕ, ◌+◌, ◌≡◌, cond, List, [], ◌∷◌, ◌++◌, eqb, ℤ, pos, ◌+ℤ◌, replicate}
use Rattle.rule.specs.declared.Answer.{Answer}
use Rattle.rule.specs.Rows.{Row, sum}
use Rattle.rule.specs.Channel.{Channel}
use Rattle.rule.specs.Calls.{Called, step_call, filter_call, run_call, run_for_call}
use Rattle.places.specs.Faults.{plain}
use Rattle.answers.specs.Stages.{refusal, acceptance}
use Rattle.run_for.specs.Runs.{nothing}
use Rattle.water.specs.History.{Call, pour, smooth}
use Rattle.history.specs.Steps as steps
use Rattle.history.specs.Filters as filters
use Rattle.history.specs.Runs as runs
use Rattle.history.specs.Makes as makes
use Rattle.history.specs.Reads as reads

-- a channel that the maker or the reader accepts
pub data Start : Channel → Type 0 where
  made : (o : makes.Make) → (makes.answer o).number ≡ 0 → Start (makes.exit o)
  read : (o : reads.Read) → (reads.answer o).number ≡ 0 → Start (reads.exit o)

-- one call of the library, from the channel that it is lent to the channel that it leaves
pub data Link : Channel → Channel → Type 0 where
  step : (o : steps.Step) → Link (steps.entry o) (steps.exit o)
  filter : (o : filters.Filter) → Link (filters.entry o) (filters.exit o)
  run : (o : runs.Run) → Link (runs.entry o) (runs.exit o)
  run_for : (o : runs.RunFor) → Link (runs.entry_for o) (runs.exit_for o)

-- calls one after the other, each lent what the one before left
pub data History (c : Channel) : Channel → Type 0 where
  none : History c c
  then : {between d : Channel} → History c between → Link between d → History c d

-- a step whose answer has number 0 pours all of s, any other nothing
unfoldable pub amount : Answer → Row → ℤ
amount r s = cond (eqb r.number 0) (sum s) (pos 0)

-- and counts for one step, any other for none
unfoldable pub one : Answer → ℕ
one r = cond (eqb r.number 0) 1 0

-- what was poured: the rows of exactly those step calls that answered number 0
unfoldable pub poured_by : {c d : Channel} → Link c d → ℤ
poured_by (step o) = amount (steps.answer o) (steps.row o)
poured_by (filter o) = pos 0
poured_by (run o) = pos 0
poured_by (run_for o) = pos 0

unfoldable pub poured : {c d : Channel} → History c d → ℤ
poured none = pos 0
poured (then h l) = poured h +ℤ poured_by l

-- how many steps were accepted: step calls that answered number 0, and the counts that runs answered
unfoldable pub accepted_by : {c d : Channel} → Link c d → ℕ
accepted_by (step o) = one (steps.answer o)
accepted_by (filter o) = 0
accepted_by (run o) = (runs.answer o).count
accepted_by (run_for o) = (runs.answer_for o).count

unfoldable pub accepted : {c d : Channel} → History c d → ℕ
accepted none = 0
accepted (then h l) = accepted h + accepted_by l

-- the answer, and what the rule answers and leaves for the same call
unfoldable pub answer : {c d : Channel} → Link c d → Answer
answer (step o) = steps.answer o
answer (filter o) = filters.answer o
answer (run o) = runs.answer o
answer (run_for o) = runs.answer_for o

unfoldable pub ruled : {c d : Channel} → Link c d → Called Channel
ruled (step o) = step_call (steps.entry o) (steps.row o)
ruled (filter o) = filter_call (filters.entry o)
ruled (run o) = run_call (runs.entry o)
ruled (run_for o) = run_for_call (runs.most o) (runs.entry_for o)

-- so many steps with nothing poured in n cells
abbrev pub still : ℕ → ℕ → List Call
still n k = replicate k (pour (nothing n))

-- the rule's history: of a run, as many steps with nothing poured as it accepted
unfoldable pub calls_by : {c d : Channel} → Link c d → List Call
calls_by (step o) = pour (steps.row o) ∷ []
calls_by (filter o) = smooth ∷ []
calls_by (run o) = still (runs.entry o).N (runs.answer o).count
calls_by (run_for o) = still (runs.entry_for o).N (runs.answer_for o).count

unfoldable pub calls : {c d : Channel} → History c d → List Call
calls none = []
calls (then h l) = calls h ++ calls_by l

-- the rows that a call pours, and what it answers on a complete channel where they pass the checks
unfoldable pub rows_of : {c d : Channel} → Link c d → List Row
rows_of (step o) = steps.row o ∷ []
rows_of (filter o) = []
rows_of (run o) = []
rows_of (run_for o) = []

unfoldable pub at_complete : {c d : Channel} → Link c d → Answer
at_complete (step o) = refusal (plain 11) 0
at_complete (filter o) = refusal (plain 11) 0
at_complete (run o) = acceptance 0
at_complete (run_for o) = acceptance 0
