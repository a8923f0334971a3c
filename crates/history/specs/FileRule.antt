-- A history of calls over the bytes of a channel file, one after the other, each answered by the rule: what the file then holds,
-- what was poured and how many steps were accepted, told by the answers.
use Rattle.std.specs.Prelude.{ℕ, ◌+◌, List, [], ◌∷◌, ℤ, pos, ◌+ℤ◌}
use Rattle.rule.specs.declared.Answer.{Answer}
use Rattle.rule.specs.Rows.{sum}
use Rattle.rule.specs.File.{edition, count_of, row_of}
use Rattle.rule.specs.Calls.{Called, row_in, step_file, filter_file, run_for_file}
use Rattle.history.specs.History.{amount, one}

-- a step that pours a row of any bytes, a filter pass, or a run of at most so many steps
pub data FileCall : Type 0 where
  pour : List ℕ → FileCall
  smooth : FileCall
  run_for : ℕ → FileCall

-- on the bytes s
unfoldable pub on_bytes : List ℕ → FileCall → Called (List ℕ)
on_bytes s (pour p) = step_file s p
on_bytes s smooth = filter_file s
on_bytes s (run_for most) = run_for_file most s

-- and what calls leave one after the other
unfoldable pub file_after : List ℕ → List FileCall → List ℕ
file_after s [] = s
file_after s (call ∷ calls) = file_after (on_bytes s call).left calls

-- the sum of the heights in a file, the second of its rows
unfoldable pub heights : List ℕ → ℤ
heights s = sum (row_of edition (count_of s 1) s 1)

-- what a call pours by its answer: the rows of exactly those steps that answer number 0
unfoldable pub poured_with : FileCall → Answer → ℤ
poured_with (pour p) r = amount r (row_in p)
poured_with smooth r = pos 0
poured_with (run_for most) r = pos 0

-- and how many steps it accepts: steps that answer number 0, and the counts that runs answer
unfoldable pub accepted_with : FileCall → Answer → ℕ
accepted_with (pour p) r = one r
accepted_with smooth r = 0
accepted_with (run_for most) r = r.count

-- on the bytes s, as the rule answers
unfoldable pub file_poured_by : List ℕ → FileCall → ℤ
file_poured_by s call = poured_with call (on_bytes s call).answer

unfoldable pub file_poured : List ℕ → List FileCall → ℤ
file_poured s [] = pos 0
file_poured s (call ∷ calls) = file_poured_by s call +ℤ file_poured (on_bytes s call).left calls

unfoldable pub file_accepted_by : List ℕ → FileCall → ℕ
file_accepted_by s call = accepted_with call (on_bytes s call).answer

unfoldable pub file_accepted : List ℕ → List FileCall → ℕ
file_accepted s [] = 0
file_accepted s (call ∷ calls) = file_accepted_by s call + file_accepted (on_bytes s call).left calls
