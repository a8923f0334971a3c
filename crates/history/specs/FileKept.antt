-- What a call over bytes answers where it leaves every byte, and how many bytes the running program writes.
use Rattle.std.specs.Prelude.{ℕ, ◌≡◌, List, length}
use Rattle.rule.specs.declared.Answer.{Answer}
use Rattle.rule.specs.Refusals.{number_of}
use Rattle.rule.specs.Calls.{read}
use Rattle.on_file.specs.Stays.{Refused, Stepless}
use Rattle.history.specs.FileRule.{FileCall, pour, smooth, run_for}

-- a step or a filter pass that answers a refusal, and a run that took no step
abbrev pub Idle : FileCall → Answer → Type 0
Idle (pour p) r = Refused r
Idle smooth r = Refused r
Idle (run_for most) r = Stepless r

-- the running program's call answers how many bytes to write: all that it leaves where the reader takes what it was lent, else none
pub record Writes (s t : List ℕ) (n : ℕ) : Type 0 where
  pub all : number_of (read s) ≡ 0 → n ≡ length t
  pub nothing : (number_of (read s) ≡ 0 → ⊥) → n ≡ 0
