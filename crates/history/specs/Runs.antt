-- Running: an outcome of a call of `run::run` or of `run_for::run_for`, any that its contract permits.
use Rattle.std.specs.Prelude.{ℕ, true, false}
use Rattle.rule.specs.declared.Answer.{Answer}
use Rattle.rule.specs.Channel.{Channel}
use Rattle.rule.specs.Counted.{after}
use Rattle.run.proofs.run.Kinds as run-kinds
use Rattle.run.proofs.run.Reads as run-reads
use Rattle.run_for.proofs.run_for.Kinds as run-for-kinds
use Rattle.run_for.proofs.run_for.Reads as run-for-reads
use Rattle.history.specs.Outcomes.{Outcome}
use Rattle.history.specs.Lent.{lent, left}

abbrev pub Run : Type 0
Run = Outcome 7 run-kinds.ps run-kinds.r run-reads.Post

abbrev pub RunFor : Type 0
RunFor = Outcome 7 run-for-kinds.ps run-for-kinds.r run-for-reads.Post

abbrev pub entry : Run → Channel
entry o = lent false true o.a.0 o.a.1

abbrev pub exit : Run → Channel
exit o = left (after o.a.0 o.r.accepted) o.a.1 o.x.1

abbrev pub answer : Run → Answer
answer o = o.r.answer

-- run_for takes `most` before the channel
abbrev pub most : RunFor → ℕ
most o = o.a.0

abbrev pub entry_for : RunFor → Channel
entry_for o = lent false true o.a.1.0 o.a.1.1

abbrev pub exit_for : RunFor → Channel
exit_for o = left (after o.a.1.0 o.r.accepted) o.a.1.1 o.x.1.1

abbrev pub answer_for : RunFor → Answer
answer_for o = o.r.answer
