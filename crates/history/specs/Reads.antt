-- Reading: an outcome of a call of `read::read`, any that its contract permits.
use Rattle.std.specs.Prelude.{ℕ, List, true}
use Rattle.rule.specs.declared.Answer.{Answer}
use Rattle.rule.specs.Channel.{Channel}
use Rattle.read.proofs.read.Kinds as kinds
use Rattle.read.proofs.read.Reads.{Post}
use Rattle.history.specs.Outcomes.{Outcome}
use Rattle.history.specs.Lent.{lent}

abbrev pub Read : Type 0
Read = Outcome 8 kinds.ps kinds.r Post

-- the channel that is lent, after the bytes, and the one that is left
abbrev pub entry : Read → Channel
entry o = lent true true o.a.1.0 o.a.1.1

abbrev pub exit : Read → Channel
exit o = lent true true o.r.counts o.x.1.1

abbrev pub bytes : Read → List ℕ
bytes o = o.a.0.now

abbrev pub answer : Read → Answer
answer o = o.r.answer
