-- Making: an outcome of a call of `make::make`, any that its contract permits.
use Rattle.std.specs.Prelude.{false}
use Rattle.rule.specs.declared.Answer.{Answer}
use Rattle.rule.specs.Channel.{Channel}
use Rattle.rule.specs.Counted.{after}
use Rattle.make.proofs.make.Kinds as kinds
use Rattle.make.proofs.make.Reads.{Post}
use Rattle.history.specs.Outcomes.{Outcome}
use Rattle.history.specs.Lent.{lent, made}

abbrev pub Make : Type 0
Make = Outcome 7 kinds.ps kinds.r Post

abbrev pub entry : Make → Channel
entry o = lent false false o.a.0 o.a.1

abbrev pub exit : Make → Channel
exit o = made (after o.a.0 o.r.accepted) o.a.1 o.x.1

abbrev pub answer : Make → Answer
answer o = o.r.answer
