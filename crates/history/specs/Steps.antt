-- Stepping: an outcome of a call of `step::step`, any that its contract permits.
use Rattle.std.specs.Prelude.{true, false}
use Rattle.rule.specs.declared.Answer.{Answer}
use Rattle.rule.specs.Rows.{Row}
use Rattle.rule.specs.Channel.{Channel}
use Rattle.rule.specs.Counted.{after}
use Rattle.step.proofs.step.Kinds as kinds
use Rattle.step.proofs.step.Reads.{Post}
use Rattle.history.specs.Outcomes.{Outcome}
use Rattle.history.specs.Lent.{lent, left}

abbrev pub Step : Type 0
Step = Outcome 8 kinds.ps kinds.r Post

-- the channel at entry, and at exit
abbrev pub entry : Step → Channel
entry o = lent false true o.a.0 o.a.1

abbrev pub exit : Step → Channel
exit o = left (after o.a.0 o.r.accepted) o.a.1 o.x.1

-- the poured row, after the channel's
abbrev pub row : Step → Row
row o = o.a.1.1.1.1.1.1.1.1.0.now

abbrev pub answer : Step → Answer
answer o = o.r.answer
