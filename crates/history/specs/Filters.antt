-- Filtering: an outcome of a call of `filter::filter`, any that its contract permits.
use Rattle.std.specs.Prelude.{true, false}
use Rattle.rule.specs.declared.Answer.{Answer}
use Rattle.rule.specs.Channel.{Channel}
use Rattle.filter.proofs.filter.Kinds as kinds
use Rattle.filter.proofs.filter.Reads.{Post}
use Rattle.history.specs.Outcomes.{Outcome}
use Rattle.history.specs.Lent.{lent, left}

abbrev pub Filter : Type 0
Filter = Outcome 7 kinds.ps kinds.r Post

abbrev pub entry : Filter → Channel
entry o = lent false true o.a.0 o.a.1

abbrev pub exit : Filter → Channel
exit o = left o.a.0 o.a.1 o.x.1

abbrev pub answer : Filter → Answer
answer o = o.r
