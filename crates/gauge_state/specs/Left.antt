-- "Gauges": a call's answer, and the lent row as it leaves it. Assumes nothing.
use Rattle.rule.specs.declared.Answer.{Answer}
use Rattle.rule.specs.Rows.{Row}
use Rattle.rule.specs.Calls.{Called}

abbrev pub leaves_row : Answer → Row → Called Row
leaves_row answer row = record { answer = answer; left = row }
