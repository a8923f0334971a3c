-- `places::lower` meets its contract. Assumes nothing.
use Rattle.places.specs.Lowest.{lower_here, lower_before}
use Rattle.places.proofs.lower.Goals as goal

pub returns-then-is_none-passes : goal.returns-then-is_none-passes
returns-then-is_none-passes c = lower_here c.args.place c.is_none.result c.args.passes c.args.j c.is_none.ensures c.if-is_none-passes.true

pub returns : goal.returns
returns c = lower_before c.args.place c.is_none.result c.args.passes c.args.j c.is_none.ensures c.if-is_none-passes.false
