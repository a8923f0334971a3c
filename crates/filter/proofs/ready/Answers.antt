-- `filter::ready` meets its contract: the checks of the input, then whether the channel is complete. Assumes nothing.
use mathlib.Core.Path.{◌∙◌}
use mathlib.Core.List.{[]}
use Rattle.rule.specs.Counted.{lent}
use Rattle.places.specs.Met.{from_err}
use Rattle.filter.specs.Filtered.{not_checked, is_complete_lem, is_ready}
use Rattle.filter.proofs.ready.Goals as goal

pub returns-in_err-check : goal.returns-in_err-check
returns-in_err-check c = from_err _ _ c.from_residual.ensures.1 ∙ not_checked (lent c.args.c) [] _ c.in_err-check.ensures

pub returns-then-c : goal.returns-then-c
returns-then-c c = is_complete_lem (lent c.args.c) [] c.in_ok-check.ensures c.if-c.true

pub returns : goal.returns
returns c = is_ready (lent c.args.c) [] c.in_ok-check.ensures c.if-c.false
