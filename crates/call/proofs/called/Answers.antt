-- `call::called` meets its contract. Assumes nothing.
use mathlib.Core.Path.{◌∙◌}
use Rattle.call.specs.Walk.{by_step, by_filter, by_run}
use Rattle.call.proofs.called.Goals as goal

pub returns-in-Step : goal.returns-in-Step
returns-in-Step c = c.step.ensures ∙ by_step _ _ c.in-Step.is

pub returns-in-Filter : goal.returns-in-Filter
returns-in-Filter c = c.filter.ensures ∙ by_filter _ _ c.in-Filter.is

pub returns-in-Run : goal.returns-in-Run
returns-in-Run c = c.run_for.ensures ∙ by_run _ _ c.in-Run.is
