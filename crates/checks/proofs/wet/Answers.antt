-- `checks::wet` meets its contract: 4, then 26, then 5. Assumes nothing.
use mathlib.Core.Path.{◌∙◌, ap}
use Rattle.std.specs.Result.{result_and}
use Rattle.rule.specs.Refusals.{met}
use Rattle.checks.specs.Order.{wet_met}
use Rattle.checks.proofs.wet.Goals as goal

pub check-late-requires : goal.check-late-requires
check-late-requires c = record { depths = record { long = c.requires.0.long; small = c.requires.0.deep }; wide = c.requires.0.wide; short = c.requires.1 }

pub returns : goal.returns
returns c =
    c.and-2.ensures
    ∙ (λ i. result_and (c.and.ensures i) c.check-steep.result)
    ∙ (λ i. result_and (result_and (c.deep-dry.ensures i) (c.check-late.ensures i)) (c.check-steep.ensures i))
    ∙ wet_met c.args.n c.args.x c.args.t c.args.h.now c.args.e.now
