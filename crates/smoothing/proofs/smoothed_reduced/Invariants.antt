-- `smoothing::smoothed_reduced` meets its contract. Assumes nothing.
use Rattle.whole.specs.Row.{Filled}
use Rattle.rule.specs.Filter.{cell_weights}
use Rattle.rule.specs.Mirror.{odd}
use Rattle.rule.specs.Rounded.{rounded}
use Rattle.rule.specs.Rows.{weighed}
use Rattle.smoothing.proofs.smoothed_reduced.Given as goal

abbrev pub invariant-loop-j : goal.invariant-loop-j
invariant-loop-j l = Filled (λ k. rounded (weighed cell_weights (odd l.n l.v) k) 256) l.initial.reduced-items l.j l.reduced-items
