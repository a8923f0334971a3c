-- `dispersion::second` meets its contract. Assumes nothing.
use borrow.Author.Rules.{rules}
use Rattle.rule.specs.Rows.{sizes}
use Rattle.rule.specs.Flux.{second}
use Rattle.dispersion.proofs.second.Goals as goal

pub weigh-requires : goal.weigh-requires
unfolding sizes
weigh-requires c = search rules

pub returns : goal.returns
unfolding second
returns c = search rules
