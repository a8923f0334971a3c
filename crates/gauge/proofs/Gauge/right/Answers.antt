-- `gauge::Gauge::right` meets its contract. Assumes nothing.
use mathlib.Core.Path.{sym, ◌∙◌}
use Rattle.gauge.specs.Small.{small_of}
use Rattle.gauge.proofs.Gauge.right.Goals as goal

pub sound-requires : goal.sound-requires
sound-requires c = small_of c.args.self (sym c.in_ranges.ensures ∙ c.if-in_ranges.true)
