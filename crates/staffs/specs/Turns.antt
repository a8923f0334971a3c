-- "Gauges": what a host does with each step: it takes the step, and then feeds the gauges what the step leaves. A step that is refused
-- feeds nothing: the records have the heights after the accepted steps alone, in their order. Assumes nothing.
use Rattle.std.specs.Prelude.{ℕ, List, [], ◌∷◌}
use Rattle.rule.specs.Rows.{Row}
use Rattle.rule.specs.Channel.{Channel}
use Rattle.rule.specs.Refusals.{Outcome, refused, done}
use Rattle.rule.specs.Step.{Stepped, step}
use Rattle.gauge.specs.OnGauges.{feed_call}

-- a channel, and the state of the gauges beside it
pub record Watched : Type 0 where
  pub channel : Channel
  pub state : List ℕ

-- after a step that came out so
unfoldable pub turned : Watched → Outcome Stepped → Watched
turned w (refused r k) = w
turned w (done t) = record { channel = t.channel; state = (feed_call t.channel w.state).left }

-- a turn for each poured row
unfoldable pub turns : List Row → Watched → Watched
turns [] w = w
turns (s ∷ more) w = turns more (turned w (step w.channel s))

-- the heights after each accepted step
unfoldable pub heights_after : List Row → Channel → List Row
heights_after [] c = []
heights_after (s ∷ more) c = elim (step c s) [ refused r k ↦ heights_after more c | done t ↦ t.channel.e ∷ heights_after more t.channel ]
