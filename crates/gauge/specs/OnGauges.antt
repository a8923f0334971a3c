-- "Gauges": each call's whole answer. The channel's own refusals come first; a refused call leaves all as it was, and no call
-- changes the channel.
use Rattle.std.specs.Prelude.{ℕ, List, [], length}
use Rattle.rule.specs.Rows.{Row}
use Rattle.rule.specs.Channel.{Channel}
use Rattle.rule.specs.Refusals.{◌>>=◌}
use Rattle.rule.specs.Checks.{checked}
use Rattle.rule.specs.Calls.{Called, called, plainly, read}
use Rattle.gauge.specs.State.{free, placed, fed, readings}

-- over a channel's lent rows; the count of a gauge that is placed is its place
unfoldable pub place_call : Channel → ℕ → List ℕ → Called (List ℕ)
place_call c j s = called s (λ _. free s) (λ t. t) (checked c [] >>= λ _. placed c.N j s)

unfoldable pub feed_call : Channel → List ℕ → Called (List ℕ)
feed_call c s = plainly s (checked c [] >>= λ _. fed c.e s)

-- over the bytes of a channel file
unfoldable pub place_file : List ℕ → ℕ → List ℕ → Called (List ℕ)
place_file file j s = called s (λ _. free s) (λ t. t) (read file >>= λ c. placed c.N j s)

unfoldable pub feed_file : List ℕ → List ℕ → Called (List ℕ)
feed_file file s = plainly s (read file >>= λ c. fed c.e s)

-- of the state alone, into a lent row
unfoldable pub read_state : List ℕ → Row → Called Row
read_state s room = plainly room (readings s (length room))
