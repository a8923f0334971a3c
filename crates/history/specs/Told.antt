-- What a call, and a history, of the library is told by: the rule's calls that it stands for, what they pour and what they count.
use Rattle.std.specs.Prelude.{◌≡◌}
use Rattle.rule.specs.Channel.{Channel}
use Rattle.water.specs.History as rule
use Rattle.water.specs.History.{after}
use Rattle.history.specs.History.{Link, History, poured_by, poured, accepted_by, accepted, calls_by, calls}

-- with what it pours and counts there
pub record Told {c d : Channel} (l : Link c d) : Type 0 where
  pub is : d ≡ after c (calls_by l)
  pub pours : rule.poured c (calls_by l) ≡ poured_by l
  pub counts : rule.accepts c (calls_by l) ≡ accepted_by l

-- and of all calls of a history
pub record Whole {c d : Channel} (h : History c d) : Type 0 where
  pub is : d ≡ after c (calls h)
  pub pours : rule.poured c (calls h) ≡ poured h
  pub counts : rule.accepts c (calls h) ≡ accepted h
