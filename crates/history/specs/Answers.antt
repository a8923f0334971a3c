-- What the rule's runs leave and count, as steps with nothing poured. Assumes nothing.
use Rattle.std.specs.Prelude.{ℕ, ◌+◌, ◌≡◌}
use Rattle.rule.specs.Channel.{Channel}
use Rattle.rule.specs.Run.{Ran}
use Rattle.water.specs.History as rule
use Rattle.water.specs.History.{Call, pour, next, after, taken}
use Rattle.history.specs.History.{still}

-- a run is k steps with nothing poured, all accepted
pub record Taken (c left : Channel) (k : ℕ) : Type 0 where
  pub is : left ≡ after c (still c.N k)
  pub all : rule.accepts c (still c.N k) ≡ k

pub record More (c : Channel) (count : ℕ) (it : Ran) : Type 0 where
  pub k : ℕ
  pub counted : it.count ≡ count + k
  pub taken : Taken c it.channel k
