-- What a file says of its channel, and what a call over bytes leaves of that.
use Rattle.std.specs.Prelude.{ℕ, ◌+◌, ◌≡◌, ℤ, ◌+ℤ◌}
use mathlib.Core.List.{List}
use Rattle.rule.specs.declared.Answer.{Answer}
use Rattle.rule.specs.Rows.{sum}
use Rattle.rule.specs.Channel.{Channel}
use Rattle.rule.specs.Refusals.{number_of}
use Rattle.rule.specs.File.{count_of, channel_of}
use Rattle.rule.specs.Calls.{Called, read}
use Rattle.little.specs.Numbers.{AreBytes}
use Rattle.water.specs.History as rule
use Rattle.water.specs.History.{Call, pour, smooth, after}
use Rattle.history.specs.FileRule.{heights}

-- the counts, the heights and the damping of a channel, in its file
pub record In (s : List ℕ) (c : Channel) : Type 0 where
  pub heights : heights s ≡ sum c.e
  pub accepted : count_of s 4 ≡ c.accepted
  pub wanted : count_of s 5 ≡ c.wanted
  pub damping : (channel_of s).damping ≡ c.damping

-- what a call leaves of the bytes s
pub record Left (s left : List ℕ) (z : ℤ) (k : ℕ) : Type 0 where
  pub water : heights left ≡ heights s +ℤ z
  pub grown : count_of left 4 ≡ count_of s 4 + k
  pub same : count_of left 5 ≡ count_of s 5
  pub damped : (channel_of left).damping ≡ (channel_of s).damping
  pub taken : number_of (read s) ≡ 0 → number_of (read left) ≡ 0
  pub stays : AreBytes s → count_of s 4 ≡ count_of s 5 → left ≡ s

-- a call f on a channel is the rule's calls, with what they pour and count
pub record Moves (f : Channel → Called Channel) (z : Answer → ℤ) (k : Answer → ℕ) (c : Channel) : Type 0 where
  pub calls : List Call
  pub is : (f c).left ≡ after c calls
  pub pours : rule.poured c calls ≡ z (f c).answer
  pub counts : rule.accepts c calls ≡ k (f c).answer
