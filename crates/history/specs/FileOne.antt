-- Bytes that are the one file of a channel.
use Rattle.std.specs.Prelude.{ℕ, ◌≡◌, List}
use Rattle.rule.specs.Channel.{Channel}
use Rattle.rule.specs.Refusals.{done}
use Rattle.rule.specs.File.{file_of}
use Rattle.rule.specs.Calls.{read}

-- bytes that are read as a channel, and are its file
pub record OneFile (s : List ℕ) : Type 0 where
  pub channel : Channel
  pub is : read s ≡ done channel
  pub file : file_of channel ≡ s
