-- "Gauges": the heights in a channel file that the reader takes. Assumes nothing.
use Rattle.std.specs.Prelude.{ℕ, ◌≤◌, ◌≡◌, refl, Bool, List, length}
use Rattle.rule.specs.Rows.{Row}
use Rattle.rule.specs.Ranges.{least_cells, most_cells}
use Rattle.rule.specs.Channel.{lengths}
use Rattle.rule.specs.Layout.{length_of}
use Rattle.rule.specs.File.{edition, count_of, row_of, channel_of}
use Rattle.little.specs.Entries.{length-row_at}
use Rattle.opened.specs.Opened.{Opened}

-- a file of n cells whose form is right
pub record Held (n : ℕ) (s : List ℕ) : Type 0 where
  pub cells : n ≡ count_of s 1
  pub least : least_cells ≤ n
  pub most : n ≤ most_cells
  pub sized : length s ≡ length_of edition n

pub held_by : {fits : ℕ → Bool} {poured : List Row} {s : List ℕ} → Opened fits poured s → (n : ℕ) → n ≡ count_of s 1 → Held n s
held_by o n e = rw e (record { cells = refl; least = o.least; most = o.most; sized = o.sized })

pub length_heights : (s : List ℕ) → length (channel_of s).e ≡ count_of s 1
unfolding channel_of row_of lengths
length_heights s = length-row_at _ s _ (count_of s 1)
