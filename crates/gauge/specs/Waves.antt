-- "Gauges": what a gauge counts, by the record of all heights that it was fed, the first one first.
use Rattle.std.specs.Prelude.{ℕ, Bool, cond, ◌&&◌, List, [], ◌∷◌, length, ℤ, pos, ◌-ℤ◌}
use Rattle.std.specs.Int.Signed.{lt_z, le_z}
use Rattle.rule.specs.Rows.{Row, map, sum}

-- an upward crossing: a height of zero or more directly after one below zero
unfoldable pub upward : ℤ → ℤ → Bool
upward before height = lt_z before (pos 0) && le_z (pos 0) height

-- A record, cut directly before each upward crossing: the heights before the first one, and what each one begins, up to the next
-- one or, of the last, to the end.
pub record Cut : Type 0 where
  pub early : Row
  pub begun : List Row

-- with a height put before it, which is an upward crossing or not
unfoldable pub cut_before : Bool → ℤ → Cut → Cut
cut_before crossing x c = cond crossing (record { early = []; begun = (x ∷ c.early) ∷ c.begun }) (record { early = x ∷ c.early; begun = c.begun })

-- the heights that follow `before`
unfoldable pub cut_after : ℤ → Row → Cut
cut_after before [] = record { early = []; begun = [] }
cut_after before (x ∷ r) = cut_before (upward before x) x (cut_after x r)

-- nothing below zero stands before the first height, so that it is no crossing
unfoldable pub begun : Row → List Row
begun r = (cut_after (pos 0) r).begun

unfoldable pub but_last : List Row → List Row
but_last [] = []
but_last (p ∷ []) = []
but_last (p ∷ q ∷ ps) = p ∷ but_last (q ∷ ps)

-- the complete waves: the last one begun is still open
unfoldable pub waves_in : Row → List Row
waves_in r = but_last (begun r)

unfoldable pub higher : ℤ → ℤ → ℤ
higher a b = cond (lt_z a b) b a

unfoldable pub lower : ℤ → ℤ → ℤ
lower a b = cond (lt_z b a) b a

-- the highest of `top` and a row, the lowest of `low` and a row
unfoldable pub highest_from : ℤ → Row → ℤ
highest_from top [] = top
highest_from top (x ∷ r) = highest_from (higher top x) r

unfoldable pub lowest_from : ℤ → Row → ℤ
lowest_from low [] = low
lowest_from low (x ∷ r) = lowest_from (lower low x) r

-- of a row; 0 of an empty one
unfoldable pub highest : Row → ℤ
highest [] = pos 0
highest (x ∷ r) = highest_from x r

unfoldable pub lowest : Row → ℤ
lowest [] = pos 0
lowest (x ∷ r) = lowest_from x r

-- a wave's height: the largest fed value in it minus the smallest
unfoldable pub height_of : Row → ℤ
height_of wave = highest wave -ℤ lowest wave

unfoldable pub heights : Row → Row
heights r = map height_of (waves_in r)

-- the three counts of a record: its complete waves, the largest height among them, 0 where there is none, and the sum of all
unfoldable pub wave_count : Row → ℕ
wave_count r = length (waves_in r)

unfoldable pub largest_height : Row → ℤ
largest_height r = highest_from (pos 0) (heights r)

unfoldable pub sum_of_heights : Row → ℤ
sum_of_heights r = sum (heights r)
