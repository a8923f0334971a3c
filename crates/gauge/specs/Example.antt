-- "Gauges": records by computing. Assumes nothing.
use Rattle.std.specs.Prelude.{◌≡◌, refl, ℕ, zero, suc, List, [], ◌∷◌, ◌++◌, take, drop, replicate, ℤ, pos}
use Rattle.whole.specs.Row.{tab}
use Rattle.rule.specs.Ranges.{between}
use Rattle.rule.specs.Refusals.{Outcome, done, ◌>>=◌, require, number, number_of}
use Rattle.rule.specs.Bytes.{bytes, spelled, count_at, complement, signed, row_bytes, row_at}
use Rattle.rule.specs.Rows.{Row, minus, map, all, lowest_after, sum}
use Rattle.rule.specs.Rows.{lowest as ruleLowest}
use Rattle.gauge.specs.declared.Gauge.{Gauge}
use Rattle.gauge.specs.Waves.{upward, cut_before, cut_after, begun, but_last, waves_in, higher, lower, highest_from, lowest_from, highest, lowest, height_of, heights, wave_count, largest_height, sum_of_heights}
use Rattle.gauge.specs.Gauge.{last_of, last_piece, since, gauge_of, met, waves as wavesOf, wave_of, ended, crossed, widened, passed, grown, fed_all, from, is_empty, in_ranges, below, sound, right}
use Rattle.gauge.specs.State.{numbers, gauge_at, gauges_in, flat, state_row, gauges_of, state_of, formed, taken, free, with_gauge, placeable, placed, stands_in, has_room, fed_from, feedable, fed, reading, readable, readings}

-- crossings at the 2nd, 6th and 9th height; two complete waves, 8 and 9 high
abbrev example : Row
example = minus 1 ∷ pos 0 ∷ pos 5 ∷ minus 3 ∷ minus 1 ∷ pos 2 ∷ pos 7 ∷ minus 2 ∷ pos 0 ∷ pos 3 ∷ []

waves : waves_in example ≡ (pos 0 ∷ pos 5 ∷ minus 3 ∷ minus 1 ∷ []) ∷ (pos 2 ∷ pos 7 ∷ minus 2 ∷ []) ∷ []
unfolding upward cut_before cut_after begun but_last waves_in
waves = refl

abbrev counted : Gauge
counted = record { cell = pos 7; fed = pos 10; last = pos 3; crossings = pos 3; highest = pos 3; lowest = pos 0; largest = pos 9; sum = pos 17 }

by_record : gauge_of (pos 7) example ≡ counted
unfolding upward cut_before cut_after begun but_last waves_in higher lower highest_from lowest_from highest lowest height_of heights largest_height sum_of_heights last_of last_piece since gauge_of map sum
by_record = refl

-- the same, height by height
by_steps : fed_all (gauge_of (pos 7) []) example ≡ counted
unfolding upward cut_before cut_after begun but_last waves_in higher lower highest_from lowest_from highest lowest height_of heights largest_height sum_of_heights last_of last_piece since gauge_of map sum met wave_of ended crossed widened passed grown fed_all
by_steps = refl

-- how many waves, the largest height and the sum of the heights, of several records: nothing fed; the first height no crossing, at zero
-- and above; zero after zero none; never below zero; one crossing; two; the wave that is open no part of the sum; a plateau at zero;
-- what comes before the first crossing no part of a wave
abbrev counts : Row → List ℤ
counts r = pos (wave_count r) ∷ largest_height r ∷ sum_of_heights r ∷ []

several :
    map counts
    (
    []
    ∷ (pos 0 ∷ [])
    ∷ (pos 0 ∷ pos 0 ∷ pos 0 ∷ [])
    ∷ (pos 3 ∷ pos 1 ∷ pos 4 ∷ [])
    ∷ (minus 2 ∷ pos 9 ∷ minus 9 ∷ [])
    ∷ (minus 2 ∷ pos 9 ∷ minus 9 ∷ pos 0 ∷ [])
    ∷ (minus 1 ∷ pos 1 ∷ minus 1 ∷ pos 1 ∷ pos 50 ∷ minus 50 ∷ [])
    ∷ (minus 1 ∷ pos 0 ∷ pos 0 ∷ minus 1 ∷ pos 0 ∷ pos 0 ∷ [])
    ∷ (pos 90 ∷ minus 90 ∷ pos 1 ∷ minus 1 ∷ pos 1 ∷ [])
    ∷ [])
    ≡ (pos 0 ∷ pos 0 ∷ pos 0 ∷ [])
    ∷ (pos 0 ∷ pos 0 ∷ pos 0 ∷ [])
    ∷ (pos 0 ∷ pos 0 ∷ pos 0 ∷ [])
    ∷ (pos 0 ∷ pos 0 ∷ pos 0 ∷ [])
    ∷ (pos 0 ∷ pos 0 ∷ pos 0 ∷ [])
    ∷ (pos 1 ∷ pos 18 ∷ pos 18 ∷ [])
    ∷ (pos 1 ∷ pos 2 ∷ pos 2 ∷ [])
    ∷ (pos 1 ∷ pos 1 ∷ pos 1 ∷ [])
    ∷ (pos 1 ∷ pos 2 ∷ pos 2 ∷ [])
    ∷ []
unfolding upward cut_before cut_after begun but_last waves_in higher lower highest_from lowest_from highest lowest height_of heights wave_count largest_height sum_of_heights map sum
several = refl

-- The same over bytes: a gauge at cell 3 and one at cell 8 of a channel of eight cells, the second placed after three heights; what is
-- read of the eight places then.
abbrev heights_of : ℤ → Row
heights_of x = pos 0 ∷ pos 0 ∷ x ∷ pos 0 ∷ pos 0 ∷ pos 0 ∷ pos 0 ∷ x ∷ []

abbrev feed_all : Row → List ℕ → Outcome (List ℕ)
feed_all [] s = done s
feed_all (x ∷ r) s = fed (heights_of x) s >>= λ t. feed_all r t

abbrev places_full : ℕ → List ℕ → Outcome (List ℕ)
places_full zero s = done s
places_full (suc k) s = placed 8 1 s >>= λ t. places_full k t

over_bytes :
    (placed 8 3 (replicate 512 0) >>= λ s. feed_all (take 3 example) s >>= λ s. placed 8 8 s >>= λ s. feed_all (drop 3 example) s >>= λ s. readings s 48)
    ≡ done (pos 3 ∷ pos 10 ∷ pos 3 ∷ pos 2 ∷ pos 9 ∷ pos 17 ∷ pos 8 ∷ pos 7 ∷ pos 2 ∷ pos 1 ∷ pos 9 ∷ pos 9 ∷ replicate 36 (pos 0))
unfolding upward higher lower met wave_of ended crossed widened passed grown wavesOf from is_empty in_ranges below sound right gauge_of last_of last_piece since begun cut_after but_last waves_in highest lowest highest_from heights largest_height sum_of_heights map sum all lowest_after ruleLowest tab numbers gauge_at gauges_in flat state_row gauges_of state_of formed taken free with_gauge placeable placed stands_in has_room fed_from feedable fed reading readable readings require ◌>>=◌ between bytes spelled count_at complement signed row_bytes row_at
over_bytes = refl

-- Refusals: a ninth gauge; cells 9 and 0 of eight; 511 bytes; a place without a cell that was fed a height; room for 47 readings; a
-- channel of seven cells fed to a gauge at cell 8; a gauge that holds 1,000,000 heights. And with no gauge feeding is accepted.
abbrev full : List ℕ
full = 3 ∷ 0 ∷ 0 ∷ 0 ∷ 0 ∷ 0 ∷ 0 ∷ 0 ∷ 64 ∷ 66 ∷ 15 ∷ replicate 501 0

refusals :
    number_of (places_full 9 (replicate 512 0))
    ∷ number_of (placed 8 9 (replicate 512 0))
    ∷ number_of (placed 8 0 (replicate 512 0))
    ∷ number_of (placed 8 3 (replicate 511 0))
    ∷ number_of (fed (heights_of (pos 1)) (replicate 8 0 ++ (1 ∷ replicate 503 0)))
    ∷ number_of (readings (replicate 512 0) 47)
    ∷ number_of (placed 8 8 (replicate 512 0) >>= λ s. fed (take 7 (heights_of (pos 1))) s)
    ∷ number_of (fed (heights_of (pos 1)) full)
    ∷ number_of (fed (heights_of (pos 1)) (replicate 512 0))
    ∷ []
    ≡ 20 ∷ 21 ∷ 21 ∷ 12 ∷ 14 ∷ 15 ∷ 21 ∷ 30 ∷ 0 ∷ []
unfolding upward higher lower met wave_of ended crossed widened passed grown wavesOf from is_empty in_ranges below sound right gauge_of last_of last_piece since begun cut_after but_last waves_in highest lowest highest_from heights largest_height sum_of_heights map sum all lowest_after ruleLowest tab numbers gauge_at gauges_in flat state_row gauges_of state_of formed taken free with_gauge placeable placed stands_in has_room fed_from feedable fed reading readable readings require ◌>>=◌ between bytes spelled count_at complement signed row_bytes row_at number_of number
refusals = refl
