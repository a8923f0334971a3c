-- Water is kept by calls over the bytes of a channel file, and so are the counts. Assumes nothing.
use Rattle.std.specs.Prelude.{ℕ, ◌+◌, ◌≤◌, ◌≡◌, refl, List, [], ◌∷◌, ◌+ℤ◌}
use Rattle.std.proofs.Common.{sym, ◌∙◌, ap, arith}
use Rattle.std.proofs.Math.IntN.{+ℤ_idr, +ℤ_assoc}
use Rattle.rule.specs.Refusals.{number_of}
use Rattle.rule.specs.File.{count_of}
use Rattle.rule.specs.Calls.{read}
use Rattle.little.specs.Numbers.{AreBytes}
use Rattle.history.specs.FileRule.{FileCall, on_bytes, file_after, heights, file_poured_by, file_poured, file_accepted}
use Rattle.history.proofs.Files.{call_left, taken_bounded}

-- in any bytes, by any calls: the heights add up to exactly their starting sum and every amount poured in by the accepted steps
pub file_water_kept : (s : List ℕ) (calls : List FileCall) → heights (file_after s calls) ≡ heights s +ℤ file_poured s calls
unfolding file_after file_poured
file_water_kept s [] = sym (+ℤ_idr (heights s))
file_water_kept s (call ∷ calls) =
    let new = (on_bytes s call).left in
    file_water_kept new calls
    ∙ ap (λ t. t +ℤ file_poured new calls) (call_left s call).water
    ∙ +ℤ_assoc (heights s) (file_poured_by s call) (file_poured new calls)

-- the count of accepted steps, the fifth of the file's counts, is the starting count and the accepted ones of the history
pub file_count_grows : (s : List ℕ) (calls : List FileCall) → count_of (file_after s calls) 4 ≡ count_of s 4 + file_accepted s calls
unfolding file_after file_accepted
file_count_grows s [] = omega arith
file_count_grows s (call ∷ calls) = omega (arith, file_count_grows (on_bytes s call).left calls, (call_left s call).grown)

-- the count that is wanted, the sixth, stays
pub file_wanted_stays : (s : List ℕ) (calls : List FileCall) → count_of (file_after s calls) 5 ≡ count_of s 5
unfolding file_after
file_wanted_stays s [] = refl
file_wanted_stays s (call ∷ calls) = file_wanted_stays (on_bytes s call).left calls ∙ (call_left s call).same

-- from bytes that the reader takes, it takes what every call leaves
pub file_passes : (s : List ℕ) (calls : List FileCall) → number_of (read s) ≡ 0 → number_of (read (file_after s calls)) ≡ 0
unfolding file_after
file_passes s [] z = z
file_passes s (call ∷ calls) z = file_passes (on_bytes s call).left calls ((call_left s call).taken z)

-- and the count of accepted steps never passes the count that is wanted
pub file_count_bounded : (s : List ℕ) (calls : List FileCall) → number_of (read s) ≡ 0 → count_of (file_after s calls) 4 ≤ count_of (file_after s calls) 5
file_count_bounded s calls z = taken_bounded (file_after s calls) (read (file_after s calls)) refl (file_passes s calls z)

-- the file of a complete channel stays as it is, byte for byte
pub file_complete_stays : (s : List ℕ) (calls : List FileCall) → AreBytes s → count_of s 4 ≡ count_of s 5 → file_after s calls ≡ s
unfolding file_after
file_complete_stays s [] b e = refl
file_complete_stays s (call ∷ calls) b e =
    ap (λ x. file_after x calls) ((call_left s call).stays b e) ∙ file_complete_stays s calls b e
