-- "Gauges": the calls on staffs, over a channel's lent rows and over its file: from 512 zeros on every state that they leave is that of
-- staffs, and what they answer and leave follows from the records. Assumes nothing.
use Rattle.std.specs.Prelude.{ℕ, suc, ◌≤◌, ◌≡◌, refl, true, List, [], ◌∷◌, ◌++◌, length, replicate}
use Rattle.std.proofs.Math.Path.{sym}
use Rattle.std.proofs.Common.{◌∙◌, ap, arith}
use Rattle.rule.specs.Rows.{Row, map, all}
use Rattle.rule.specs.Channel.{Channel}
use Rattle.rule.specs.Refusals.{Outcome, done, number_of, ◌>>=◌}
use Rattle.rule.specs.Checks.{checked}
use Rattle.rule.specs.Bytes.{bytes, complement, row_bytes}
use Rattle.rule.specs.Calls.{called, plainly, read}
use Rattle.answers.specs.Stages.{acceptance, leaves_bytes, accepted_call}
use Rattle.checks.specs.Numbers.{after_done, done_of}
use Rattle.checks.specs.Allowed.{allowed_of}
use Rattle.files.specs.Trips.{read_passes}
use Rattle.gauge.specs.State.{read_numbers, numbers, reading, flat, state_of, free, fed, readings}
use Rattle.gauge.specs.OnGauges.{place_call, place_file, feed_file, read_state}
use Rattle.staffs.specs.Staffs.{Staff, staff, gauge_for, state_for, longer}
use Rattle.staffs.specs.Staffs as staffs
use Rattle.staffs.specs.Back.{Each}
use Rattle.staffs.specs.Fed.{Proper, Takes, fed_staffs, read_staffs}
use Rattle.staffs.specs.Placed.{Taken, free_is, placed_staffs}

-- 512 zeros are eight places without a gauge
pub zeros_are : state_for (replicate 8 staffs.free) ≡ replicate 512 0
unfolding state_for gauge_for state_of numbers flat map row_bytes bytes complement
zeros_are = refl

-- a gauge placed: the count is its place
module _ (before after : List Staff) (full : Each Taken before) (long : length (before ++ (staffs.free ∷ after)) ≡ 8) (proper : Each Proper (before ++ (staffs.free ∷ after))) (j : ℕ) (least : 1 ≤ j) where
  abbrev state : List ℕ
  state = state_for (before ++ (staffs.free ∷ after))

  abbrev with_staff : List ℕ
  with_staff = state_for (before ++ (staff j [] ∷ after))

  by_place : (m : Outcome (List ℕ)) → m ≡ done with_staff → leaves_bytes (acceptance (suc (length before))) with_staff ≡ called state (λ (_ : List ℕ). free state) (λ t. t) m
  by_place m e = ap (λ k. leaves_bytes (acceptance k) with_staff) (sym (free_is before after full long proper)) ∙ accepted_call state (λ _. free state) (λ t. t) m with_staff e

  pub place_staff : (c : Channel) → number_of (checked c []) ≡ 0 → j ≤ c.N → place_call c j state ≡ leaves_bytes (acceptance (suc (length before))) with_staff
  unfolding place_call
  place_staff c z most = sym (by_place _ (after_done (checked c []) tt _ (done_of (checked c []) z) ∙ placed_staffs before after full long proper c.N j least most))

  pub place_file_staff : (file : List ℕ) (c : Channel) → read file ≡ done c → j ≤ c.N → place_file file j state ≡ leaves_bytes (acceptance (suc (length before))) with_staff
  unfolding place_file
  place_file_staff file c e most = sym (by_place _ (after_done (read file) c _ e ∙ placed_staffs before after full long proper c.N j least most))

-- and its staffs are as they can be
pub place_proper : (before after : List Staff) (j : ℕ) → 1 ≤ j → j ≤ 256 → Each Proper (before ++ (staffs.free ∷ after)) → Each Proper (before ++ (staff j [] ∷ after))
unfolding all
place_proper [] after j least most p = ((least, (most, (omega arith, refl))), p.1)
place_proper (s ∷ before) after j least most p = (p.0, place_proper before after j least most p.1)

-- all fed, over the bytes of a file
pub feed_file_staffs : (file : List ℕ) (c : Channel) (ss : List Staff) (k : ℕ) → read file ≡ done c → length ss ≡ 8 → Each Proper ss → Each (Takes c.N (suc k)) ss → feed_file file (state_for ss) ≡ leaves_bytes (acceptance 0) (state_for (map (longer c.e) ss))
unfolding feed_file plainly read
feed_file_staffs file c ss k e long proper takes =
    let e_long = (allowed_of c [] (read_passes (λ _. true) [] file c e)).cells.e_long in
    sym (accepted_call (state_for ss) (λ _. 0) (λ t. t) (read file >>= λ d. fed d.e (state_for ss)) (state_for (map (longer c.e) ss))
    (after_done (read file) c _ e ∙ fed_staffs ss long proper c.e k (rw e_long takes)))

-- what is read of them
pub read_state_staffs : (ss : List Staff) (room : Row) → length ss ≡ 8 → Each Proper ss → length room ≡ read_numbers → read_state (state_for ss) room ≡ record { answer = acceptance 0; left = flat (map reading (map gauge_for ss)) }
unfolding read_state plainly
read_state_staffs ss room long proper h =
    sym (accepted_call room (λ _. 0) (λ t. t) (readings (state_for ss) (length room)) (flat (map reading (map gauge_for ss))) (ap (readings (state_for ss)) h ∙ read_staffs ss long proper))
