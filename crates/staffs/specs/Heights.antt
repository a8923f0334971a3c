-- "Gauges": the heights of a channel that passes its checks are such as a record may hold, from -19,999,000 µm to 20,000,000 µm; so
-- feeding it to staffs is accepted, and puts its heights to their records. Assumes nothing.
use Rattle.std.specs.Prelude.{ℕ, suc, ◌≤◌, ◌<◌, ◌≡◌, true, List, [], ℤ, pos, nat_abs, ◌+ℤ◌, ◌*ℤ◌, length}
use Rattle.std.proofs.Common.{sym, ◌∙◌, ap, arith}
use Rattle.std.specs.Int.Signed.{le_z}
use Rattle.whole.specs.Ring.{var, num, neg, ◌⊕◌, ◌⊗◌, size_0}
use Rattle.whole.specs.Order.{at_most, is_at_most}
use Rattle.whole.specs.Tests.{and_yes}
use Rattle.rule.specs.Rows.{cell, map, all}
use Rattle.rule.specs.Ranges.{most_depth, most_height, least_water}
use Rattle.rule.specs.Channel.{Channel, water}
use Rattle.rule.specs.Refusals.{number_of, ◌>>=◌}
use Rattle.rule.specs.Checks.{checked}
use Rattle.rule.specs.Calls.{plainly}
use Rattle.rows.specs.All.{all_pass, pass_at}
use Rattle.rows.specs.Firsts.{firsts_all}
use Rattle.answers.specs.Stages.{acceptance, leaves_bytes, accepted_call}
use Rattle.checks.specs.Numbers.{after_done, done_of}
use Rattle.checks.specs.Allowed.{allowed_of}
use Rattle.gauge.specs.Gauge.{from}
use Rattle.gauge.specs.State.{fed}
use Rattle.gauge.specs.OnGauges.{feed_call}
use Rattle.staffs.specs.Staffs.{Staff, state_for, longer}
use Rattle.staffs.specs.Back.{Each}
use Rattle.staffs.specs.Fed.{height, Proper, Takes, fed_staffs}

-- of a depth h, with at least 1,000 µm of water
height_of_lem : (h x : ℤ) → nat_abs h ≤ most_depth → nat_abs x ≤ most_height → le_z (pos least_water) (pos 1000 *ℤ h +ℤ x) ≡ true → height x ≡ true
unfolding from
height_of_lem h x d s w =
    and_yes _ _
    (is_at_most (neg (num 19_999_000)) (var x) (omega (arith, at_most (num 1_000) (num 1_000 ⊗ var h ⊕ var x) w, size_0 (var h) d)))
    (is_at_most (var x) (num 20_000_000) (omega (arith, size_0 (var x) s)))

pub heights_are : (c : Channel) → number_of (checked c []) ≡ 0 → all height c.e ≡ true
unfolding water
heights_are c z =
    let a = allowed_of c [] z in
    let n = c.N in
    let deep : (j : ℕ) → j < n → le_z (pos least_water) (pos 1000 *ℤ cell c.h j +ℤ cell c.e j) ≡ true = λ j l. pass_at (le_z (pos least_water)) (λ j. pos 1000 *ℤ cell c.h j +ℤ cell c.e j) n j a.wet.deep l in
    sym (ap (all height) (firsts_all n c.e a.cells.e_long))
    ∙ all_pass height (cell c.e) n (λ j l. height_of_lem (cell c.h j) (cell c.e j) (a.cells.h_small.at j l) (a.cells.e_small.at j l) (deep j l))

-- the call that feeds them
pub feed_call_lem : (c : Channel) (ss : List Staff) (k : ℕ) → number_of (checked c []) ≡ 0 → length ss ≡ 8 → Each Proper ss → Each (Takes c.N (suc k)) ss → feed_call c (state_for ss) ≡ leaves_bytes (acceptance 0) (state_for (map (longer c.e) ss))
unfolding feed_call plainly
feed_call_lem c ss k z long proper takes =
    let e_long = (allowed_of c [] z).cells.e_long in
    sym (accepted_call (state_for ss) (λ _. 0) (λ t. t) (checked c [] >>= λ _. fed c.e (state_for ss)) (state_for (map (longer c.e) ss))
    (after_done (checked c []) tt _ (done_of (checked c []) z) ∙ fed_staffs ss long proper c.e k (rw e_long takes)))
