-- Water is kept: what the rule's calls pour and count, told by their answers. Assumes nothing.
use Rattle.std.specs.Prelude.{ℕ, zero, suc, ◌+◌, ◌≡◌, refl, List, [], ◌∷◌, ◌++◌, pos, ◌+ℤ◌}
use Rattle.std.proofs.Common.{sym, ◌∙◌, subst, arith, ne_eqb}
use Rattle.std.proofs.Math.Path.{ap}
use Rattle.std.proofs.Math.IntN.{+ℤ_idl, +ℤ_assoc}
use Rattle.rule.specs.Rows.{Row, sum}
use Rattle.rule.specs.Channel.{Channel}
use Rattle.rule.specs.Refusals.{Outcome, refused, done, ◌>>=◌}
use Rattle.rule.specs.Checks.{checked}
use Rattle.rule.specs.Step.{Stepped, accept, step}
use Rattle.rule.specs.Run.{Ending, open_by, Ran, run_on, run_for}
use Rattle.rule.specs.Calls.{called, ended, ran, step_call, run_call, run_for_call}
use Rattle.checks.specs.Numbers.{number_not_0}
use Rattle.run_for.specs.Runs.{nothing, run_is, ended_count}
use Rattle.water.specs.Calls.{step_accepted}
use Rattle.water.specs.History as rule
use Rattle.water.specs.History.{Call, pour, next, after, taken}
use Rattle.history.specs.History.{amount, one, still}
use Rattle.history.specs.Answers.{Taken, More}

module _ (c : Channel) (s : Row) where
  by_outcome : (o : Outcome Stepped) → let r = (called c (λ t. t.passes) (λ t. t.channel) o).answer in (taken s o ≡ amount r s) × (rule.one o ≡ one r)
  unfolding called taken rule.one amount one
  by_outcome (refused r k) = rw (ne_eqb _ 0 (number_not_0 r)) (refl, refl)
  by_outcome (done t) = (refl, refl)

  pub step_amount : taken s (step c s) ≡ amount (step_call c s).answer s
  unfolding step_call
  step_amount = (by_outcome (step c s)).0

  pub step_one : rule.one (step c s) ≡ one (step_call c s).answer
  unfolding step_call
  step_one = (by_outcome (step c s)).1

-- calls after calls
pub after_append : (c : Channel) (xs ys : List Call) → after c (xs ++ ys) ≡ after (after c xs) ys
unfolding after
after_append c [] ys = refl
after_append c (x ∷ xs) ys = after_append (next c x) xs ys

pub poured_append : (c : Channel) (xs ys : List Call) → rule.poured c (xs ++ ys) ≡ rule.poured c xs +ℤ rule.poured (after c xs) ys
unfolding after rule.poured
poured_append c [] ys = sym (+ℤ_idl (rule.poured c ys))
poured_append c (x ∷ xs) ys =
    ap (λ t. rule.poured_by c x +ℤ t) (poured_append (next c x) xs ys)
    ∙ sym (+ℤ_assoc (rule.poured_by c x) (rule.poured (next c x) xs) (rule.poured (after (next c x) xs) ys))

pub accepts_append : (c : Channel) (xs ys : List Call) → rule.accepts c (xs ++ ys) ≡ rule.accepts c xs + rule.accepts (after c xs) ys
unfolding after rule.accepts
accepts_append c [] ys = omega arith
accepts_append c (x ∷ xs) ys = omega (arith, accepts_append (next c x) xs ys)

sum_nothing : (n : ℕ) → sum (nothing n) ≡ pos 0
unfolding sum
sum_nothing zero = refl
sum_nothing (suc n) = +ℤ_idl (sum (nothing n)) ∙ sum_nothing n

none_taken : (n : ℕ) (o : Outcome Stepped) → taken (nothing n) o ≡ pos 0
unfolding taken
none_taken n (refused r k) = refl
none_taken n (done t) = sum_nothing n

-- they pour nothing
pub still_poured : (c : Channel) (n k : ℕ) → rule.poured c (still n k) ≡ pos 0
unfolding rule.poured rule.poured_by
still_poured c n zero = refl
still_poured c n (suc k) =
    ap (λ t. t +ℤ rule.poured (next c (pour (nothing n))) (still n k)) (none_taken n (step c (nothing n)))
    ∙ +ℤ_idl (rule.poured (next c (pour (nothing n))) (still n k))
    ∙ still_poured (next c (pour (nothing n))) n k

no_more : (c : Channel) (count : ℕ) (ending : Ending) → More c count (record { channel = c; count = count; ending = ending })
unfolding after rule.accepts
no_more c count ending = record { k = 0; counted = omega arith; taken = record { is = refl; all = refl } }

module _ (c : Channel) (t : Stepped) (e : step c (nothing c.N) ≡ done t) where
  moved : next c (pour (nothing c.N)) ≡ t.channel
  unfolding next step_call called
  moved = ap (λ o. (called c (λ t. t.passes) (λ t. t.channel) o).left) e

  one_more : rule.accepted_by c (pour (nothing c.N)) ≡ 1
  unfolding rule.accepted_by rule.one
  one_more = rw e

  same_cells : t.channel.N ≡ c.N
  unfolding accept
  same_cells = ap (λ x. x.N) (step_accepted c (nothing c.N) t e).is

  goes_on : (k : ℕ) (left : Channel) → Taken t.channel left k → Taken c left (suc k)
  unfolding after rule.accepts
  goes_on k left a =
      let n = c.N in
      let is : left ≡ after t.channel (still n k) = a.is ∙ ap (λ m. after t.channel (still m k)) same_cells in
      let all : rule.accepts t.channel (still n k) ≡ k = ap (λ m. rule.accepts t.channel (still m k)) (sym same_cells) ∙ a.all in
      record {
        is = is ∙ ap (λ x. after x (still n k)) (sym moved);
        all = ap (λ x. rule.accepted_by c (pour (nothing n)) + rule.accepts x (still n k)) moved ∙ omega (arith, one_more, all);
      }

on_outcome : (left count : ℕ) (c : Channel) (o : Outcome Stepped) → step c (nothing c.N) ≡ o → ((d : Channel) → More d (suc count) (run_on left (suc count) d)) → More c count (run_on (suc left) count c)
unfolding run_on
on_outcome left count c (refused r k) e h = rw (run_on, e) (no_more c count (open_by r k))
on_outcome left count c (done t) e h =
    let a = h t.channel in
    rw (run_on, e) (record { k = suc a.k; counted = omega (arith, a.counted); taken = goes_on c t e a.k _ a.taken })

steps_more : (left count : ℕ) (c : Channel) → More c count (run_on left count c)
unfolding run_on
steps_more zero count c = no_more c count _
steps_more (suc left) count c = on_outcome left count c (step c (nothing c.N)) refl (steps_more left (suc count))

-- by the count of its answer
of_ran : (c : Channel) (it : Ran) → More c 0 it → Taken c it.channel (ended it.count it.ending).count
of_ran c it a = let z : a.k ≡ (ended it.count it.ending).count = omega (arith, ended_count it.count it.ending, a.counted) in subst (Taken c it.channel) z a.taken

by_checks : (m : Outcome (Unit {0})) (left : ℕ) (c : Channel) → let k = ran c (m >>= λ _. done (run_on left 0 c)) in Taken c k.left k.answer.count
unfolding ran ◌>>=◌ after rule.accepts
by_checks (refused r stage) left c = record { is = refl; all = refl }
by_checks (done x) left c = of_ran c (run_on left 0 c) (steps_more left 0 c)

pub run_for_taken : (most : ℕ) (c : Channel) → Taken c (run_for_call most c).left (run_for_call most c).answer.count
unfolding run_for_call run_for
run_for_taken most c = by_checks (checked c []) _ c

pub run_taken : (c : Channel) → Taken c (run_call c).left (run_call c).answer.count
run_taken c = subst (λ k. Taken c k.left k.answer.count) (run_is c) (run_for_taken c.wanted c)
