-- The channel file: the file of what a call on its channel leaves. Assumes nothing.
use Rattle.std.specs.Prelude.{ℕ, zero, suc, ◌-◌, ◌≡◌, refl, List, [], ◌∷◌}
use Rattle.std.proofs.Math.Path.{ap}
use Rattle.std.proofs.Common.{◌∙◌, subst}
use Rattle.rule.specs.declared.Answer.{Answer}
use Rattle.rule.specs.Rows.{Row}
use Rattle.rule.specs.Channel.{Channel}
use Rattle.rule.specs.Refusals.{Outcome, refused, done, number_of}
use Rattle.rule.specs.Checks.{checked}
use Rattle.rule.specs.File.{file_of, channel_of}
use Rattle.rule.specs.Step.{Stepped, step}
use Rattle.rule.specs.Run.{run_on}
use Rattle.rule.specs.Calls.{Called, step_call, filter_call, run_for_call}
use Rattle.answers.specs.Stages.{leaves, leaves_bytes}
use Rattle.checks.specs.Numbers.{done_of}
use Rattle.water.specs.History.{pour, smooth, next, after}
use Rattle.water.specs.Again.{step_passes, accepted_passes}
use Rattle.run_for.specs.Runs.{nothing, fewer_of, ran_of, run_goes}
use Rattle.put.specs.Asked.{writable_of, WritableOf}

-- a file whose channel passes the checks
abbrev pub Passing : List ℕ → Type 0
Passing s = number_of (checked (channel_of s) []) ≡ 0

-- what is left, as a file
unfoldable pub filed : Called Channel → Called (List ℕ)
filed k = record { answer = k.answer; left = file_of k.left }

-- what a call leaves passes them too
pub step_left : (c : Channel) (s : Row) → number_of (checked c []) ≡ 0 → number_of (checked (step_call c s).left []) ≡ 0
unfolding after next
step_left c s z = accepted_passes c (pour s ∷ []) z

pub filter_left : (c : Channel) → number_of (checked c []) ≡ 0 → number_of (checked (filter_call c).left []) ≡ 0
unfolding after next
filter_left c z = accepted_passes c (smooth ∷ []) z

-- a step of a run, by its outcome
by_step : (c : Channel) (left count : ℕ) (o : Outcome Stepped) → step c (nothing c.N) ≡ o → number_of (checked c []) ≡ 0 → ((d : Channel) → number_of (checked d []) ≡ 0 → number_of (checked (run_on left (suc count) d).channel []) ≡ 0) → number_of (checked (run_on (suc left) count c).channel []) ≡ 0
unfolding run_on
by_step c left count (refused why stage) p z next = rw (run_on, p) z
by_step c left count (done t) p z next = rw (run_on, p) (next t.channel (step_passes c (nothing c.N) t p))

steps_left : (left count : ℕ) (c : Channel) → number_of (checked c []) ≡ 0 → number_of (checked (run_on left count c).channel []) ≡ 0
unfolding run_on
steps_left zero count c z = z
steps_left (suc left) count c z = by_step c left count (step c (nothing c.N)) refl z (steps_left left (suc count))

pub run_left : (most : ℕ) (c : Channel) → number_of (checked c []) ≡ 0 → number_of (checked (run_for_call most c).left []) ≡ 0
unfolding ran_of
run_left most c z =
    subst (λ (k : Called Channel). number_of (checked k.left []) ≡ 0) (run_goes most c (done_of (checked c []) z)) (steps_left (fewer_of most (c.wanted - c.accepted)) 0 c z)

-- so that it is written, and the file is that of what is left
module _ {a : Answer} {c : Channel} {k : Called Channel} (p : leaves a c ≡ k) where
  pub put_asks : number_of (checked k.left []) ≡ 0 → WritableOf c
  put_asks z = writable_of c [] (ap (λ (x : Called Channel). number_of (checked x.left [])) p ∙ z)

  pub put_leaves : {d : List ℕ} → d ≡ file_of c → leaves_bytes a d ≡ filed k
  unfolding filed
  put_leaves w = ap (leaves_bytes a) w ∙ ap filed p
