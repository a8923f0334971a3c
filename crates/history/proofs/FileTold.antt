-- Water is kept: one call of the library over the bytes of a channel file, as the rule's call. Assumes nothing.
use Rattle.std.specs.Prelude.{ℕ, ◌≡◌, refl, List, [], ◌∷◌, ◌++◌}
use Rattle.std.proofs.Common.{sym, ◌∙◌, ap, subst}
use Rattle.rule.specs.declared.Answer.{Answer}
use Rattle.rule.specs.Calls.{Called, step_file, filter_file, run_for_file}
use Rattle.rule.specs.Ranges.{most_steps}
use Rattle.little.specs.Numbers.{AreBytes}
use Rattle.answers.specs.Stages.{leaves_bytes}
use Rattle.on_file.specs.Ran.{run_leaves}
use Rattle.packing.specs.Packed.{step_unpacked, filter_unpacked, run_unpacked}
use Rattle.history.specs.FileRule.{FileCall, on_bytes, file_after, poured_with, accepted_with, file_poured_by, file_accepted_by}
use Rattle.history.specs.Files.{Left}
use Rattle.history.proofs.Files.{call_left}
use Rattle.history.specs.FileCalls.{step_entry, step_row, entry, c_run_most, c_run_entry}
use Rattle.history.specs.FileHistory.{FileLink, step, filter, run_for, run, c_step, c_filter, c_run, FileHistory, none, then, poured_by, accepted_by, answer, ruled, call_by, calls}

-- an answer and bytes that are a call's
pub both : (k : Called (List ℕ)) {a : Answer} {t : List ℕ} → a ≡ k.answer → t ≡ k.left → leaves_bytes a t ≡ k
both k p q = rw (p, q)

-- each call answers as the rule does, and leaves the bytes that the rule leaves
pub told : {s t : List ℕ} (l : FileLink s t) → leaves_bytes (answer l) t ≡ ruled l
unfolding answer ruled call_by on_bytes
told (step o) = o.permitted.0
told (filter o) = o.permitted.0
told (run_for o) = o.permitted.0
told (run o) = let s = entry o in both (run_for_file most_steps s) refl (o.permitted.0.1.1 ∙ run_leaves s)
told (c_step o) =
    let s = step_entry o in
    let p = step_row o in
    both (step_file s p) (step_unpacked s p o.permitted.0.0) o.permitted.0.1
told (c_filter o) = let s = entry o in both (filter_file s) (filter_unpacked s o.permitted.0.0) o.permitted.0.1
told (c_run o) =
    let s = c_run_entry o in
    let most = c_run_most o in
    both (run_for_file most s) (run_unpacked most s o.permitted.0.0) o.permitted.0.1

-- and what it is lent are bytes
pub lent : {s t : List ℕ} → FileLink s t → AreBytes s
lent (step o) = o.permitted.1
lent (filter o) = o.permitted.1
lent (run_for o) = o.permitted.1
lent (run o) = o.permitted.1
lent (c_step o) = o.permitted.1
lent (c_filter o) = o.permitted.1
lent (c_run o) = o.permitted.1

-- what one call leaves
pub left : {s t : List ℕ} (l : FileLink s t) → Left s t (poured_by l) (accepted_by l)
unfolding poured_by accepted_by ruled file_poured_by file_accepted_by
left {s} l =
    let call = call_by l in
    subst (λ (k : Called (List ℕ)). Left s k.left (poured_with call k.answer) (accepted_with call k.answer)) (sym (told l)) (call_left s call)

after_append : (s : List ℕ) (xs ys : List FileCall) → file_after s (xs ++ ys) ≡ file_after (file_after s xs) ys
unfolding file_after
after_append s [] ys = refl
after_append s (x ∷ xs) ys = after_append (on_bytes s x).left xs ys

-- and what all calls of a history leave
pub all_left : {s t : List ℕ} (h : FileHistory s t) → t ≡ file_after s (calls h)
unfolding calls file_after ruled
all_left none = refl
all_left {s} (then h l) =
    ap (λ (k : Called (List ℕ)). k.left) (told l)
    ∙ ap (λ x. (on_bytes x (call_by l)).left) (all_left h)
    ∙ sym (after_append s (calls h) (call_by l ∷ []))
