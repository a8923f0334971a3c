-- Water is kept by the library's own calls over the bytes of a channel file, and so are the counts. A history may be cut after
-- any of its calls, and what comes before the cut is a history. Assumes nothing.
use Rattle.std.specs.Prelude.{ℕ, ◌+◌, ◌≤◌, ◌≡◌, refl, List, eqb, ◌+ℤ◌, length}
use Rattle.std.proofs.Common.{sym, ◌∙◌, ap, subst, arith}
use Rattle.std.proofs.Math.IntN.{+ℤ_idr, +ℤ_assoc}
use Rattle.rule.specs.declared.Answer.{Answer}
use Rattle.rule.specs.Refusals.{number_of}
use Rattle.rule.specs.File.{count_of, channel_of}
use Rattle.rule.specs.Calls.{Called, read, make_file}
use Rattle.little.specs.Numbers.{AreBytes}
use Rattle.answers.specs.Stages.{leaves_bytes}
use Rattle.on_file.specs.Ran.{run_leaves, run_writes_all, run_writes_none}
use Rattle.on_file.specs.Stays.{step_refused_file_stays, filter_refused_file_stays, stepless_run_file_stays}
use Rattle.packing.specs.Packed.{make_unpacked, check_unpacked}
use Rattle.water.specs.Late.{Timely}
use Rattle.history.specs.FileRule.{FileCall, pour, smooth, run_for, on_bytes, file_after, heights}
use Rattle.history.specs.FileLate.{file_timely}
use Rattle.history.proofs.Files.{taken_bounded, make_file_taken, check_taken}
use Rattle.history.specs.FileCalls.{Run, entry, exit, check_bytes}
use Rattle.history.specs.FileHistory.{FileStart, made, checked, c_made, c_checked, FileLink, FileHistory, none, then, poured_by, poured, accepted, answer, ruled, call_by, calls}
use Rattle.history.proofs.FileTold.{both, told, lent, left, all_left}
use Rattle.history.specs.FileKept.{Idle, Writes}

-- each answer is the rule's, and so are the bytes that are left
pub file_answers_are_the_rule's : {s t : List ℕ} (l : FileLink s t) → leaves_bytes (answer l) t ≡ ruled l
file_answers_are_the_rule's l = told l

-- the bytes are those that the rule's calls leave
pub file_history_is_the_rule's : {s t : List ℕ} (h : FileHistory s t) → t ≡ file_after s (calls h)
file_history_is_the_rule's h = all_left h

-- in any bytes, by any calls: the heights add up to exactly their starting sum and every amount poured in by the accepted steps
pub library_file_water_kept : {s t : List ℕ} (h : FileHistory s t) → heights t ≡ heights s +ℤ poured h
unfolding poured
library_file_water_kept {s} none = sym (+ℤ_idr (heights s))
library_file_water_kept {s} (then h l) =
    (left l).water ∙ ap (λ z. z +ℤ poured_by l) (library_file_water_kept h) ∙ +ℤ_assoc (heights s) (poured h) (poured_by l)

-- the count of accepted steps, the fifth of the file's counts, is the starting count and the accepted ones of the history
pub library_file_count_grows : {s t : List ℕ} (h : FileHistory s t) → count_of t 4 ≡ count_of s 4 + accepted h
unfolding accepted
library_file_count_grows none = omega arith
library_file_count_grows (then h l) = omega (arith, library_file_count_grows h, (left l).grown)

-- the count that is wanted, the sixth, stays
pub library_file_wanted_stays : {s t : List ℕ} (h : FileHistory s t) → count_of t 5 ≡ count_of s 5
library_file_wanted_stays none = refl
library_file_wanted_stays (then h l) = (left l).same ∙ library_file_wanted_stays h

-- and so does the damping of every cell
pub library_file_damping_stays : {s t : List ℕ} (h : FileHistory s t) → (channel_of t).damping ≡ (channel_of s).damping
library_file_damping_stays none = refl
library_file_damping_stays (then h l) = (left l).damped ∙ library_file_damping_stays h

-- the file of a complete channel stays as it is, byte for byte
pub library_file_complete_stays : {s t : List ℕ} (h : FileHistory s t) → count_of s 4 ≡ count_of s 5 → t ≡ s
library_file_complete_stays none e = refl
library_file_complete_stays (then h l) e =
    let p = library_file_complete_stays h e in
    (left l).stays (lent l) (ap (λ x. count_of x 4) p ∙ e ∙ ap (λ x. count_of x 5) (sym p)) ∙ p

idle : (s : List ℕ) (call : FileCall) → AreBytes s → Idle call (on_bytes s call).answer → (on_bytes s call).left ≡ s
unfolding on_bytes
idle s (pour p) b w = step_refused_file_stays s b p w
idle s smooth b w = filter_refused_file_stays s b w
idle s (run_for most) b w = stepless_run_file_stays s b most w

-- leaves every byte
pub library_file_refused_stays : {s t : List ℕ} (l : FileLink s t) → Idle (call_by l) (answer l) → t ≡ s
unfolding ruled
library_file_refused_stays {s} l w =
    ap (λ (k : Called (List ℕ)). k.left) (told l)
    ∙ idle s (call_by l) (lent l) (subst (λ (k : Called (List ℕ)). Idle (call_by l) k.answer) (told l) w)

pub library_program_writes : (o : Run) → Writes (entry o) (exit o) o.r
library_program_writes o =
    let s = entry o in
    let p = o.permitted.0.1 in
    record {
      all = λ z. p.0 ∙ ap length (run_writes_all s z ∙ sym (run_leaves s) ∙ sym p.1);
      nothing = λ w. p.0 ∙ ap length (run_writes_none s w);
    }

-- what the maker or the reader accepts is read
of_made : {a : Answer} {s : List ℕ} {k : Called (List ℕ)} → leaves_bytes a s ≡ k → (k.answer.number ≡ 0 → number_of (read k.left) ≡ 0) → a.number ≡ 0 → number_of (read s) ≡ 0
of_made e h z = subst (λ (k : Called (List ℕ)). k.answer.number ≡ 0 → number_of (read k.left) ≡ 0) (sym e) h z

pub file_start_taken : {s : List ℕ} → FileStart s → number_of (read s) ≡ 0
file_start_taken (made o z) = of_made o.permitted (make_file_taken _ _ _ _ _ _ _ _ _) z
file_start_taken (checked o z) = check_taken (check_bytes o) (ap (λ r. r.number) (sym o.permitted.0) ∙ z)
file_start_taken (c_made o z) =
    of_made (both (make_file _ _ _ _ _ _ _ _ _) (make_unpacked _ _ _ _ _ _ _ _ _ o.permitted.0) o.permitted.1) (make_file_taken _ _ _ _ _ _ _ _ _) z
file_start_taken (c_checked o z) =
    let s = check_bytes o in
    check_taken s (ap (λ r. r.number) (sym (check_unpacked s o.permitted.0)) ∙ z)

-- and so are the bytes that every call leaves
pub library_file_passes : {s t : List ℕ} → FileStart s → FileHistory s t → number_of (read t) ≡ 0
library_file_passes start none = file_start_taken start
library_file_passes start (then h l) = (left l).taken (library_file_passes start h)

-- so that no call on them answers 26
pub library_file_never_late : {s t after : List ℕ} → FileStart s → FileHistory s t → (l : FileLink t after) → Timely (answer l).number
unfolding ruled
library_file_never_late {s} {t} start h l =
    ap (λ (k : Called (List ℕ)). eqb k.answer.number 26) (told l) ∙ file_timely t (call_by l) (library_file_passes start h)

-- where the count of accepted steps never passes the count that is wanted
pub library_file_count_bounded : {s t : List ℕ} → FileStart s → FileHistory s t → count_of t 4 ≤ count_of t 5
library_file_count_bounded {s} {t} start h = taken_bounded t (read t) refl (library_file_passes start h)
