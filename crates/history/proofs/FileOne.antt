-- What a history over bytes starts from and what its calls leave is the one file of a channel, byte for byte. Assumes nothing.
use Rattle.std.specs.Prelude.{ℕ, ◌≡◌, refl, true, List, []}
use Rattle.std.proofs.Common.{sym, subst}
use Rattle.rule.specs.declared.Answer.{Answer}
use Rattle.rule.specs.Channel.{Channel}
use Rattle.rule.specs.Refusals.{Outcome, refused, done, number_of}
use Rattle.rule.specs.File.{file_of}
use Rattle.rule.specs.Calls.{Called, called, read, on_file, make_file, step_file, filter_file, run_for_file}
use Rattle.little.specs.Numbers.{AreBytes}
use Rattle.checks.specs.Numbers.{number_not_0}
use Rattle.files.specs.Whole.{bytes_file}
use Rattle.files.specs.Trips.{file_read}
use Rattle.answers.specs.Stages.{leaves_bytes}
use Rattle.packing.specs.Packed.{make_unpacked}
use Rattle.history.specs.FileRule.{FileCall, pour, smooth, run_for, on_bytes}
use Rattle.history.specs.FileHistory.{FileStart, made, checked, c_made, c_checked, FileLink, FileHistory, none, then, ruled, call_by}
use Rattle.history.proofs.FileTold.{both, told, lent}
use Rattle.history.proofs.FileKept.{library_file_passes}
use Rattle.history.specs.FileOne.{OneFile}

-- what a call leaves of bytes are bytes
by_read : (f : Channel → Called Channel) (s : List ℕ) (m : Outcome Channel) → AreBytes s → AreBytes (on_file f s m).left
unfolding on_file
by_read f s (refused r k) b = b
by_read f s (done c) b = bytes_file (f c).left

pub bytes_stay : (s : List ℕ) (call : FileCall) → AreBytes s → AreBytes (on_bytes s call).left
unfolding on_bytes step_file filter_file run_for_file
bytes_stay s (pour p) b = by_read _ s _ b
bytes_stay s smooth b = by_read _ s _ b
bytes_stay s (run_for most) b = by_read _ s _ b

left_bytes : {s t : List ℕ} → FileLink s t → AreBytes t
unfolding ruled
left_bytes {s} l = subst (λ (k : Called (List ℕ)). AreBytes k.left) (sym (told l)) (bytes_stay s (call_by l) (lent l))

-- and so is what is started from
of_make : (buffer : List ℕ) (m : Outcome Channel) → let k = called buffer (λ _. 0) file_of m in k.answer.number ≡ 0 → AreBytes k.left
unfolding called
of_make buffer (refused r k) z = absurd (number_not_0 r z)
of_make buffer (done c) z = bytes_file c

make_bytes : (n X T wanted : ℕ) (h e u damping buffer : List ℕ) → let k = make_file n X T wanted h e u damping buffer in k.answer.number ≡ 0 → AreBytes k.left
unfolding make_file
make_bytes n X T wanted h e u damping buffer = of_make buffer _

of_made : {a : Answer} {s : List ℕ} {k : Called (List ℕ)} → leaves_bytes a s ≡ k → (k.answer.number ≡ 0 → AreBytes k.left) → a.number ≡ 0 → AreBytes s
of_made e h z = subst (λ (k : Called (List ℕ)). k.answer.number ≡ 0 → AreBytes k.left) (sym e) h z

start_bytes : {s : List ℕ} → FileStart s → AreBytes s
start_bytes (made o z) = of_made o.permitted (make_bytes _ _ _ _ _ _ _ _ _) z
start_bytes (checked o z) = o.permitted.1
start_bytes (c_made o z) = of_made (both (make_file _ _ _ _ _ _ _ _ _) (make_unpacked _ _ _ _ _ _ _ _ _ o.permitted.0) o.permitted.1) (make_bytes _ _ _ _ _ _ _ _ _) z
start_bytes (c_checked o z) = o.permitted.1

history_bytes : {s t : List ℕ} → FileStart s → FileHistory s t → AreBytes t
history_bytes start none = start_bytes start
history_bytes start (then h l) = left_bytes l

one_of : (s : List ℕ) (m : Outcome Channel) → read s ≡ m → number_of m ≡ 0 → AreBytes s → OneFile s
unfolding read number_of
one_of s (refused r k) e z b = absurd (number_not_0 r z)
one_of s (done c) e z b = record { channel = c; is = e; file = file_read (λ _. true) [] s c b e }

pub library_file_is_one : {s t : List ℕ} → FileStart s → FileHistory s t → OneFile t
library_file_is_one {s} {t} start h = one_of t (read t) refl (library_file_passes start h) (history_bytes start h)
