-- The channels that histories start from: an accepted outcome of the maker or of the reader passes the checks, and the channel
-- that the reader leaves has the file that it was read from. Assumes nothing.
use Rattle.std.specs.Prelude.{ℕ, ◌≡◌, refl, List, []}
use Rattle.std.proofs.Common.{sym, ◌∙◌, ap}
use Rattle.rule.specs.Channel.{Channel}
use Rattle.rule.specs.declared.Refusal.TheVariants.{Shape}
use Rattle.rule.specs.Refusals.{Outcome, refused, done, number_of}
use Rattle.rule.specs.Checks.{checked}
use Rattle.rule.specs.File.{file_of, read_with}
use Rattle.rule.specs.Calls.{Called, called, plainly, fit, make_call, read_call}
use Rattle.little.specs.Numbers.{AreBytes}
use Rattle.checks.specs.Numbers.{number_not_0}
use Rattle.checks.specs.Chain.{came_by}
use Rattle.files.specs.Trips.{file_read}
use Rattle.files.specs.Trips.{read_passes}
use Rattle.water.specs.Starts.{make_passes}
use Rattle.history.specs.Makes as makes
use Rattle.history.specs.Reads as reads

-- a call that answered 0 was done
left_of_lem : (Such : Channel → Type 0) (c : Channel) (m : Outcome Channel) → ((d : Channel) → m ≡ done d → Such d) → (plainly c m).answer.number ≡ 0 → Such (plainly c m).left
unfolding plainly called
left_of_lem Such c (refused r k) h z = absurd (number_not_0 r z)
left_of_lem Such c (done d) h z = h d refl

abbrev Passes : Channel → Type 0
Passes d = number_of (checked d []) ≡ 0

make_call_passes : (c : Channel) → (make_call c).answer.number ≡ 0 → number_of (checked (make_call c).left []) ≡ 0
unfolding make_call
make_call_passes c =
    left_of_lem Passes c _ (λ d e. make_passes c.N c.X c.T c.wanted c.h c.e c.u c.damping d (came_by (fit c c.N) Shape _ d e).1)

read_call_passes : (c : Channel) (s : List ℕ) → (read_call c s).answer.number ≡ 0 → number_of (checked (read_call c s).left []) ≡ 0
unfolding read_call
read_call_passes c s = left_of_lem Passes c (read_with (fit c) [] s) (read_passes (fit c) [] s)

read_call_file : (c : Channel) (s : List ℕ) → AreBytes s → (read_call c s).answer.number ≡ 0 → file_of (read_call c s).left ≡ s
unfolding read_call
read_call_file c s b = left_of_lem (λ d. file_of d ≡ s) c (read_with (fit c) [] s) (λ d. file_read (fit c) [] s d b)

pub make_starts : (o : makes.Make) → (makes.answer o).number ≡ 0 → number_of (checked (makes.exit o) []) ≡ 0
make_starts o z =
    let p = o.permitted in
    ap (λ (k : Called Channel). number_of (checked k.left [])) p
    ∙ make_call_passes (makes.entry o) (sym (ap (λ (k : Called Channel). k.answer.number) p) ∙ z)

pub read_starts : (o : reads.Read) → (reads.answer o).number ≡ 0 → number_of (checked (reads.exit o) []) ≡ 0
read_starts o z =
    let p = o.permitted.0 in
    ap (λ (k : Called Channel). number_of (checked k.left [])) p
    ∙ read_call_passes (reads.entry o) (reads.bytes o) (sym (ap (λ (k : Called Channel). k.answer.number) p) ∙ z)

pub library_read_file : (o : reads.Read) → (reads.answer o).number ≡ 0 → file_of (reads.exit o) ≡ reads.bytes o
library_read_file o z =
    let p = o.permitted.0 in
    ap (λ (k : Called Channel). file_of k.left) p
    ∙ read_call_file (reads.entry o) (reads.bytes o) o.permitted.1 (sym (ap (λ (k : Called Channel). k.answer.number) p) ∙ z)
