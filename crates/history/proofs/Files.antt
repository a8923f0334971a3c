-- Water is kept: one call over the bytes of a channel file, told by what it does to the channel in them. Assumes nothing.
use Rattle.std.specs.Prelude.{ℕ, ◌≤◌, ◌≡◌, refl, Bool, true, ◌&&◌, eqb, ℤ, pos, ◌+ℤ◌, length}
use Rattle.std.proofs.Math.Path.{sym, ap}
use Rattle.std.proofs.Common.{◌∙◌, arith, ne_eqb}
use mathlib.Core.List.{List, [], ◌∷◌}
use Rattle.std.proofs.Math.IntN.{+ℤ_idr}
use Rattle.rule.specs.declared.Answer.{Answer}
use Rattle.rule.specs.Rows.{Row, sum}
use Rattle.rule.specs.Channel.{Channel}
use Rattle.rule.specs.declared.Refusal.{Refusal}
use Rattle.rule.specs.declared.Refusal.TheVariants.{Shape, BufferLength}
use Rattle.rule.specs.Refusals.{Outcome, refused, done, number_of}
use Rattle.rule.specs.Checks.{checked}
use Rattle.rule.specs.Make.{make_checked}
use Rattle.rule.specs.Layout.{length_of}
use Rattle.rule.specs.File.{edition, count_of, channel_of, file_of, read_with}
use Rattle.rule.specs.Calls.{Called, called, read, check_file, make_file, row_in, holds, on_file, step_call, filter_call, run_for_call, step_file, filter_file, run_for_file}
use Rattle.answers.specs.Stages.{refusal}
use Rattle.checks.specs.Numbers.{told, number_not_0, number_of_done}
use Rattle.checks.specs.Chain.{came, came_by}
use Rattle.checks.specs.Allowed.{allowed_of, unpoured}
use Rattle.files.specs.Reading.{read_of}
use Rattle.files.specs.Trips.{read_file, file_read, read_passes}
use Rattle.files.specs.Whole.{channel_back}
use Rattle.water.specs.History as rule
use Rattle.water.specs.History.{Call, pour, smooth, after}
use Rattle.water.proofs.History.{water_kept}
use Rattle.water.specs.Counts.{count_grows, wanted_stays, complete_stays}
use Rattle.water.specs.Again.{accepted_passes}
use Rattle.water.specs.Starts.{make_passes}
use Rattle.history.specs.History.{amount, one, still}
use Rattle.history.specs.Basin.{is_like}
use Rattle.history.proofs.Answers.{step_amount, step_one, still_poured, run_for_taken}
use Rattle.history.specs.FileRule as files
use Rattle.history.specs.FileRule.{FileCall, run_for, on_bytes, heights, poured_with, accepted_with, file_poured_by, file_accepted_by}
use Rattle.history.specs.Files.{In, Left, Moves}

in_of : (s : List ℕ) (c : Channel) → channel_of s ≡ c → In s c
unfolding heights channel_of
in_of s c e = record { heights = ap (λ d. sum d.e) e; accepted = ap (λ d. d.accepted) e; wanted = ap (λ d. d.wanted) e; damping = ap (λ d. d.damping) e }

module _ (f : Channel → Called Channel) (z : Answer → ℤ) (k : Answer → ℕ) (moves : (c : Channel) → Moves f z k c) (none : (r : Refusal) (stage : ℕ) → (z (refusal (told r) stage) ≡ pos 0) × (k (refusal (told r) stage) ≡ 0)) (s : List ℕ) (fits : ℕ → Bool) (given : List Row) where
  by_read : (m : Outcome Channel) → read_with fits given s ≡ m → Left s (on_file f s m).left (z (on_file f s m).answer) (k (on_file f s m).answer)
  unfolding on_file
  by_read (refused r stage) e =
      let n = none r stage in
      record {
        water = sym (ap (λ t. heights s +ℤ t) n.0 ∙ +ℤ_idr (heights s));
        grown = omega (arith, n.1);
        same = refl;
        damped = refl;
        taken = λ y. y;
        stays = λ b y. refl;
      }
  by_read (done c) e =
      let m = moves c in
      let p = unpoured c given (read_passes fits given s c e) in
      let d = (f c).left in
      let q : number_of (checked d []) ≡ 0 = ap (λ x. number_of (checked x [])) m.is ∙ accepted_passes c m.calls p in
      let old = in_of s c (read_of fits given s c e).is in
      let new = in_of (file_of d) d (channel_back d (allowed_of d [] q)) in
      record {
        water =
            new.heights
            ∙ ap (λ x. sum x.e) m.is
            ∙ water_kept c m.calls
            ∙ ap (λ t. sum c.e +ℤ t) m.pours
            ∙ ap (λ t. t +ℤ z (f c).answer) (sym old.heights);
        grown =
            let y = ap (λ x. x.accepted) m.is in
            omega (arith, new.accepted, old.accepted, y, count_grows c m.calls, m.counts);
        same = new.wanted ∙ ap (λ x. x.wanted) m.is ∙ wanted_stays c m.calls ∙ sym old.wanted;
        damped = new.damping ∙ sym (ap (λ x. x.damping) (is_like c d m.calls m.is)) ∙ sym old.damping;
        taken = λ y. number_of_done (read (file_of d)) d (read_file d q);
        stays = λ b y. ap file_of (m.is ∙ complete_stays c (sym old.accepted ∙ y ∙ old.wanted) m.calls) ∙ file_read fits given s c b e;
      }

  by_file : let m = on_file f s (read_with fits given s) in Left s m.left (z m.answer) (k m.answer)
  by_file = by_read (read_with fits given s) refl

step_moves : (s : Row) (c : Channel) → Moves (λ c. step_call c s) (λ a. amount a s) one c
unfolding after rule.next rule.poured rule.accepts rule.poured_by rule.accepted_by
step_moves s c =
    record {
      calls = pour s ∷ [];
      is = refl;
      pours = +ℤ_idr _ ∙ step_amount c s;
      counts = let e = step_one c s in omega (arith, e);
    }

filter_moves : (c : Channel) → Moves filter_call (λ a. pos 0) (λ a. 0) c
unfolding after rule.next rule.poured rule.accepts rule.poured_by rule.accepted_by
filter_moves c = record { calls = smooth ∷ []; is = refl; pours = +ℤ_idr _; counts = refl }

run_for_moves : (most : ℕ) (c : Channel) → Moves (run_for_call most) (λ a. pos 0) (λ a. a.count) c
run_for_moves most c =
    let k = (run_for_call most c).answer.count in
    let t = run_for_taken most c in
    record { calls = still c.N k; is = t.is; pours = still_poured c c.N k; counts = t.all }

none_poured : (s : Row) (r : Refusal) (stage : ℕ) → (amount (refusal (told r) stage) s ≡ pos 0) × (one (refusal (told r) stage) ≡ 0)
unfolding amount one
none_poured s r stage = rw (ne_eqb _ 0 (number_not_0 r)) (refl, refl)

pub call_left : (s : List ℕ) (call : FileCall) → Left s (on_bytes s call).left (file_poured_by s call) (file_accepted_by s call)
unfolding on_bytes poured_with accepted_with file_poured_by file_accepted_by step_file filter_file run_for_file read
call_left s (files.pour p) =
    by_file (λ c. step_call c (row_in p)) (λ a. amount a (row_in p)) one (step_moves (row_in p)) (none_poured (row_in p)) s (holds p) (row_in p ∷ [])
call_left s files.smooth = by_file filter_call (λ a. pos 0) (λ a. 0) filter_moves (λ r stage. (refl, refl)) s (λ _. true) []
call_left s (run_for most) =
    by_file (run_for_call most) (λ a. pos 0) (λ a. a.count) (run_for_moves most) (λ r stage. (refl, refl)) s (λ _. true) []

-- bytes that are read
pub taken_bounded : (s : List ℕ) (m : Outcome Channel) → read s ≡ m → number_of m ≡ 0 → count_of s 4 ≤ count_of s 5
unfolding number_of read
taken_bounded s (refused r stage) e z = absurd (number_not_0 r z)
taken_bounded s (done c) e z =
    let i = in_of s c (read_of (λ _. true) [] s c e).is in
    omega (arith, i.accepted, i.wanted, (allowed_of c [] (read_passes (λ _. true) [] s c e)).counts.accepted_most)

-- what the maker leaves where it answers 0, and bytes that the check answers 0
of_made : (buffer : List ℕ) (m : Outcome Channel) → ((c : Channel) → m ≡ done c → number_of (checked c []) ≡ 0) → (called buffer (λ _. 0) file_of m).answer.number ≡ 0 → number_of (read (called buffer (λ _. 0) file_of m).left) ≡ 0
unfolding called
of_made buffer (refused r k) h z = absurd (number_not_0 r z)
of_made buffer (done c) h z = number_of_done (read (file_of c)) c (read_file c (h c refl))

pub make_file_taken : (n X T wanted : ℕ) (h e u damping buffer : List ℕ) → let k = make_file n X T wanted h e u damping buffer in k.answer.number ≡ 0 → number_of (read k.left) ≡ 0
unfolding make_file
make_file_taken n X T wanted h e u damping buffer =
    of_made buffer _
    (λ c m.
    let a₁ = came_by (holds h n && holds e n && holds u n && holds damping n) Shape _ c m in
    let a₂ = came (make_checked n X T wanted (row_in h) (row_in e) (row_in u) (row_in damping)) _ c a₁.1 in
    let a₃ = came_by (eqb (length buffer) (length_of edition n)) BufferLength _ c a₂.rest in
    make_passes n X T wanted (row_in h) (row_in e) (row_in u) (row_in damping) c a₃.1)

of_checked : (s : List ℕ) (m : Outcome Channel) → (called s (λ _. 0) (λ _. s) m).answer.number ≡ 0 → number_of m ≡ 0
unfolding called number_of
of_checked s (refused r k) z = z
of_checked s (done c) z = refl

pub check_taken : (s : List ℕ) → (check_file s).number ≡ 0 → number_of (read s) ≡ 0
unfolding check_file
check_taken s = of_checked s (read s)
