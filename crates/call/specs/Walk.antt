-- The channel file: a call on its channel, whichever it is, and over its bytes. Assumes nothing.
use Rattle.std.specs.Prelude.{ℕ, ◌≤◌, ◌≡◌, refl, Bool, true, false, List, [], Err, length, get_or}
use Rattle.std.proofs.Common.{sym, ◌∙◌}
use Rattle.std.proofs.Math.Path.{ap}
use Rattle.rule.specs.declared.Answer.{Answer}
use Rattle.rule.specs.declared.Refusal.{Refusal}
use Rattle.rule.specs.Rows.{Row}
use Rattle.rule.specs.Channel.{Channel}
use Rattle.rule.specs.Refusals.{Outcome, refused, done, number_of, met, met_as}
use Rattle.rule.specs.Checks.{checked}
use Rattle.rule.specs.Layout.{length_of}
use Rattle.rule.specs.File.{edition, count_of, channel_of, read_with}
use Rattle.rule.specs.Calls.{Called, on_file, row_in, step_call, filter_call, run_for_call, step_file, filter_file, run_for_file}
use Rattle.rule.specs.Ranges.{least_cells, most_cells}
use Rattle.answers.specs.Stages.{refusal, early, early_is, leaves_bytes}
use Rattle.places.specs.Met.{as_refused}
use Rattle.checks.specs.Numbers.{told, Outside}
use Rattle.checks.specs.Allowed.{poured_rows, unpoured}
use Rattle.form.specs.Reader.{fits_in}
use Rattle.opened.specs.Opened.{Opened, read_outside, plain_read, poured_read}
use Rattle.call.specs.declared.Call.{Call}
use Rattle.call.specs.declared.Call.TheVariants.{Step, Filter, Run}
use Rattle.call.specs.Kept.{Passing, filed, step_left, filter_left, run_left}

unfoldable pub pours_of : Call → Bool
pours_of Step = true
pours_of Filter = false
pours_of (Run most) = false

-- on a channel, with the row s where one is poured
unfoldable pub call_of : Call → Row → Channel → Called Channel
call_of Step s c = step_call c s
call_of Filter s c = filter_call c
call_of (Run most) s c = run_for_call most c

-- over the bytes s of a file, with the row in the bytes p
unfoldable pub file_call : Call → List ℕ → List ℕ → Called (List ℕ)
file_call call s p = on_file (call_of call (row_in p)) s (read_with (fits_in (pours_of call) p) (poured_rows (pours_of call) (row_in p)) s)

-- which are the rule's
pub step_is : (s p : List ℕ) → file_call Step s p ≡ step_file s p
unfolding file_call pours_of call_of step_file
step_is s p = ap (on_file (λ c. step_call c (row_in p)) s) (poured_read p s)

pub filter_is : (s p : List ℕ) → file_call Filter s p ≡ filter_file s
unfolding file_call pours_of call_of filter_file
filter_is s p = ap (on_file filter_call s) (plain_read p s)

pub run_is : (most : ℕ) (s p : List ℕ) → file_call (Run most) s p ≡ run_for_file most s
unfolding file_call pours_of call_of run_for_file
run_is most s p = ap (on_file (run_for_call most) s) (plain_read p s)

-- what a call leaves passes the checks
pub call_left : (call : Call) (s : Row) (c : Channel) → number_of (checked c []) ≡ 0 → number_of (checked (call_of call s c).left []) ≡ 0
unfolding call_of
call_left Step s c z = step_left c s z
call_left Filter s c z = filter_left c z
call_left (Run most) s c z = run_left most c z

-- a call asks of the row no more than is poured
pub same_poured : (call : Call) (r s : Row) (c : Channel) → poured_rows (pours_of call) r ≡ poured_rows (pours_of call) s → call_of call r c ≡ call_of call s c
unfolding call_of pours_of
same_poured Step r s c e = ap (λ rows. step_call c (get_or rows 0 [])) e
same_poured Filter r s c e = refl
same_poured (Run most) r s c e = refl

-- what the reader refuses
by_refused : (f : Channel → Called Channel) (s : List ℕ) (m : Outcome Channel) → Outside m → (r : Refusal) → Err r ≡ met m → leaves_bytes (early (told r)) s ≡ on_file f s m
unfolding on_file met
by_refused f s (refused why k) h r e =
    let is : r ≡ why = cc e in
    ap (λ a. leaves_bytes a s) (ap (λ q. early (told q)) is ∙ early_is why h.1 ∙ ap (refusal (told why)) (sym h.0))
by_refused f s (done c) h r e = cc e

-- what a call on the channel of a file s of n cells asks: that the reader takes it, with the row in the bytes p
pub record Takes (call : Call) (n : ℕ) (s p : List ℕ) : Type 0 where
  pub least : least_cells ≤ n
  pub most : n ≤ most_cells
  pub cells : count_of s 1 ≡ n
  pub sized : length s ≡ length_of edition n
  pub fits : fits_in (pours_of call) p n ≡ true
  pub passing : Passing s

module _ (call : Call) (s p : List ℕ) where
  abbrev fits : ℕ → Bool
  fits = fits_in (pours_of call) p

  abbrev pub Taken : Type 0
  Taken = Opened (fits_in (pours_of call) p) (poured_rows (pours_of call) (row_in p)) s

  -- bytes that the reader refuses
  pub refused_by : (r : Refusal) → Err r ≡ met_as {B = Unit {0}} (λ _. tt) (read_with fits (poured_rows (pours_of call) (row_in p)) s) → leaves_bytes (early (told r)) s ≡ file_call call s p
  unfolding file_call
  refused_by r e =
      let m = read_with fits (poured_rows (pours_of call) (row_in p)) s in
      by_refused (call_of call (row_in p)) s m (read_outside fits (poured_rows (pours_of call) (row_in p)) s) r (as_refused (λ _. tt) m r e)

  -- and those that it takes
  pub takes_of : Taken → (n : ℕ) → n ≡ count_of s 1 → Takes call n s p
  takes_of o n e =
      rw e
      (record { least = o.least; most = o.most; cells = refl; sized = o.sized; fits = o.fitting; passing = unpoured (channel_of s) (poured_rows (pours_of call) (row_in p)) o.checked_0 })

  pub taken_by : Taken → {r : Answer} {d : List ℕ} → leaves_bytes r d ≡ filed (call_of call (row_in p) (channel_of s)) → leaves_bytes r d ≡ file_call call s p
  unfolding on_file filed file_call
  taken_by o e = e ∙ rw o.is

-- each call, as the code makes it
module _ {call : Call} (s : Row) (c : Channel) where
  pub by_step : call ≡ Step → step_call c s ≡ call_of call s c
  unfolding call_of
  by_step e = ap (λ k. call_of k s c) (sym e)

  pub by_filter : call ≡ Filter → filter_call c ≡ call_of call s c
  unfolding call_of
  by_filter e = ap (λ k. call_of k s c) (sym e)

  pub by_run : {most : ℕ} → call ≡ Run most → run_for_call most c ≡ call_of call s c
  unfolding call_of
  by_run e = ap (λ k. call_of k s c) (sym e)
