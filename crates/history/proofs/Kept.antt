-- Water is kept by the library's own calls, and so are the counts. A history may be cut after any of its calls, and what comes
-- before the cut is a history: what is said here of the channel at its end is said of every channel between. Assumes nothing.
use Rattle.std.specs.Prelude.{◌+◌, ◌≤◌, ◌≡◌, [], eqb, ◌+ℤ◌}
use Rattle.std.proofs.Common.{sym, ◌∙◌, ap, arith}
use Rattle.rule.specs.Rows.{sum}
use Rattle.rule.specs.Channel.{Channel}
use Rattle.rule.specs.Refusals.{number_of}
use Rattle.rule.specs.Checks.{checked}
use Rattle.rule.specs.Calls.{Called}
use Rattle.answers.specs.Stages.{leaves}
use Rattle.water.specs.History.{after}
use Rattle.water.proofs.History.{water_kept}
use Rattle.water.specs.Counts.{complete_stays, count_grows, count_bounded, wanted_stays}
use Rattle.water.specs.Again.{accepted_passes}
use Rattle.water.specs.Late.{Timely, step_timely, filter_timely, run_timely, run_for_timely}
use Rattle.history.specs.Steps as steps
use Rattle.history.specs.Filters as filters
use Rattle.history.specs.Runs as runs
use Rattle.history.specs.History.{Start, made, read, Link, step, filter, run, run_for, History, poured, accepted, answer, ruled, calls, rows_of, at_complete}
use Rattle.history.specs.Starts.{make_starts, read_starts}
use Rattle.history.specs.Basin.{is_like}
use Rattle.history.specs.Complete.{step_complete, filter_complete, run_complete, run_for_complete}
use Rattle.history.proofs.Told.{whole}

-- each answer is the rule's, and so is each channel that is left
pub answers_are_the_rule's : {c d : Channel} (l : Link c d) → leaves (answer l) d ≡ ruled l
unfolding answer ruled
answers_are_the_rule's (step o) = o.permitted
answers_are_the_rule's (filter o) = o.permitted
answers_are_the_rule's (run o) = o.permitted
answers_are_the_rule's (run_for o) = o.permitted

module _ {c d : Channel} (h : History c d) where
  -- from any channel, by any calls: the heights add up to exactly their starting sum and every amount poured in by the accepted steps
  pub library_water_kept : sum d.e ≡ sum c.e +ℤ poured h
  library_water_kept =
      let a = whole h in
      ap (λ x. sum x.e) a.is ∙ water_kept c (calls h) ∙ ap (λ t. sum c.e +ℤ t) a.pours

  -- the channel is the one that the rule's calls leave
  pub history_is_the_rule's : d ≡ after c (calls h)
  history_is_the_rule's = (whole h).is

  -- the count of accepted steps is the starting count and the accepted ones of the history
  pub library_count_grows : d.accepted ≡ c.accepted + accepted h
  library_count_grows =
      let a = whole h in
      let e = ap (λ x. x.accepted) a.is in
      omega (arith, e, count_grows c (calls h), a.counts)

  pub library_wanted_stays : d.wanted ≡ c.wanted
  library_wanted_stays = ap (λ x. x.wanted) (whole h).is ∙ wanted_stays c (calls h)

  -- and so does the damping of every cell
  pub library_damping_stays : d.damping ≡ c.damping
  library_damping_stays = sym (ap (λ x. x.damping) (is_like c d (calls h) (whole h).is))

  -- a complete channel stays as it is under every call
  pub library_complete_stays : c.accepted ≡ c.wanted → d ≡ c
  library_complete_stays e = (whole h).is ∙ complete_stays c e (calls h)

-- by the rule 26 is not met by a channel that passes the checks
ruled_timely : {c d : Channel} (l : Link c d) → number_of (checked c []) ≡ 0 → Timely (ruled l).answer.number
unfolding ruled
ruled_timely (step o) z = step_timely (steps.entry o) (steps.row o) z
ruled_timely (filter o) z = filter_timely (filters.entry o) z
ruled_timely (run o) z = run_timely (runs.entry o) z
ruled_timely (run_for o) z = run_for_timely (runs.most o) (runs.entry_for o) z

-- what the maker or the reader accepts passes the checks of an input
pub start_passes : {c : Channel} → Start c → number_of (checked c []) ≡ 0
start_passes (made o z) = make_starts o z
start_passes (read o z) = read_starts o z

module _ {c d : Channel} (start : Start c) (h : History c d) where
  -- and so does every channel between
  pub library_passes : number_of (checked d []) ≡ 0
  library_passes = ap (λ x. number_of (checked x [])) (whole h).is ∙ accepted_passes c (calls h) (start_passes start)

  -- so that no call meets 26
  pub library_never_late : {after : Channel} (l : Link d after) → Timely (answer l).number
  library_never_late l = ap (λ (k : Called Channel). eqb k.answer.number 26) (answers_are_the_rule's l) ∙ ruled_timely l library_passes

  -- the count of accepted steps never passes the count that is wanted
  pub library_count_bounded : d.accepted ≤ d.wanted
  library_count_bounded =
      let e = ap (λ x. x.accepted) (whole h).is in
      omega (arith, e, count_bounded c (calls h) (start_passes start), library_wanted_stays h)

-- on a complete channel, where what is poured passes the checks, a step and a filter pass answer 11, and a run 0 with no step
pub library_complete_answers : {c d : Channel} (l : Link c d) → c.accepted ≡ c.wanted → number_of (checked c (rows_of l)) ≡ 0 → leaves (answer l) d ≡ leaves (at_complete l) c
unfolding answer rows_of at_complete
library_complete_answers (step o) e z = o.permitted ∙ step_complete (steps.entry o) e (steps.row o) z
library_complete_answers (filter o) e z = o.permitted ∙ filter_complete (filters.entry o) e z
library_complete_answers (run o) e z = o.permitted ∙ run_complete (runs.entry o) e z
library_complete_answers (run_for o) e z = o.permitted ∙ run_for_complete (runs.entry_for o) e (runs.most o) z
