-- The channel file: what the call read answers, and what it leaves in the lent values. Assumes nothing.
use Rattle.std.specs.Prelude.{ℕ, ◌≡◌, ◌&&◌, Err, length}
use Rattle.std.proofs.Common.{sym}
use mathlib.Core.List.{List, []}
use Rattle.rule.specs.declared.Refusal.{Refusal}
use Rattle.rule.specs.Rows.{Row, map, all, same}
use Rattle.rule.specs.Ranges.{cells_allowed}
use Rattle.rule.specs.Channel.{Channel, rows, lengths}
use Rattle.rule.specs.Checks.{long}
use Rattle.rule.specs.Refusals.{met_as}
use Rattle.rule.specs.File.{count_of, channel_of, read_with}
use Rattle.rule.specs.Calls.{Called, plainly, fit, read_call}
use Rattle.rule.specs.Counted.{counted, counts_of}
use Rattle.places.specs.Faults.{told}
use Rattle.places.specs.Met.{as_refused}
use Rattle.checks.specs.Tests.{and_true}
use Rattle.checks.specs.Facts.{lengths_of}
use Rattle.answers.specs.Stages.{leaves, early, acceptance, refused_met, accepted_call}
use Rattle.read.specs.declared.Reading.{Reading}
use Rattle.form.specs.Reader.{shape_passes}
use Rattle.opened.specs.Opened.{Opened, read_outside}
use Rattle.opened.specs.Fitting.{Opens}

-- 1, as the code tests it
pub lent_shape : (c : Channel) (n : ℕ) → cells_allowed n && same (map length (rows c)) (lengths n) ≡ shape_passes (fit c) [] n
unfolding shape_passes fit long all
lent_shape c n = sym (and_true (cells_allowed n && same (map length (rows c)) (lengths n)))

-- lent rows that a reader takes have the lengths of its file
pub opens_lent : (c : Channel) (s : List ℕ) → Opened (fit c) [] s → Opens s c.h c.e c.u c.v c.Q c.F c.damping
unfolding fit rows
opens_lent c s o = record { least = o.least; most = o.most; sized = o.sized; long = lengths_of (count_of s 1) c.h c.e c.u c.v c.Q c.F c.damping o.fitting }

-- a reader's answer, and the channel as it leaves it
abbrev pub leaves_all : Reading → Row → Row → Row → Row → Row → Row → Row → Called Channel
leaves_all r h e u v Q F damping = record { answer = r.answer; left = counted r.counts h e u v Q F damping }

-- and back
abbrev pub read_of : Called Channel → Reading
read_of k = record { answer = k.answer; counts = counts_of k.left }

-- the ways out
module _ (lent : Channel) (s : List ℕ) where
  pub refused_by : (r : Refusal) → Err r ≡ met_as {B = Unit {0}} (λ _. tt) (read_with (fit lent) [] s) → leaves (early (told r)) lent ≡ read_call lent s
  unfolding read_call plainly
  refused_by r e = refused_met lent (λ _. 0) (λ c. c) (read_with (fit lent) [] s) (read_outside _ [] s) r (as_refused (λ _. tt) _ r e)

  pub stored : Opened (fit lent) [] s → leaves (acceptance 0) (channel_of s) ≡ read_call lent s
  unfolding read_call plainly
  stored o = accepted_call lent (λ _. 0) (λ c. c) (read_with (fit lent) [] s) (channel_of s) o.is
