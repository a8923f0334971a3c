-- Refusal numbers: the answer of every call over the bytes of a file is small enough for one number. Assumes nothing.
use Rattle.std.specs.Prelude.{ℕ, Bool, true, ◌&&◌, List, []}
use Rattle.std.proofs.Math.Path.{refl}
use Rattle.rule.specs.Rows.{Row}
use Rattle.rule.specs.Ranges.{cells_allowed}
use Rattle.rule.specs.Channel.{Channel}
use Rattle.rule.specs.declared.Refusal.TheVariants.{Shape, Speed, FileLength, FileEdition, FileOffsets, BufferLength}
use Rattle.rule.specs.Refusals.{Outcome, refused, done, place}
use Rattle.rule.specs.Flux.{fluxes}
use Rattle.rule.specs.Checks.{long}
use Rattle.rule.specs.Make.{reduced_velocities, make}
use Rattle.rule.specs.File.{count_of, channel_of, read_with}
use Rattle.rule.specs.Calls.{Called, read, row_in, holds, on_file, step_call, filter_call, run_for_call, check_file, step_file, filter_file, run_for_file, make_file}
use Rattle.checks.specs.Tests.{both}
use Rattle.opened.specs.Held.{shaped_held}
use Rattle.packing.specs.Small.{Small, Bounded, bounded_then, bounded_test, refused_small, uncounted_small}
use Rattle.packing.specs.Inputs.{allowed_bounded, made_bounded}
use Rattle.packing.specs.Steps.{fluxes_bounded, step_small, filter_small, run_small}

pub read_bounded : (fits : ℕ → Bool) (poured : List Row) (s : List ℕ) → Bounded (read_with fits poured s)
unfolding read_with channel_of place
read_bounded fits poured s =
    bounded_test _ FileLength _ refl (λ _.
    bounded_test _ FileEdition _ refl (λ _.
    bounded_test (cells_allowed (count_of s 1) && fits (count_of s 1) && long (count_of s 1) poured) Shape _ refl (λ p.
    let q = both (cells_allowed (count_of s 1) && fits (count_of s 1)) (long (count_of s 1) poured) p in
    let cells = (both (cells_allowed (count_of s 1)) (fits (count_of s 1)) q.0).0 in
    bounded_test _ FileLength _ refl (λ _.
    bounded_test _ FileOffsets _ refl (λ _.
    bounded_then _ _ (allowed_bounded (channel_of s) poured (shaped_held s poured cells q.1)) (λ _ _. tt))))))

by_read : (f : Channel → Called Channel) (s : List ℕ) (m : Outcome Channel) → Bounded m → ((c : Channel) → Small (f c).answer) → Small (on_file f s m).answer
unfolding on_file
by_read f s (refused r k) h g = refused_small r k h
by_read f s (done c) h g = g c

pub check_answer : (s : List ℕ) → Small (check_file s)
unfolding check_file read
check_answer s = uncounted_small s _ (read s) (read_bounded (λ _. true) [] s)

pub step_answer : (s poured : List ℕ) → Small (step_file s poured).answer
unfolding step_file
step_answer s poured = by_read (λ c. step_call c (row_in poured)) s _ (read_bounded (holds poured) _ s) (λ c. step_small c (row_in poured))

pub filter_answer : (s : List ℕ) → Small (filter_file s).answer
unfolding filter_file read
filter_answer s = by_read filter_call s _ (read_bounded (λ _. true) [] s) filter_small

pub run_answer : (most : ℕ) (s : List ℕ) → Small (run_for_file most s).answer
unfolding run_for_file read
run_answer most s = by_read (run_for_call most) s _ (read_bounded (λ _. true) [] s) (run_small most)

-- a channel that is made
module _ (n X T wanted : ℕ) (h e u damping : Row) where
  make_bounded : Bounded (make n X T wanted h e u damping)
  unfolding make reduced_velocities place
  make_bounded =
      bounded_then _ _ (made_bounded n X T wanted h e u damping) (λ _ _.
      bounded_then (reduced_velocities n X h u) _ (bounded_test _ Speed _ refl (λ _. tt)) (λ _ _.
      bounded_then (fluxes n X h e u) _ (fluxes_bounded n X h e u) (λ _ _. tt)))

pub make_answer : (n X T wanted : ℕ) (h e u damping buffer : List ℕ) → Small (make_file n X T wanted h e u damping buffer).answer
unfolding make_file place
make_answer n X T wanted h e u damping buffer =
    uncounted_small buffer _ _
    (bounded_test _ Shape _ refl (λ _.
    bounded_then _ _ (made_bounded n X T wanted (row_in h) (row_in e) (row_in u) (row_in damping)) (λ _ _.
    bounded_test _ BufferLength _ refl (λ _.
    make_bounded n X T wanted (row_in h) (row_in e) (row_in u) (row_in damping)))))
