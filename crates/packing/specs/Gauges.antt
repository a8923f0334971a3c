-- "Gauges": the answers of their calls are small enough for one number. Assumes nothing.
use Rattle.std.specs.Prelude.{ℕ, true}
use Rattle.std.proofs.Math.Path.{refl}
use mathlib.Core.List.{List, []}
use Rattle.std.proofs.Common.{arith}
use Rattle.rule.specs.Rows.{Row}
use Rattle.rule.specs.declared.Refusal.TheVariants.{BufferLength, GaugesLength, GaugesValue, NinthGauge, OffChannel, GaugeFull}
use Rattle.rule.specs.Refusals.{Outcome, refused, done, place, ◌>>=◌}
use Rattle.rule.specs.Calls.{plainly, read}
use Rattle.gauge.specs.State.{formed, free, placeable, placed, feedable, fed, readable, readings}
use Rattle.gauge.specs.OnGauges.{place_file, feed_file, read_state}
use Rattle.gauge_state.specs.Done.{free_most}
use Rattle.packing.specs.Small.{Small, Bounded, Counted, bounded_then, bounded_test, bounded_require, called_small, uncounted_small}
use Rattle.packing.specs.Answers.{read_bounded}

formed_bounded : (s : List ℕ) → Bounded (formed s)
unfolding formed place
formed_bounded s = bounded_test _ GaugesLength _ refl (λ _. bounded_require _ GaugesValue refl)

module _ (file s : List ℕ) where
  unread : Bounded (read file)
  unfolding read
  unread = read_bounded (λ _. true) [] file

  -- the count of a gauge that is placed is one of 8
  by_place : (m : Outcome (List ℕ)) → Counted (λ _. free s) m
  by_place (refused r k) = tt
  by_place (done t) = omega (arith, free_most s)

  pub place_answer : (j : ℕ) → Small (place_file file j s).answer
  unfolding place_file placed placeable place
  place_answer j =
      called_small s (λ _. free s) (λ t. t) _
      (bounded_then (read file) _ unread (λ _ _.
      bounded_then _ _ (bounded_then (formed s) _ (formed_bounded s) (λ _ _. bounded_test _ NinthGauge _ refl (λ _. bounded_require _ OffChannel refl))) (λ _ _. tt)))
      (by_place (read file >>= λ c. placed c.N j s))

  pub feed_answer : Small (feed_file file s).answer
  unfolding feed_file plainly fed feedable place
  feed_answer =
      uncounted_small s (λ t. t) _
      (bounded_then (read file) _ unread (λ _ _.
      bounded_then _ _ (bounded_then (formed s) _ (formed_bounded s) (λ _ _. bounded_test _ OffChannel _ refl (λ _. bounded_require _ GaugeFull refl))) (λ _ _. tt)))

pub read_answer : (s : List ℕ) (room : Row) → Small (read_state s room).answer
unfolding read_state plainly readings readable place
read_answer s room =
    uncounted_small room (λ t. t) _
    (bounded_then _ _ (bounded_then (formed s) _ (formed_bounded s) (λ _ _. bounded_require _ BufferLength refl)) (λ _ _. tt))
