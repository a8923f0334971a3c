-- Any two outcomes that the contracts of the nine exported functions permit coincide: for all numbers and bytes, each answers one
-- number and leaves one file, one state of the gauges or one row of readings; the rule's number is one, too. `Post` is the contract itself, as the check reads it. Assumes nothing.
use Prim.Native.Nat.{ℕ}
use mathlib.Core.Path.{◌≡◌, sym, ◌∙◌}
use contract.Lifetimes.{Lfts}
use denote.Triple.Clauses.{AtExit}
use borrow.Fn.Kinds.{Dens, res_t, ended_of}
use Rattle.pathpetal_c.proofs.pathpetal_rule.Kinds as rule-kinds
use Rattle.pathpetal_c.proofs.pathpetal_rule.Reads as rule-reads
use Rattle.pathpetal_c.proofs.pathpetal_make.Kinds as make-kinds
use Rattle.pathpetal_c.proofs.pathpetal_make.Reads as make-reads
use Rattle.pathpetal_c.proofs.pathpetal_check.Kinds as check-kinds
use Rattle.pathpetal_c.proofs.pathpetal_check.Reads as check-reads
use Rattle.pathpetal_c.proofs.pathpetal_step.Kinds as step-kinds
use Rattle.pathpetal_c.proofs.pathpetal_step.Reads as step-reads
use Rattle.pathpetal_c.proofs.pathpetal_filter.Kinds as filter-kinds
use Rattle.pathpetal_c.proofs.pathpetal_filter.Reads as filter-reads
use Rattle.pathpetal_c.proofs.pathpetal_run.Kinds as run-kinds
use Rattle.pathpetal_c.proofs.pathpetal_run.Reads as run-reads
use Rattle.pathpetal_c.proofs.pathpetal_place_gauge.Kinds as place-gauge-kinds
use Rattle.pathpetal_c.proofs.pathpetal_place_gauge.Reads as place-gauge-reads
use Rattle.pathpetal_c.proofs.pathpetal_feed_gauges.Kinds as feed-gauges-kinds
use Rattle.pathpetal_c.proofs.pathpetal_feed_gauges.Reads as feed-gauges-reads
use Rattle.pathpetal_c.proofs.pathpetal_read_gauges.Kinds as read-gauges-kinds
use Rattle.pathpetal_c.proofs.pathpetal_read_gauges.Reads as read-gauges-reads

-- in the number and in what is left: the file, the gauges or the readings
pub record Coincide {A : Type 0} (r r' : ℕ) (s s' : A) : Type 0 where
  pub answer : r ≡ r'
  pub left : s ≡ s'

-- what both contracts say they are
coincide : {A : Type 0} {r r' n : ℕ} {s s' t : A} → (r ≡ n) × (s ≡ t) → (r' ≡ n) × (s' ≡ t) → Coincide r r' s s'
coincide p p' = record { answer = p.0 ∙ sym p'.0; left = p.1 ∙ sym p'.1 }

module _ (κs : Lfts 0) where
  pub one_outcome_rule : (a : Dens κs rule-kinds.ps) (r r' : (res_t rule-kinds.r κs).Denot) (x x' : AtExit (ended_of 0 rule-kinds.ps rule-kinds.r) κs) → rule-reads.Post κs a r x → rule-reads.Post κs a r' x' → ◌≡◌ {A = ℕ} r r'
  one_outcome_rule a r r' x x' p p' = p ∙ sym p'

module _ (κs : Lfts 5) where
  pub one_outcome_make : (a : Dens κs make-kinds.ps) (r r' : (res_t make-kinds.r κs).Denot) (x x' : AtExit (ended_of 5 make-kinds.ps make-kinds.r) κs) → make-reads.Post κs a r x → make-reads.Post κs a r' x' → Coincide r r' x.1.1.1.1.1.1.1.1.0.now x'.1.1.1.1.1.1.1.1.0.now
  one_outcome_make a r r' x x' p p' = coincide p p'

module _ (κs : Lfts 2) where
  pub one_outcome_step : (a : Dens κs step-kinds.ps) (r r' : (res_t step-kinds.r κs).Denot) (x x' : AtExit (ended_of 2 step-kinds.ps step-kinds.r) κs) → step-reads.Post κs a r x → step-reads.Post κs a r' x' → Coincide r r' x.0.now x'.0.now
  one_outcome_step a r r' x x' p p' = coincide p.0 p'.0

  pub one_outcome_place_gauge : (a : Dens κs place-gauge-kinds.ps) (r r' : (res_t place-gauge-kinds.r κs).Denot) (x x' : AtExit (ended_of 2 place-gauge-kinds.ps place-gauge-kinds.r) κs) → place-gauge-reads.Post κs a r x → place-gauge-reads.Post κs a r' x' → Coincide r r' x.1.0.now x'.1.0.now
  one_outcome_place_gauge a r r' x x' p p' = coincide p p'

  pub one_outcome_feed_gauges : (a : Dens κs feed-gauges-kinds.ps) (r r' : (res_t feed-gauges-kinds.r κs).Denot) (x x' : AtExit (ended_of 2 feed-gauges-kinds.ps feed-gauges-kinds.r) κs) → feed-gauges-reads.Post κs a r x → feed-gauges-reads.Post κs a r' x' → Coincide r r' x.1.0.now x'.1.0.now
  one_outcome_feed_gauges a r r' x x' p p' = coincide p p'

  pub one_outcome_read_gauges : (a : Dens κs read-gauges-kinds.ps) (r r' : (res_t read-gauges-kinds.r κs).Denot) (x x' : AtExit (ended_of 2 read-gauges-kinds.ps read-gauges-kinds.r) κs) → read-gauges-reads.Post κs a r x → read-gauges-reads.Post κs a r' x' → Coincide r r' x.1.0.now x'.1.0.now
  one_outcome_read_gauges a r r' x x' p p' = coincide p p'

module _ (κs : Lfts 1) where
  pub one_outcome_check : (a : Dens κs check-kinds.ps) (r r' : (res_t check-kinds.r κs).Denot) (x x' : AtExit (ended_of 1 check-kinds.ps check-kinds.r) κs) → check-reads.Post κs a r x → check-reads.Post κs a r' x' → ◌≡◌ {A = ℕ} r r'
  one_outcome_check a r r' x x' p p' = p.0 ∙ sym p'.0

  pub one_outcome_filter : (a : Dens κs filter-kinds.ps) (r r' : (res_t filter-kinds.r κs).Denot) (x x' : AtExit (ended_of 1 filter-kinds.ps filter-kinds.r) κs) → filter-reads.Post κs a r x → filter-reads.Post κs a r' x' → Coincide r r' x.0.now x'.0.now
  one_outcome_filter a r r' x x' p p' = coincide p.0 p'.0

  pub one_outcome_run : (a : Dens κs run-kinds.ps) (r r' : (res_t run-kinds.r κs).Denot) (x x' : AtExit (ended_of 1 run-kinds.ps run-kinds.r) κs) → run-reads.Post κs a r x → run-reads.Post κs a r' x' → Coincide r r' x.0.now x'.0.now
  one_outcome_run a r r' x x' p p' = coincide p.0 p'.0
