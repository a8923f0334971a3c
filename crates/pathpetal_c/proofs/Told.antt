-- What C is told: number, stage, place and count, taken out of the number that an exported function gives, are the rule's answer, of any
-- outcome that its contract permits. `Post` is the contract itself, as the check reads it. Assumes nothing.
use mathlib.Core.Path.{◌≡◌}
use contract.Lifetimes.{Lfts}
use denote.Triple.Clauses.{AtExit}
use borrow.Fn.Kinds.{Dens, res_t, ended_of}
use Rattle.rule.specs.Calls.{check_file, step_file, filter_file, run_for_file, make_file}
use Rattle.gauge.specs.OnGauges.{place_file, feed_file, read_state}
use Rattle.packing.specs.Packed.{unpacked, make_unpacked, check_unpacked, step_unpacked, filter_unpacked, run_unpacked, place_unpacked, feed_unpacked, read_unpacked}
use Rattle.pathpetal_c.proofs.pathpetal_make.Kinds as make-kinds
use Rattle.pathpetal_c.proofs.pathpetal_make.Reads as make-reads
use Rattle.pathpetal_c.proofs.pathpetal_check.Kinds as check-kinds
use Rattle.pathpetal_c.proofs.pathpetal_check.Reads as check-reads
use Rattle.pathpetal_c.proofs.pathpetal_step.Kinds as step-kinds
use Rattle.pathpetal_c.proofs.pathpetal_step.Reads as step-reads
use Rattle.pathpetal_c.proofs.pathpetal_filter.Kinds as filter-kinds
use Rattle.pathpetal_c.proofs.pathpetal_filter.Reads as filter-reads
use Rattle.pathpetal_c.proofs.pathpetal_run.Kinds as run-kinds
use Rattle.pathpetal_c.proofs.pathpetal_run.Reads as run-reads
use Rattle.pathpetal_c.proofs.pathpetal_place_gauge.Kinds as place-gauge-kinds
use Rattle.pathpetal_c.proofs.pathpetal_place_gauge.Reads as place-gauge-reads
use Rattle.pathpetal_c.proofs.pathpetal_feed_gauges.Kinds as feed-gauges-kinds
use Rattle.pathpetal_c.proofs.pathpetal_feed_gauges.Reads as feed-gauges-reads
use Rattle.pathpetal_c.proofs.pathpetal_read_gauges.Kinds as read-gauges-kinds
use Rattle.pathpetal_c.proofs.pathpetal_read_gauges.Reads as read-gauges-reads

module _ (κs : Lfts 5) where
  pub make_told : (a : Dens κs make-kinds.ps) (r : (res_t make-kinds.r κs).Denot) (x : AtExit (ended_of 5 make-kinds.ps make-kinds.r) κs) → make-reads.Post κs a r x → let b = a.1.1.1.1 in unpacked r ≡ (make_file a.0 a.1.0 a.1.1.0 a.1.1.1.0 b.0.now b.1.0.now b.1.1.0.now b.1.1.1.0.now b.1.1.1.1.0.now).answer
  make_told a r x p = make_unpacked _ _ _ _ _ _ _ _ _ p.0

module _ (κs : Lfts 2) where
  pub step_told : (a : Dens κs step-kinds.ps) (r : (res_t step-kinds.r κs).Denot) (x : AtExit (ended_of 2 step-kinds.ps step-kinds.r) κs) → step-reads.Post κs a r x → unpacked r ≡ (step_file a.0.now a.1.0.now).answer
  step_told a r x p = step_unpacked _ _ p.0.0

  pub place_gauge_told : (a : Dens κs place-gauge-kinds.ps) (r : (res_t place-gauge-kinds.r κs).Denot) (x : AtExit (ended_of 2 place-gauge-kinds.ps place-gauge-kinds.r) κs) → place-gauge-reads.Post κs a r x → unpacked r ≡ (place_file a.0.now a.1.1.0 a.1.0.now).answer
  place_gauge_told a r x p = place_unpacked _ _ _ p.0

  pub feed_gauges_told : (a : Dens κs feed-gauges-kinds.ps) (r : (res_t feed-gauges-kinds.r κs).Denot) (x : AtExit (ended_of 2 feed-gauges-kinds.ps feed-gauges-kinds.r) κs) → feed-gauges-reads.Post κs a r x → unpacked r ≡ (feed_file a.0.now a.1.0.now).answer
  feed_gauges_told a r x p = feed_unpacked _ _ p.0

  pub read_gauges_told : (a : Dens κs read-gauges-kinds.ps) (r : (res_t read-gauges-kinds.r κs).Denot) (x : AtExit (ended_of 2 read-gauges-kinds.ps read-gauges-kinds.r) κs) → read-gauges-reads.Post κs a r x → unpacked r ≡ (read_state a.0.now a.1.0.now).answer
  read_gauges_told a r x p = read_unpacked _ _ p.0

module _ (κs : Lfts 1) where
  pub check_told : (a : Dens κs check-kinds.ps) (r : (res_t check-kinds.r κs).Denot) (x : AtExit (ended_of 1 check-kinds.ps check-kinds.r) κs) → check-reads.Post κs a r x → unpacked r ≡ check_file a.0.now
  check_told a r x p = check_unpacked _ p.0

  pub filter_told : (a : Dens κs filter-kinds.ps) (r : (res_t filter-kinds.r κs).Denot) (x : AtExit (ended_of 1 filter-kinds.ps filter-kinds.r) κs) → filter-reads.Post κs a r x → unpacked r ≡ (filter_file a.0.now).answer
  filter_told a r x p = filter_unpacked _ p.0.0

  pub run_told : (a : Dens κs run-kinds.ps) (r : (res_t run-kinds.r κs).Denot) (x : AtExit (ended_of 1 run-kinds.ps run-kinds.r) κs) → run-reads.Post κs a r x → unpacked r ≡ (run_for_file a.1.0 a.0.now).answer
  run_told a r x p = run_unpacked _ _ p.0.0
