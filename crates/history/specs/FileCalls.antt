-- The calls over the bytes of a channel file: an outcome of a call of `on_file::step`, `filter`, `run_for` or `check`, of
-- `on_file::run`, which is the running program's, of `make_file::make`, or of one that C makes, `pathpetal_step`, `pathpetal_filter`,
-- `pathpetal_run`, `pathpetal_check` or `pathpetal_make`, any that its contract permits.
use Rattle.std.specs.Prelude.{ℕ, List}
use borrow.Fn.Kinds.{ResultKind, Out}
use Rattle.on_file.proofs.step.Kinds as step-kinds
use Rattle.on_file.proofs.step.Reads as step-reads
use Rattle.on_file.proofs.filter.Kinds as filter-kinds
use Rattle.on_file.proofs.filter.Reads as filter-reads
use Rattle.on_file.proofs.run_for.Kinds as run-for-kinds
use Rattle.on_file.proofs.run_for.Reads as run-for-reads
use Rattle.on_file.proofs.run.Kinds as run-kinds
use Rattle.on_file.proofs.run.Reads as run-reads
use Rattle.on_file.proofs.check.Kinds as check-kinds
use Rattle.on_file.proofs.check.Reads as check-reads
use Rattle.make_file.proofs.make.Kinds as make-kinds
use Rattle.make_file.proofs.make.Reads as make-reads
use Rattle.pathpetal.proofs.pathpetal_step.Kinds as c-step-kinds
use Rattle.pathpetal.proofs.pathpetal_step.Reads as c-step-reads
use Rattle.pathpetal.proofs.pathpetal_filter.Kinds as c-filter-kinds
use Rattle.pathpetal.proofs.pathpetal_filter.Reads as c-filter-reads
use Rattle.pathpetal.proofs.pathpetal_run.Kinds as c-run-kinds
use Rattle.pathpetal.proofs.pathpetal_run.Reads as c-run-reads
use Rattle.pathpetal.proofs.pathpetal_check.Kinds as c-check-kinds
use Rattle.pathpetal.proofs.pathpetal_check.Reads as c-check-reads
use Rattle.pathpetal.proofs.pathpetal_make.Kinds as c-make-kinds
use Rattle.pathpetal.proofs.pathpetal_make.Reads as c-make-reads
use Rattle.history.specs.Outcomes.{Outcome}

abbrev pub Step : Type 0
Step = Outcome 2 step-kinds.ps step-kinds.r step-reads.Post

abbrev pub Filter : Type 0
Filter = Outcome 1 filter-kinds.ps filter-kinds.r filter-reads.Post

abbrev pub RunFor : Type 0
RunFor = Outcome 1 run-for-kinds.ps run-for-kinds.r run-for-reads.Post

abbrev pub Run : Type 0
Run = Outcome 1 run-kinds.ps run-kinds.r run-reads.Post

abbrev pub Check : Type 0
Check = Outcome 1 check-kinds.ps check-kinds.r check-reads.Post

abbrev pub Make : Type 0
Make = Outcome 5 make-kinds.ps make-kinds.r make-reads.Post

abbrev pub CStep : Type 0
CStep = Outcome 2 c-step-kinds.ps c-step-kinds.r c-step-reads.Post

abbrev pub CFilter : Type 0
CFilter = Outcome 1 c-filter-kinds.ps c-filter-kinds.r c-filter-reads.Post

abbrev pub CRun : Type 0
CRun = Outcome 1 c-run-kinds.ps c-run-kinds.r c-run-reads.Post

abbrev pub CCheck : Type 0
CCheck = Outcome 1 c-check-kinds.ps c-check-kinds.r c-check-reads.Post

abbrev pub CMake : Type 0
CMake = Outcome 5 c-make-kinds.ps c-make-kinds.r c-make-reads.Post

-- What a call is lent and what it leaves, whatever it answers: C's call has the parameters of the one behind it.
-- Of a step, the bytes of the file at entry and at exit, and of the poured row
module _ {R : ResultKind 2} {Post : Out 2 step-kinds.ps R} (o : Outcome 2 step-kinds.ps R Post) where
  abbrev pub step_entry : List ℕ
  step_entry = o.a.0.now

  abbrev pub step_exit : List ℕ
  step_exit = o.x.0.now

  abbrev pub step_row : List ℕ
  step_row = o.a.1.0.now

-- of a filter pass and of the running program's call, the bytes of the file
module _ {R : ResultKind 1} {Post : Out 1 filter-kinds.ps R} (o : Outcome 1 filter-kinds.ps R Post) where
  abbrev pub entry : List ℕ
  entry = o.a.0.now

  abbrev pub exit : List ℕ
  exit = o.x.0.now

-- of a run, the steps asked for too; C gives them last
module _ (o : RunFor) where
  abbrev pub run_for_most : ℕ
  run_for_most = o.a.0

  abbrev pub run_for_entry : List ℕ
  run_for_entry = o.a.1.0.now

  abbrev pub run_for_exit : List ℕ
  run_for_exit = o.x.1.0.now

module _ (o : CRun) where
  abbrev pub c_run_most : ℕ
  c_run_most = o.a.1.0

  abbrev pub c_run_entry : List ℕ
  c_run_entry = o.a.0.now

  abbrev pub c_run_exit : List ℕ
  c_run_exit = o.x.0.now

abbrev pub check_bytes : {R : ResultKind 1} {Post : Out 1 check-kinds.ps R} → Outcome 1 check-kinds.ps R Post → List ℕ
check_bytes o = o.a.0.now

-- the buffer that is filled is the last of nine
abbrev pub make_exit : {R : ResultKind 5} {Post : Out 5 make-kinds.ps R} → Outcome 5 make-kinds.ps R Post → List ℕ
make_exit o = o.x.1.1.1.1.1.1.1.1.0.now
