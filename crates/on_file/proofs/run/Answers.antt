-- `on_file::run` meets its contract: a run of at most a million steps is a whole run. Assumes nothing.
use mathlib.Core.Path.{sym, ◌∙◌}
use Rattle.on_file.specs.Ran.{none_written, taken_file, all_written}
use Rattle.on_file.proofs.run.Goals as goal

pub returns-then-is_err-clause-file_after : goal.returns-then-is_err-clause-file_after
returns-then-is_err-clause-file_after c = none_written c.args.file.now c.check.ensures (sym c.is_err.ensures.value ∙ c.if-is_err.true)

pub returns-clause-file_after : goal.returns-clause-file_after
returns-clause-file_after c =
    let s = c.args.file.now in
    all_written s _ (taken_file s c.check.ensures (sym c.is_err.ensures.value ∙ c.if-is_err.false)) c.run_for.ensures.file_after c.run_for.auto.file
