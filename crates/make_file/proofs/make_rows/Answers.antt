-- `make_file::make_rows` meets its contract: its ways out are the rule's. Assumes nothing.
use mathlib.Core.Path.{◌∙◌, ap}
use lib.ListN.{length}
use Rattle.places.specs.Met.{from_err}
use Rattle.answers.specs.Stages.{leaves_bytes}
use Rattle.make.specs.Left.{answer_by}
use Rattle.make_checks.specs.Order.{passed_both, rows_refused, rows_pass}
use Rattle.make_file.specs.Left.{fitting_of}
use Rattle.make_file.proofs.make_rows.Goals as goal

pub returns-in_err-check : goal.returns-in_err-check
returns-in_err-check c =
    let a = c.args in
    ap (λ r. leaves_bytes (answer_by r) a.file.now) (from_err _ _ c.from_residual.ensures.1)
    ∙ rows_refused a.c.n a.c.x a.c.t a.c.wanted a.h.now a.e.now a.u.now a.damping.now a.file.now _ c.in_err-check.ensures

pub make_fitting-requires : goal.make_fitting-requires
make_fitting-requires c =
    let a = c.args in
    fitting_of a.c.n a.c.x a.c.t a.c.wanted a.h.now a.e.now a.u.now a.damping.now a.file.now (passed_both a.c.n a.c.x a.c.t a.c.wanted a.h.now a.e.now a.u.now a.damping.now (length a.file.now) c.in_ok-check.ensures)

pub returns : goal.returns
returns c =
    let a = c.args in
    c.make_fitting.ensures ∙ rows_pass a.c.n a.c.x a.c.t a.c.wanted a.h.now a.e.now a.u.now a.damping.now a.file.now c.in_ok-check.ensures
