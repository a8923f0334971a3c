-- `writer::fits` meets its contract: its ways out are the rule's. Assumes nothing.
use mathlib.Core.Path.{◌∙◌}
use mathlib.Core.List.{[]}
use native.Mathlib.Omega.{arith}
use Rattle.rule.specs.Counted.{lent}
use Rattle.places.specs.Met.{met_number, from_err}
use Rattle.checks.specs.Allowed.{allowed_of}
use Rattle.writer.specs.Left.{not_checked, not_fitting, fitting}
use Rattle.writer.proofs.fits.Goals as goal

pub returns-in_err-check : goal.returns-in_err-check
returns-in_err-check c = from_err _ _ c.from_residual.ensures.1 ∙ not_checked (lent c.args.c) c.args.room _ c.in_err-check.ensures

pub length_of-requires : goal.length_of-requires
length_of-requires c =
    let k = (allowed_of (lent c.args.c) [] (met_number _ _ c.in_ok-check.ensures)).cells in
    (omega (arith, k.least), k.most)

pub returns-then-room-length_of : goal.returns-then-room-length_of
returns-then-room-length_of c =
    not_fitting (lent c.args.c) c.args.room c.in_ok-check.ensures (λ e. omega (arith, e, c.if-room-length_of.true, c.length_of.ensures))

pub returns : goal.returns
returns c = fitting (lent c.args.c) c.args.room c.in_ok-check.ensures (omega (arith, c.if-room-length_of.false, c.length_of.ensures))
