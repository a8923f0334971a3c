-- `gauge_rows::gauge_at` meets its contract. Assumes nothing.
use Rattle.std.proofs.Common.{◌∙◌, ap}
use Rattle.gauge.specs.State.{gauge_at}
use Rattle.gauge_rows.proofs.Parts.{gauge_part}
use Rattle.gauge_rows.proofs.gauge_at.Goals as goal

pub returns : goal.returns
returns c = c.from.ensures ∙ ap (λ part. gauge_at part 0) c.copy_from_slice.ensures.after ∙ gauge_part c.args.row.now c.args.k
