-- `gauge_state::readable` meets its contract. Assumes nothing.
use Rattle.std.proofs.Common.{◌∙◌}
use Rattle.places.specs.Met.{refused_first, ok_then}
use Rattle.gauge.specs.State.{readable}
use Rattle.gauge_state.proofs.readable.Goals as goal

pub returns-in_err-formed : goal.returns-in_err-formed
unfolding readable
returns-in_err-formed c = refused_first _ _ _ c.in_err-formed.ensures _ c.from_residual.ensures.1

pub returns : goal.returns
unfolding readable
returns c = c.require.ensures ∙ ok_then _ _ _ c.in_ok-formed.ensures
