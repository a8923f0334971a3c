-- `gauge_state::opened` meets its contract. Assumes nothing.
use Rattle.gauge.specs.State.{state_row}
use Rattle.gauge_state.proofs.opened.Goals as goal

pub returns : goal.returns
unfolding state_row
returns c = c.keep_row.ensures
