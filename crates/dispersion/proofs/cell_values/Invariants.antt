-- `dispersion::cell_values` meets its contract. Assumes nothing.
use Rattle.std.proofs.Common.{◌*◌, pos, ◌*ℤ◌}
use Rattle.whole.specs.Row.{Filled}
use Rattle.rule.specs.Rows.{cell}
use Rattle.rule.specs.Flux.{second, M}
use Rattle.dispersion.proofs.cell_values.Given as goal

abbrev pub invariant-loop-j : goal.invariant-loop-j
invariant-loop-j l =
    Filled (λ k. M (pos 1000 *ℤ cell l.h k) (1000 * l.x) (second l.n l.u k) (second l.n l.hu k)) l.initial.m-items l.j l.m-items
