-- `store::lower` meets its contract. The entries from j on have moved. Assumes nothing.
use Rattle.std.proofs.Common.{◌*◌, ◌≤◌}
use Rattle.store.specs.Levels.{Lowered}
use Rattle.store.proofs.lower.Given as goal

abbrev pub invariant-loop-j : goal.invariant-loop-j
invariant-loop-j l = (l.m ≤ l.j) × (l.j ≤ 3 * l.m) × Lowered l.initial.levels l.m l.j l.levels
