-- `gauge_rows::read` meets its contract: the places before k are filled. Assumes nothing.
use Rattle.gauge_rows.specs.Chunks.{read_place, long_read, Chunked}
use Rattle.gauge_rows.proofs.read.Given as goal

abbrev pub invariant-loop-k : goal.invariant-loop-k
invariant-loop-k l = Chunked 6 (read_place l.row) (long_read l.row) l.initial.out l.k l.out
