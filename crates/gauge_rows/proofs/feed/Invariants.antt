-- `gauge_rows::feed` meets its contract: the places before k are filled. Assumes nothing.
use Rattle.gauge_rows.specs.Chunks.{fed_place, long_fed, Chunked}
use Rattle.gauge_rows.proofs.feed.Given as goal

abbrev pub invariant-loop-k : goal.invariant-loop-k
invariant-loop-k l = Chunked 8 (fed_place l.e l.row) (long_fed l.e l.row) l.initial.out l.k l.out
