-- `put::put` meets its contract: the counts and the rows are the whole file. Assumes nothing.
use Rattle.put.specs.Runs.{file_put}
use Rattle.put.proofs.put.Goals as goal

pub returns : goal.returns
returns c =
    let s = c.args in
    let k = s.c in
    file_put k.n k.x k.t k.accepted k.wanted s.h.now s.e.now s.u.now s.v.now s.q.now s.f.now s.damping.now
    c.requires.1 _ _ _ _ c.requires.0 c.put_head.ensures c.put_cells.ensures c.put_levels.ensures
