-- `text::Pen::state` meets its contract. Assumes nothing.
use Rattle.std.proofs.Common.{arith}
use Rattle.text.specs.Put.{put_as}
use Rattle.text.specs.Lines.{state_text, is_done, is_open}
use Rattle.text.proofs.Pen.state.Goals as goal

pub returns-then-accepted-wanted : goal.returns-then-accepted-wanted
returns-then-accepted-wanted c =
    let a = c.args in
    put_as (state_text a.accepted a.wanted) c.word.ensures (is_done a.accepted a.wanted (omega arith))

pub returns-else-accepted-wanted : goal.returns-else-accepted-wanted
returns-else-accepted-wanted c =
    let a = c.args in
    put_as (state_text a.accepted a.wanted) c.word-else-accepted-wanted.ensures (is_open a.accepted a.wanted c.if-accepted-wanted.false)
