-- `in_arrays::walk_rows` meets its contract: the call is on the file's channel, and what it leaves is written. Assumes nothing.
use mathlib.Core.Path.{sym, ◌∙◌, ap}
use Rattle.rule.specs.Channel.{Channel}
use Rattle.rule.specs.Layout.{length_of}
use Rattle.rule.specs.File.{edition, channel_of}
use Rattle.opened.specs.Held.{cells_is}
use Rattle.call.specs.Kept.{put_asks, put_leaves}
use Rattle.call.specs.Walk.{call_of, call_left}
use Rattle.in_arrays.proofs.walk_rows.Goals as goal

pub put-requires : goal.put-requires
put-requires c =
    let a = c.args in
    let w = c.requires in
    let n = ap (λ (d : Channel). d.N) c.opened-c.ensures ∙ cells_is a.file.now in
    rw c.after.ensures (
      w.0.sized ∙ ap (length_of edition) (sym n),
      put_asks (c.called-r.ensures ∙ ap (call_of a.call a.s.now) c.opened-c.ensures) (call_left a.call a.s.now (channel_of a.file.now) w.1),
    )

pub returns : goal.returns
returns c =
    let a = c.args in
    put_leaves (c.called-r.ensures ∙ ap (call_of a.call a.s.now) c.opened-c.ensures) (rw c.after.ensures at c.put.ensures)
