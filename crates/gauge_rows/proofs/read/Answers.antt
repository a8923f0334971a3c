-- `gauge_rows::read` meets its contract: the places before k are filled. Assumes nothing.
use Rattle.std.proofs.Common.{◌≡◌, ◌*◌, length, ◌∙◌, ap, arith}
use Rattle.whole.specs.Row.{tab}
use Rattle.gauge.specs.Gauge.{right}
use Rattle.gauge.specs.State.{reading, flat}
use Rattle.little.specs.Written.{written}
use Rattle.gauge_rows.specs.Bounds.{at_place, right_small}
use Rattle.gauge_rows.specs.Chunks.{read_place, long_read, read_all, chunked_start, chunked_more, chunked_end}
use Rattle.gauge_rows.proofs.read.Goals as goal

pub loop-k-init : goal.loop-k-init
loop-k-init c = let a = c.args in chunked_start 6 (read_place a.row.now) (long_read a.row.now) a.out.now

pub put_reading-requires : goal.put_reading-requires
put_reading-requires c = (
  omega (arith, c.requires.room),
  right_small c.gauge_at.result (ap right c.gauge_at.ensures ∙ at_place right c.args.row.now c.loop-k.k c.requires.right (omega arith)),
)

pub loop-k-preserved : goal.loop-k-preserved
unfolding read_place
loop-k-preserved c =
    let a = c.args in
    let l = c.loop-k in
    let e = c.put_reading.ensures ∙ ap (λ g. written l.out (6 * l.k) (reading g)) c.gauge_at.ensures in
    chunked_more 6 (read_place a.row.now) (long_read a.row.now) a.out.now l.out c.put_reading.new.row l.k l.invariant e

pub returns : goal.returns
returns c =
    let a = c.args in
    let l = c.loop-k in
    let e : l.k ≡ 8 = omega arith in
    let h : length a.out.now ≡ 6 * l.k = omega (arith, c.requires.room) in
    chunked_end 6 (read_place a.row.now) (long_read a.row.now) a.out.now l.out l.k l.invariant h
    ∙ ap (λ k. flat (tab k (read_place a.row.now))) e
    ∙ read_all a.row.now
