-- `gauge_rows::feed` meets its contract: the places before k are filled. Assumes nothing.
use Rattle.std.proofs.Common.{◌≡◌, ◌*◌, length, ◌∙◌, ap, arith}
use Rattle.whole.specs.Row.{tab}
use Rattle.gauge.specs.Gauge.{right}
use Rattle.gauge.specs.State.{numbers, flat, stands_in, fed_from}
use Rattle.little.specs.Written.{written}
use Rattle.gauge_rows.specs.Bounds.{at_place}
use Rattle.gauge_rows.specs.Chunks.{fed_place, long_fed, fed_all_lem, chunked_start, chunked_more, chunked_end}
use Rattle.gauge_rows.proofs.feed.Goals as goal

pub loop-k-init : goal.loop-k-init
loop-k-init c = let a = c.args in chunked_start 8 (fed_place a.e.now a.row.now) (long_fed a.e.now a.row.now) a.out.now

pub fed_from-requires : goal.fed_from-requires
fed_from-requires c =
    let row = c.args.row.now in
    let k = c.loop-k.k in
    let stands = stands_in (length c.args.e.now) in
    let here = c.gauge_at.ensures in (
      ap right here ∙ at_place right row k c.requires.right (omega arith),
      (ap stands here ∙ at_place stands row k c.requires.stand (omega arith), c.requires.small),
    )

pub loop-k-preserved : goal.loop-k-preserved
unfolding fed_place
loop-k-preserved c =
    let a = c.args in
    let l = c.loop-k in
    let e = c.put_gauge.ensures ∙ ap (λ g. written l.out (8 * l.k) (numbers g)) (c.fed_from.ensures ∙ ap (fed_from a.e.now) c.gauge_at.ensures) in
    chunked_more 8 (fed_place a.e.now a.row.now) (long_fed a.e.now a.row.now) a.out.now l.out c.put_gauge.new.row l.k l.invariant e

pub returns : goal.returns
returns c =
    let a = c.args in
    let l = c.loop-k in
    let e : l.k ≡ 8 = omega arith in
    let h : length a.out.now ≡ 8 * l.k = omega (arith, c.requires.room) in
    chunked_end 8 (fed_place a.e.now a.row.now) (long_fed a.e.now a.row.now) a.out.now l.out l.k l.invariant h
    ∙ ap (λ k. flat (tab k (fed_place a.e.now a.row.now))) e
    ∙ fed_all_lem a.e.now a.row.now
