-- `layout::put_offsets` meets its contract, whatever the edition: the offsets before i are written. Assumes nothing.
use Rattle.std.proofs.Common.{◌*◌, ◌<◌, length, take_all, refl, sym, ◌∙◌, arith}
use Rattle.rule.specs.Layout.{head_length, offsets, start_of}
use Rattle.rule.specs.File.{head_bytes}
use Rattle.little.specs.Written.{written, written_none}
use Rattle.layout.specs.Table.{length-offsets}
use Rattle.layout.specs.Counts.{written_firsts}
use Rattle.layout.proofs.put_offsets.Goals as goal

pub loop-i-init : goal.loop-i-init
unfolding head_bytes
loop-i-init c = (refl, sym (written_none _ _))

pub loop-i-preserved : goal.loop-i-preserved
unfolding head_length start_of
loop-i-preserved c =
    let l = c.loop-i in
    let a = c.args in
    let os = offsets a.edition a.n in
    let more : l.i < length os = omega (arith, c.loop-i-test.true, c.rows_in-i-end.ensures, length-offsets a.edition a.n) in
    (omega arith, written_firsts os a.d.now l.d _ _ l.i _ _ l.invariant.1 (omega (arith, c.counts_in-first.ensures, c.requires)) more refl c.start_of.ensures c.put_count.ensures)

pub returns : goal.returns
returns c =
    let k = c.counts_in-first.ensures.0 in
    let a = c.args in
    let os = offsets a.edition a.n in
    let all = take_all c.loop-i.i os (omega (arith, c.loop-i-test.false, c.rows_in-i-end.ensures.0, length-offsets a.edition a.n)) in
    c.loop-i.invariant.1 ∙ (λ j. written a.d.now (4 * k j) (head_bytes (all j)))
