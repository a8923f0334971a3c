-- `layout::offsets_right` meets its contract, whatever the edition: the offsets before i are tested. Assumes nothing.
use Rattle.std.proofs.Common.{◌≡◌, ◌*◌, ◌<◌, length, take, take_all, ap, ◌∙◌, arith}
use Rattle.rule.specs.Rows.{same}
use Rattle.rule.specs.Layout.{widths, offsets, start_of}
use Rattle.rule.specs.File.{counts_at, offsets_in}
use Rattle.layout.specs.Table.{length-offsets}
use Rattle.layout.specs.Counts.{same_none, same_firsts}
use Rattle.layout.proofs.offsets_right.Goals as goal

pub loop-i-init : goal.loop-i-init
loop-i-init c = same_none c.args.s.now (offsets c.args.edition c.args.n) _

pub loop-i-preserved : goal.loop-i-preserved
unfolding start_of
loop-i-preserved c =
    let os = offsets c.args.edition c.args.n in
    let more : c.loop-i.i < length os = omega (arith, c.loop-i-test.true, c.rows_in-i-end.ensures, length-offsets c.args.edition c.args.n) in
    same_firsts os c.args.s.now _ c.loop-i.i _ _ c.loop-i.invariant more c.count_at.ensures.0 c.start_of.ensures

pub returns : goal.returns
unfolding offsets_in
returns c =
    let k = c.counts_in-first.ensures.0 in
    let a = c.args in
    let os = offsets a.edition a.n in
    let all : c.loop-i.i ≡ length (widths a.edition) = omega (arith, c.loop-i-test.false, c.rows_in-i-end.ensures.0) in
    c.loop-i.invariant
    ∙ (λ j. same (counts_at (all j) a.s.now (4 * k j)) (take c.loop-i.i os))
    ∙ ap (same (offsets_in a.edition a.s.now)) (take_all c.loop-i.i os (omega (arith, all, length-offsets a.edition a.n)))
