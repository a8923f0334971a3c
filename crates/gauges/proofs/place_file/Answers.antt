-- `gauges::place_file` meets its contract. Assumes nothing.
use Rattle.std.proofs.Common.{◌≡◌, ◌∙◌, ap, arith}
use Rattle.rule.specs.File.{count_of}
use Rattle.answers.specs.Stages.{leaves_bytes}
use Rattle.places.specs.Met.{as_refused, met_refused}
use Rattle.checks.specs.Numbers.{number_not_0}
use Rattle.opened.specs.Opened.{taken_of}
use Rattle.gauges.specs.Files.{Held, held_by}
use Rattle.gauges.specs.Ways.{place_unread, place_read}
use Rattle.gauges.proofs.place_file.Goals as goal

pub returns-in-Err : goal.returns-in-Err
returns-in-Err c =
    let a = c.args in
    ap (λ r. leaves_bytes r a.gauges.now) c.refused.ensures
    ∙ place_unread a.file.now a.gauges.now _ (met_refused _ _ (as_refused _ _ _ c.in-Err.ensures)) (number_not_0 c.in-Err.why) a.cell

pub count_at-n-requires : goal.count_at-n-requires
count_at-n-requires c =
    let taken = taken_of _ _ _ c.in_default.ensures in
    omega (arith, taken.head)

pub place-requires : goal.place-requires
unfolding count_of
place-requires c =
    let taken = taken_of _ _ _ c.in_default.ensures in
    let cells : c.count_at-n.result ≡ count_of c.args.file.now 1 = c.count_at-n.ensures.0 in
    let held : Held c.count_at-n.result c.args.file.now = held_by taken c.count_at-n.result cells in
    omega (arith, held.most)

pub returns : goal.returns
unfolding count_of
returns c =
    let a = c.args in
    let cells : c.count_at-n.result ≡ count_of a.file.now 1 = c.count_at-n.ensures.0 in
    c.place.ensures ∙ place_read a.file.now a.gauges.now (taken_of _ _ _ c.in_default.ensures) a.cell c.count_at-n.result cells
