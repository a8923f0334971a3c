-- `gauges::feed_file` meets its contract. Assumes nothing.
use mathlib.Core.Path.{◌≡◌, sym, ◌∙◌, ap}
use native.Mathlib.Omega.{arith}
use lib.ListN.{length, take}
use Rattle.whole.specs.Row.{length_padded, take_padded}
use Rattle.rule.specs.File.{count_of, channel_of}
use Rattle.answers.specs.Stages.{leaves_bytes}
use Rattle.places.specs.Met.{as_refused, met_refused}
use Rattle.checks.specs.Numbers.{number_not_0}
use Rattle.opened.specs.Opened.{taken_of}
use Rattle.gauges.specs.Files.{Held, held_by, length_heights}
use Rattle.gauges.specs.Ways.{heights_small, feed_unread, feed_read}
use Rattle.gauges.proofs.feed_file.Goals as goal

pub returns-in-Err : goal.returns-in-Err
returns-in-Err c =
    let a = c.args in
    ap (λ r. leaves_bytes r a.gauges.now) c.refused.ensures
    ∙ feed_unread a.file.now a.gauges.now _ (met_refused _ _ (as_refused _ _ _ (sym c.in-Err.is ∙ c.check-read.ensures))) (number_not_0 c.in-Err.refusal)

pub count_at-n-requires : goal.count_at-n-requires
count_at-n-requires c =
    let taken = taken_of _ _ _ (sym c.in_default.is ∙ c.check-read.ensures) in
    omega (arith, taken.head)

pub heights-e-requires : goal.heights-e-requires
unfolding count_of
heights-e-requires c =
    let taken = taken_of _ _ _ (sym c.in_default.is ∙ c.check-read.ensures) in
    let cells : c.count_at-n.result ≡ count_of c.args.file.now 1 = c.count_at-n.ensures.0 in
    let held : Held c.count_at-n.result c.args.file.now = held_by taken c.count_at-n.result cells in
    held

pub slice_bounds-e-end : goal.slice_bounds-e-end
unfolding count_of
slice_bounds-e-end c =
    let taken = taken_of _ _ _ (sym c.in_default.is ∙ c.check-read.ensures) in
    let cells : c.count_at-n.result ≡ count_of c.args.file.now 1 = c.count_at-n.ensures.0 in
    let held : Held c.count_at-n.result c.args.file.now = held_by taken c.count_at-n.result cells in
    let heights_long : length (channel_of c.args.file.now).e ≡ c.count_at-n.result = length_heights c.args.file.now ∙ sym cells in
    let array_long : length c.heights-e.result ≡ 256 = ap length c.heights-e.ensures ∙ length_padded c.count_at-n.result (channel_of c.args.file.now).e heights_long held.most in
    omega (arith, array_long, held.most)

pub slice_bounds-feed-end : goal.slice_bounds-feed-end
unfolding count_of
slice_bounds-feed-end c =
    let cells : c.count_at-n.result ≡ count_of c.args.file.now 1 = c.count_at-n.ensures.0 in
    let heights_long : length (channel_of c.args.file.now).e ≡ c.count_at-n.result = length_heights c.args.file.now ∙ sym cells in
    let part_is : take c.count_at-n.result c.heights-e.result ≡ (channel_of c.args.file.now).e = ap (take c.count_at-n.result) c.heights-e.ensures ∙ take_padded c.count_at-n.result (channel_of c.args.file.now).e heights_long in
    sym (ap length part_is ∙ heights_long)

pub feed-requires : goal.feed-requires
unfolding count_of
feed-requires c =
    let taken = taken_of _ _ _ (sym c.in_default.is ∙ c.check-read.ensures) in
    let cells : c.count_at-n.result ≡ count_of c.args.file.now 1 = c.count_at-n.ensures.0 in
    let held : Held c.count_at-n.result c.args.file.now = held_by taken c.count_at-n.result cells in
    let heights_long : length (channel_of c.args.file.now).e ≡ c.count_at-n.result = length_heights c.args.file.now ∙ sym cells in
    let part_is : take c.count_at-n.result c.heights-e.result ≡ (channel_of c.args.file.now).e = ap (take c.count_at-n.result) c.heights-e.ensures ∙ take_padded c.count_at-n.result (channel_of c.args.file.now).e heights_long in
    (omega (arith, ap length part_is, heights_long, held.most), rw part_is (heights_small (channel_of c.args.file.now) taken.checked_0))

pub returns : goal.returns
unfolding count_of
returns c =
    let taken = taken_of _ _ _ (sym c.in_default.is ∙ c.check-read.ensures) in
    let cells : c.count_at-n.result ≡ count_of c.args.file.now 1 = c.count_at-n.ensures.0 in
    let heights_long : length (channel_of c.args.file.now).e ≡ c.count_at-n.result = length_heights c.args.file.now ∙ sym cells in
    let part_is : take c.count_at-n.result c.heights-e.result ≡ (channel_of c.args.file.now).e = ap (take c.count_at-n.result) c.heights-e.ensures ∙ take_padded c.count_at-n.result (channel_of c.args.file.now).e heights_long in
    c.feed.ensures
    ∙ feed_read c.args.file.now c.args.gauges.now taken (take c.count_at-n.result c.heights-e.result) part_is
