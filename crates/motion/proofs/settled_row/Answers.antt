-- `motion::settled_row` meets its contract: the two sums of the cells passed. Assumes nothing.
use Rattle.std.specs.Prelude.{◌+◌, ◌*◌, ◌<◌, ◌≡◌, length, take, pos, nat_abs, ◌-ℤ◌, leb}
use Rattle.std.proofs.Common.{sym, ◌∙◌, ap, arith, get_or-take, length-take-le}
use Rattle.std.proofs.lemmas.List.{length_push}
use Rattle.std.proofs.lemmas.Slice.Zip.{zip_turn, zip_end}
use Rattle.whole.specs.Expr.{E, res, rd_is}
use Rattle.whole.specs.Row.{tab}
use Rattle.rule.specs.Rows.{cell, sizes}
use Rattle.motion.specs.Settled.{change, sizes_none, sizes_more, changes_within, news_within, settled_is}
use Rattle.motion.proofs.settled_row.Goals as goal
use Rattle.motion.proofs.settled_row.Goals.{After-abs_diff-changes, After-unsigned_abs-sizes, In-None}

-- the cell at hand, with its new and its old entry
turn : (c : After-abs_diff-changes) →
    let j = length c.loop-new.yielded in
    (j < c.args.n) × (c.in-Some.new.now ≡ cell c.args.new.now j) × (c.in-Some.old.now ≡ cell c.args.old.now j)
turn c =
    let a = c.args in
    let j = length c.loop-new.yielded in
    let t = zip_turn (take a.n a.new.now) (take a.n a.old.now) c.loop-new.yielded c.into_iter-new-iterator.result c.loop-new.new-iterator c.next.new.self _ (cc) (cc) c.loop-new.yielded_by _ c.in-Some.is c.next.ensures.steps in
    let l : length (take a.n a.new.now) ≡ a.n = length-take-le a.n a.new.now c.requires.new_long in
    let p : j < a.n = omega (arith, t.0) in
    (p, t.2 (pos 0) ∙ get_or-take a.n a.new.now j (pos 0) p, t.3 (pos 0) ∙ get_or-take a.n a.old.now j (pos 0) p)

abbrev new : After-abs_diff-changes → E
new c = res 20_000_000 (turn c).1 (c.requires.new_small.at (length c.loop-new.yielded) (turn c).0)

abbrev old : After-abs_diff-changes → E
old c = res 20_000_000 (turn c).2 (c.requires.old_small.at (length c.loop-new.yielded) (turn c).0)

-- the sums with this cell
more_changes : (c : After-abs_diff-changes) →
    c.loop-new.changes + c.abs_diff-changes.result ≡ sizes (tab (length c.loop-new.yielded + 1) (change c.args.new.now c.args.old.now))
more_changes c =
    (λ t. c.loop-new.invariant.0 t + (c.abs_diff-changes.ensures ∙ (λ i. nat_abs (rd_is (new c) tt i -ℤ rd_is (old c) tt i))) t)
    ∙ sym (sizes_more (change c.args.new.now c.args.old.now) (length c.loop-new.yielded))

more_sizes : (c : After-unsigned_abs-sizes) →
    c.loop-new.sizes + c.unsigned_abs-sizes.result ≡ sizes (tab (length c.loop-new.yielded + 1) (cell c.args.new.now))
more_sizes c =
    (λ t. c.loop-new.invariant.1 t + (c.unsigned_abs-sizes.ensures.value ∙ ap nat_abs (rd_is (new c.before.before) tt)) t)
    ∙ sym (sizes_more (cell c.args.new.now) (length c.loop-new.yielded))

-- each cell was passed
passed : (c : In-None) → length c.loop-new.yielded ≡ c.args.n
passed c =
    let a = c.args in
    let e = zip_end (take a.n a.new.now) (take a.n a.old.now) c.loop-new.yielded c.into_iter-new-iterator.result c.loop-new.new-iterator c.next.new.self _ (cc) (cc) c.loop-new.yielded_by c.in-None.is c.next.ensures.steps in
    omega (arith, e, length-take-le a.n a.new.now c.requires.new_long, length-take-le a.n a.old.now c.requires.old_long)

pub loop-new-init : goal.loop-new-init
loop-new-init c = (sizes_none (change c.args.new.now c.args.old.now), sizes_none (cell c.args.new.now))

pub overflow_add-changes : goal.overflow_add-changes
overflow_add-changes c = omega (arith, more_changes c, changes_within c.requires (length c.loop-new.yielded + 1) (omega (arith, (turn c).0)))

pub overflow_add-sizes : goal.overflow_add-sizes
overflow_add-sizes c = omega (arith, more_sizes c, news_within c.requires (length c.loop-new.yielded + 1) (omega (arith, (turn c.before.before).0)))

pub loop-new-preserved : goal.loop-new-preserved
loop-new-preserved c = rw (length_push c.loop-new.yielded (c.in-Some.new, c.in-Some.old)) (more_changes c.before.before, more_sizes c)

pub overflow_mul-result : goal.overflow_mul-result
overflow_mul-result c = omega (arith, c.loop-new.invariant.0, changes_within c.requires (length c.loop-new.yielded) (omega (arith, passed c)))

pub overflow_add-result : goal.overflow_add-result
overflow_add-result c = omega (arith, c.loop-new.invariant.1, news_within c.requires (length c.loop-new.yielded) (omega (arith, passed c)))

pub returns : goal.returns
returns c =
    let a = c.args in
    let e = passed c in
    (λ t. leb (1000 * (c.loop-new.invariant.0 ∙ ap (λ k. sizes (tab k (change a.new.now a.old.now))) e) t) ((c.loop-new.invariant.1 ∙ ap (λ k. sizes (tab k (cell a.new.now))) e) t + 1000 * a.n))
    ∙ settled_is a.n a.new.now a.old.now
