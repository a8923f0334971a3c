-- `make_file::make` meets its contract: the rows are those in the bytes, and its ways out are the rule's. Assumes nothing.
use mathlib.Core.Path.{◌≡◌, sym, ◌∙◌}
use native.Mathlib.Omega.{arith}
use lib.ListN.{take}
use lib.Seq.{length-take-le}
use Prim.Native.Nat.{ℕ}
use mathlib.Core.Bool.{true, ◌&&◌}
use mathlib.Core.List.{List}
use Rattle.whole.specs.Row.{padded}
use Rattle.rule.specs.Rows.{Row}
use Rattle.rule.specs.Ranges.{cells_allowed}
use Rattle.rule.specs.Bytes.{row_at}
use Rattle.rule.specs.Calls.{holds, make_file}
use Rattle.answers.specs.Stages.{leaves_bytes}
use Rattle.make_checks.specs.Order.{make_rows, file_unfit, file_fit}
use Rattle.make_file.specs.Left.{held_of, row_read}
use borrow.Author.Rules.{rules}
use Rattle.make_file.proofs.make.Goals as goal

pub returns-then-not-shape_passes : goal.returns-then-not-shape_passes
returns-then-not-shape_passes c =
    let k = c in
    let a = k.args in
    (λ i. leaves_bytes (c.refused.ensures i) a.file.now)
    ∙ file_unfit a.n a.x a.t a.wanted a.h.now a.e.now a.u.now a.damping.now a.file.now (sym k.shape_passes.ensures ∙ c.if-not-shape_passes.true)

pub read_row-depths-requires : goal.read_row-depths-requires
read_row-depths-requires c =
    let k = held_of c.args.n c.args.h.now c.args.e.now c.args.u.now c.args.damping.now (sym c.shape_passes.ensures ∙ c.if-not-shape_passes.false) in
    (omega arith, k.most)

pub read_row-heights-requires : goal.read_row-heights-requires
read_row-heights-requires c =
    let k = held_of c.args.n c.args.h.now c.args.e.now c.args.u.now c.args.damping.now (sym c.shape_passes.ensures ∙ c.if-not-shape_passes.false) in
    (omega arith, k.most)

pub read_row-velocities-requires : goal.read_row-velocities-requires
read_row-velocities-requires c =
    let k = held_of c.args.n c.args.h.now c.args.e.now c.args.u.now c.args.damping.now (sym c.shape_passes.ensures ∙ c.if-not-shape_passes.false) in
    (omega arith, k.most)

pub read_row-dampings-requires : goal.read_row-dampings-requires
read_row-dampings-requires c =
    let k = held_of c.args.n c.args.h.now c.args.e.now c.args.u.now c.args.damping.now (sym c.shape_passes.ensures ∙ c.if-not-shape_passes.false) in
    (omega arith, k.most)

pub slice_bounds-depths-end : goal.slice_bounds-depths-end
slice_bounds-depths-end c =
    let k = held_of c.args.n c.args.h.now c.args.e.now c.args.u.now c.args.damping.now (sym c.shape_passes.ensures ∙ c.if-not-shape_passes.false) in
    let ok = c.read_row-depths.type_inv in
    search rules

pub slice_bounds-make_rows-end : goal.slice_bounds-make_rows-end
slice_bounds-make_rows-end c =
    let k = held_of c.args.n c.args.h.now c.args.e.now c.args.u.now c.args.damping.now (sym c.shape_passes.ensures ∙ c.if-not-shape_passes.false) in
    let ok = c.read_row-depths.type_inv in
    sym (length-take-le _ c.read_row-depths.result (search rules))

pub slice_bounds-heights-end : goal.slice_bounds-heights-end
slice_bounds-heights-end c =
    let k = held_of c.args.n c.args.h.now c.args.e.now c.args.u.now c.args.damping.now (sym c.shape_passes.ensures ∙ c.if-not-shape_passes.false) in
    let ok = c.read_row-heights.type_inv in
    search rules

pub slice_bounds-make_rows-end-2 : goal.slice_bounds-make_rows-end-2
slice_bounds-make_rows-end-2 c =
    let k = held_of c.args.n c.args.h.now c.args.e.now c.args.u.now c.args.damping.now (sym c.shape_passes.ensures ∙ c.if-not-shape_passes.false) in
    let ok = c.read_row-heights.type_inv in
    sym (length-take-le _ c.read_row-heights.result (search rules))

pub slice_bounds-velocities-end : goal.slice_bounds-velocities-end
slice_bounds-velocities-end c =
    let k = held_of c.args.n c.args.h.now c.args.e.now c.args.u.now c.args.damping.now (sym c.shape_passes.ensures ∙ c.if-not-shape_passes.false) in
    let ok = c.read_row-velocities.type_inv in
    search rules

pub slice_bounds-make_rows-end-3 : goal.slice_bounds-make_rows-end-3
slice_bounds-make_rows-end-3 c =
    let k = held_of c.args.n c.args.h.now c.args.e.now c.args.u.now c.args.damping.now (sym c.shape_passes.ensures ∙ c.if-not-shape_passes.false) in
    let ok = c.read_row-velocities.type_inv in
    sym (length-take-le _ c.read_row-velocities.result (search rules))

pub slice_bounds-dampings-end : goal.slice_bounds-dampings-end
slice_bounds-dampings-end c =
    let k = held_of c.args.n c.args.h.now c.args.e.now c.args.u.now c.args.damping.now (sym c.shape_passes.ensures ∙ c.if-not-shape_passes.false) in
    let ok = c.read_row-dampings.type_inv in
    search rules

pub slice_bounds-make_rows-end-4 : goal.slice_bounds-make_rows-end-4
slice_bounds-make_rows-end-4 c =
    let k = held_of c.args.n c.args.h.now c.args.e.now c.args.u.now c.args.damping.now (sym c.shape_passes.ensures ∙ c.if-not-shape_passes.false) in
    let ok = c.read_row-dampings.type_inv in
    sym (length-take-le _ c.read_row-dampings.result (search rules))

pub make_rows-made-requires : goal.make_rows-made-requires
make_rows-made-requires c =
    let k = held_of c.args.n c.args.h.now c.args.e.now c.args.u.now c.args.damping.now (sym c.shape_passes.ensures ∙ c.if-not-shape_passes.false) in
    (omega (arith, k.least), k.most)

-- the rows that were read are those in the bytes
told : (h e u d : Row) (n x t wanted : ℕ) (H E U D s : List ℕ) → cells_allowed n && (holds H n && holds E n && holds U n && holds D n) ≡ true → h ≡ padded n (row_at 4 H 0 n) → e ≡ padded n (row_at 4 E 0 n) → u ≡ padded n (row_at 4 U 0 n) → d ≡ padded n (row_at 4 D 0 n) → make_rows n x t wanted (take n h) (take n e) (take n u) (take n d) s ≡ make_file n x t wanted H E U D s
told h e u d n x t wanted H E U D s z p q r o =
    let k = held_of n H E U D z in
    (λ i. make_rows n x t wanted (row_read H n k.h_bytes p i) (row_read E n k.e_bytes q i) (row_read U n k.u_bytes r i) (row_read D n k.damping_bytes o i) s)
    ∙ file_fit n x t wanted H E U D s k.hold

pub returns-in-Ok : goal.returns-in-Ok
returns-in-Ok c =
    (λ i. leaves_bytes (c.accepted.ensures i) c.make_rows-made.new.file)
    ∙ c.in-Ok.ensures
    ∙ told _ _ _ _ c.args.n c.args.x c.args.t c.args.wanted c.args.h.now c.args.e.now c.args.u.now c.args.damping.now c.args.file.now (sym c.shape_passes.ensures ∙ c.if-not-shape_passes.false) c.read_row-depths.ensures c.read_row-heights.ensures c.read_row-velocities.ensures c.read_row-dampings.ensures

pub returns-in-Err : goal.returns-in-Err
returns-in-Err c =
    (λ i. leaves_bytes (c.refused-in-Err.ensures i) c.make_rows-made.new.file)
    ∙ c.in-Err.ensures
    ∙ told _ _ _ _ c.args.n c.args.x c.args.t c.args.wanted c.args.h.now c.args.e.now c.args.u.now c.args.damping.now c.args.file.now (sym c.shape_passes.ensures ∙ c.if-not-shape_passes.false) c.read_row-depths.ensures c.read_row-heights.ensures c.read_row-velocities.ensures c.read_row-dampings.ensures
