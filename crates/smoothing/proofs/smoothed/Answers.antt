-- `smoothing::smoothed` meets its contract: what a cell gains over its right face the next loses over its left one, and no sum
-- wraps. Assumes nothing.
use Rattle.std.proofs.Common.{◌≡◌, ℕ, suc, ◌+◌, ◌-◌, ◌<◌, ℤ, pos, neg_ℤ, w64, Fits, to_z, refl, sym, ap, ◌∙◌, le_trans, lit≤, add-one, arith}
use Rattle.whole.specs.Abs.{abs_neg}
use Rattle.whole.specs.Expr.{E, var, held, lit, res, add, sub, need, rd, rd_is, abs≤}
use Rattle.whole.specs.Row.{filled_start, filled_step, zeros, fill_zeros}
use Rattle.rule.specs.Filter.{face_weights, smoothed, drains}
use Rattle.rule.specs.Mirror.{even}
use Rattle.rule.specs.Rounded.{rounded}
use Rattle.rule.specs.Rows.{Row, cell, weighed}
use Rattle.rule.specs.Ranges.{most_height}
use Rattle.rows.specs.Firsts.{firsts_lt, filled_firsts}
use Rattle.motion.specs.Asked.{Cells}
use Rattle.motion.specs.Walled.{inner, gained, given_on}
use Rattle.motion.specs.Moved.{Gs, draining_within, Gs_within}
use Rattle.smoothing.proofs.smoothed.Goals as goal

module _ {n : ℕ} {e : Row} (p : Cells most_height n e) (j : ℕ) (l : j < n) where
  -- what drains over the right face
  abbrev over : ℤ
  over = inner (n - 1) (λ i. weighed face_weights (even n e) (i + 1)) j

  -- what the cell at hand gains over it, not yet rounded
  abbrev gains : {z : ℤ} → z ≡ over → E
  gains i = sub (lit (pos 0)) (res 2_560_000_000 i (draining_within n e p j))

  -- and rounded
  rounded_is : {z g : ℤ} (i : z ≡ over) → g ≡ rounded (rd (gains i)) 256 → g ≡ neg_ℤ (cell (Gs n e) (suc j))
  rounded_is i r =
      r ∙ ap (λ z. rounded z 256) (rd_is (gains i) tt)
      ∙ gained (n - 1) (λ k. weighed face_weights (even n e) (k + 1)) 256 (lit≤ tt) j (omega arith)

  module _ {z g : ℤ} (i : z ≡ over) (r : g ≡ rounded (rd (gains i)) 256) where
    abbrev gain : E
    gain = res 10_000_000 (rounded_is i r) (rw (abs_neg (cell (Gs n e) (suc j))) (Gs_within n e p (suc j) (omega arith)))

    -- its height, with what it gains over its right face and over its left one
    abbrev less : E
    less = add (var (cell e j) most_height (p.small.at j l)) gain

    abbrev value : {left : ℕ} → Fits w64 left → to_z w64 left ≡ cell (Gs n e) j → E
    value f k = add less (held 10_000_000 f k (Gs_within n e p j (omega arith)))

    -- what the next cell gains over its left face
    abbrev onward : E
    onward = sub (lit (pos 0)) gain

pub loop-j-init : goal.loop-j-init
loop-j-init c = (filled_start _ _, refl)

pub overflow_sub-drained : goal.overflow_sub-drained
overflow_sub-drained c = need (gains c.requires c.loop-j.j (firsts_lt _ c.loop-j-test.true) c.draining-drained.ensures) tt

pub rounded-g-requires : goal.rounded-g-requires
rounded-g-requires c =
    let a = gains c.requires c.loop-j.j (firsts_lt _ c.loop-j-test.true) c.draining-drained.ensures in
    (rw (rd_is a tt) (le_trans (abs≤ a) (lit≤ tt)), (lit≤ tt, lit≤ tt))

pub overflow_add-height : goal.overflow_add-height
overflow_add-height c =
    need (less c.requires c.loop-j.j (firsts_lt _ c.loop-j-test.true) c.draining-drained.ensures c.rounded-g.ensures) tt

pub overflow_add-height-in-loop-j : goal.overflow_add-height-in-loop-j
overflow_add-height-in-loop-j c =
    need (value c.requires c.loop-j.j (firsts_lt _ c.loop-j-test.true) c.draining-drained.ensures c.rounded-g.ensures c.loop-j.auto.left c.loop-j.invariant.1) tt

pub overflow_sub-left : goal.overflow_sub-left
overflow_sub-left c =
    need (onward c.requires c.loop-j.j (firsts_lt _ c.loop-j-test.true) c.draining-drained.ensures c.rounded-g.ensures) tt

pub loop-j-preserved : goal.loop-j-preserved
loop-j-preserved c =
    let l = firsts_lt _ c.loop-j-test.true in
    let faces = Gs c.args.n c.args.e.now in
    (filled_step c.loop-j.invariant.0 (rd_is (value c.requires c.loop-j.j l c.draining-drained.ensures c.rounded-g.ensures c.loop-j.auto.left c.loop-j.invariant.1) tt) c.loop-j-test.true, rd_is (onward c.requires c.loop-j.j l c.draining-drained.ensures c.rounded-g.ensures) tt ∙ given_on (cell faces (suc c.loop-j.j)) ∙ ap (cell faces) (sym (add-one c.loop-j.j)))

pub returns : goal.returns
unfolding zeros smoothed drains
returns c = filled_firsts _ c.loop-j.invariant.0 c.requires.most c.loop-j.auto.j-end c.loop-j-test.false ∙ fill_zeros _ _
