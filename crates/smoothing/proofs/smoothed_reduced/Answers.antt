-- `smoothing::smoothed_reduced` meets its contract. Assumes nothing.
use Rattle.std.proofs.Common.{◌≡◌, ℕ, ◌<◌, ℤ, w64, ap, ◌∙◌, le_trans, lit≤, arith}
use Rattle.std.proofs.lemmas.Int.{to_z-of_z}
use borrow.Author.Rules.{sfits_of}
use Rattle.whole.specs.Expr.{E, res, rd_is, abs≤}
use Rattle.whole.specs.Row.{filled_start, filled_step, zeros, fill_zeros}
use Rattle.rule.specs.Filter.{cell_weights, smoothed_reduced}
use Rattle.rule.specs.Mirror.{odd}
use Rattle.rule.specs.Rounded.{rounded}
use Rattle.rule.specs.Rows.{Row, sizes, weighed}
use Rattle.rule.specs.Ranges.{most_reduced}
use Rattle.rows.specs.Firsts.{firsts_lt, filled_firsts}
use Rattle.motion.specs.Asked.{Cells}
use Rattle.motion.specs.Moved.{sum_asked, cell_sum}
use Rattle.smoothing.proofs.smoothed_reduced.Goals as goal

abbrev sum : {n : ℕ} {v : Row} → Cells most_reduced n v → (j : ℕ) → j < n → {z : ℤ} → z ≡ weighed cell_weights (odd n v) j → E
sum {n} {v} p j l e = res 744_000_000_000 e (cell_sum n v p j l)

pub loop-j-init : goal.loop-j-init
loop-j-init c = filled_start _ _

pub weigh-requires : goal.weigh-requires
unfolding sizes
weigh-requires c = let l = firsts_lt _ c.loop-j-test.true in sum_asked _ c.requires (lit≤ tt) (omega arith) (lit≤ tt)

pub rounded-requires : goal.rounded-requires
rounded-requires c =
    let s = sum c.requires c.loop-j.j (firsts_lt _ c.loop-j-test.true) c.weigh.ensures in
    (rw (rd_is s tt) (le_trans (abs≤ s) (lit≤ tt)), (lit≤ tt, lit≤ tt))

pub loop-j-preserved : goal.loop-j-preserved
loop-j-preserved c =
    let s = sum c.requires c.loop-j.j (firsts_lt _ c.loop-j-test.true) c.weigh.ensures in
    filled_step c.loop-j.invariant
    (to_z-of_z w64 _ (sfits_of c.rounded.type_inv) ∙ c.rounded.ensures ∙ ap (λ z. rounded z 256) (rd_is s tt))
    c.loop-j-test.true

pub returns : goal.returns
unfolding zeros smoothed_reduced
returns c = filled_firsts _ c.loop-j.invariant c.requires.most c.loop-j.auto.j-end c.loop-j-test.false ∙ fill_zeros _ _
