-- `rows::levels_at` meets its contract. The sum so far is that of the weights passed. Assumes nothing.
use Rattle.std.proofs.Common.{◌≡◌, ℕ, ◌*◌, ◌<◌, length, take, w64, Fits, to_z, le_trans, zero-add, mul-le-mul_right, refl, ◌∙◌}
use Rattle.whole.specs.Expr.{E, var, held, add, mul, need, rd_is}
use Rattle.rule.specs.Channel.{level}
use Rattle.rule.specs.Rows.{Row, cell, weighed}
use Rattle.rows.specs.Asked.{LevelSum}
use Rattle.rows.specs.Weighed.{weighed_first, part_within, weight_within}
use Rattle.rows.proofs.levels_at.Goals as goal

abbrev K : ℕ
K = 1_000_000_000_000_000

module _ {levels : Row} {m j : ℕ} {table : Row} (p : LevelSum levels m j table) where
  -- the sum so far
  abbrev sum : (i : ℕ) {bits : ℕ} → Fits w64 bits → to_z w64 bits ≡ weighed (take i table) (level m levels j) 0 → E
  sum i f e =
      held (1800 * K) f e
      (le_trans (part_within (level m levels j) K table 0 i (λ i h. rw (zero-add i) (p.small i h))) (mul-le-mul_right K p.light))

  -- one weight's part
  abbrev part : (i : ℕ) → i < length table → E
  part i h = mul (var (cell table i) 1800 (le_trans (weight_within table i) p.light)) (var (level m levels j i) K (p.small i h))

pub loop-i-init : goal.loop-i-init
unfolding weighed
loop-i-init c = refl

pub overflow_mul-sum-in-loop-i : goal.overflow_mul-sum-in-loop-i
unfolding level
overflow_mul-sum-in-loop-i c = need (part c.requires c.loop-i.i c.loop-i-test.true) tt

pub overflow_add-sum-in-loop-i : goal.overflow_add-sum-in-loop-i
unfolding level
overflow_add-sum-in-loop-i c =
    need (add (sum c.requires c.loop-i.i c.loop-i.auto.sum c.loop-i.invariant) (part c.requires c.loop-i.i c.loop-i-test.true)) tt

pub loop-i-preserved : goal.loop-i-preserved
unfolding level
loop-i-preserved c =
    rd_is (add (sum c.requires c.loop-i.i c.loop-i.auto.sum c.loop-i.invariant) (part c.requires c.loop-i.i c.loop-i-test.true)) tt
    ∙ weighed_first _ _ _ c.loop-i-test.true
