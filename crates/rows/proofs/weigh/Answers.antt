-- `rows::weigh` meets its contract. The sum so far is that of the weights passed. Assumes nothing.
use Rattle.std.proofs.Common.{◌≡◌, ℕ, ◌+◌, ◌-◌, ◌*◌, ◌<◌, ◌≤◌, ℤ, nat_abs, length, take, w64, Fits, to_z, le_trans, mul-le-mul_right, refl, ◌∙◌, arith}
use Rattle.std.proofs.lemmas.Int.{to_z-of_z}
use borrow.Author.Rules.{sfits_of}
use Rattle.whole.specs.Expr.{E, var, res, held, add, mul, need, rd_is}
use Rattle.rule.specs.Rows.{Row, cell, weighed}
use Rattle.rows.specs.Asked.{Sum}
use Rattle.rows.specs.Levels.{level_within}
use Rattle.rows.specs.Mirrored.{Mirrors, mirror_lt, seen_within, weighed_inner}
use Rattle.rows.specs.Weighed.{weighed_more, part_within, weight_within}
use Rattle.rows.proofs.weigh.Goals as goal

abbrev K : ℕ
K = 1_000_000_000_000_000

module _ {seen : ℕ → Row → ℕ → ℤ} {image : ℤ → ℤ} {can_image : ℤ → Type 0} (laws : Mirrors seen image can_image) {row : Row} {n k : ℕ} {table : Row} (p : Sum row n k table) where
  small : (i : ℕ) → i < length table → nat_abs (seen n row (k + i)) ≤ K
  small i h = seen_within laws K n row p.small p.least (k + i) (omega (arith, p.near))

  -- the sum so far
  abbrev sum : (i : ℕ) {bits : ℕ} → Fits w64 bits → to_z w64 bits ≡ weighed (take i table) (seen n row) k → E
  sum i f e = held (1800 * K) f e (le_trans (part_within (seen n row) K table k i small) (mul-le-mul_right K p.light))

  -- one weight's part, of what is seen
  abbrev part : (i : ℕ) → i < length table → {z : ℤ} → z ≡ seen n row (k + i) → E
  part i h e = mul (var (cell table i) 1800 (le_trans (weight_within table i) p.light)) (res K e (small i h))

pub levels_at-requires : goal.levels_at-requires
levels_at-requires g c =
    record {
      near = omega (arith, c.requires.long);
      small = level_within K c.args.n c.args.row.now 1 (c.args.k - 4) (length c.args.table.now) c.requires.small (omega arith);
      light = c.requires.light;
    }

pub returns-then-k-table : goal.returns-then-k-table
returns-then-k-table g c =
    to_z-of_z w64 _ (sfits_of c.levels_at.type_inv) ∙ c.levels_at.ensures
    ∙ weighed_inner g.P.Parity.laws c.args.n c.args.row.now c.args.table.now c.args.k c.if-k-ge4.true c.if-k-table.true

pub loop-i-init : goal.loop-i-init
unfolding weighed
loop-i-init g c = refl

pub at-requires : goal.at-requires
at-requires g c =
    let p = c.requires in
    let near : c.args.k + c.loop-i.i < c.args.n + 8 = omega (arith, p.near) in
    (record { least = p.least; most = p.most; near = near }, (p.long, g.P.Parity.laws.smalls _ (p.small.at _ (mirror_lt _ _ p.least near))))

pub overflow_mul-sum : goal.overflow_mul-sum
overflow_mul-sum g c = need (part g.P.Parity.laws c.requires c.loop-i.i c.loop-i-test.true c.at.ensures) tt

pub overflow_add-sum : goal.overflow_add-sum
overflow_add-sum g c =
    need (add (sum g.P.Parity.laws c.requires c.loop-i.i c.loop-i.auto.sum c.loop-i.invariant) (part g.P.Parity.laws c.requires c.loop-i.i c.loop-i-test.true c.at.ensures)) tt

pub loop-i-preserved : goal.loop-i-preserved
loop-i-preserved g c =
    rd_is (add (sum g.P.Parity.laws c.requires c.loop-i.i c.loop-i.auto.sum c.loop-i.invariant) (part g.P.Parity.laws c.requires c.loop-i.i c.loop-i-test.true c.at.ensures)) tt
    ∙ weighed_more _ _ _ _ c.loop-i-test.true
