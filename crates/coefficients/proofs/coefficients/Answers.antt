-- `coefficients::coefficients` meets its contract: the first row, the last, and those between. Assumes nothing.
use Prim.Native.Nat.{ℕ, ◌+◌, ◌-◌, ◌^◌, ◌<◌, ◌≤◌}
use mathlib.Core.Path.{◌≡◌, sym, ◌∙◌}
use native.Mathlib.Omega.{arith}
use lib.Signed.{mag}
use lib.IntN.{ℤ, pos, nat_abs}
use mir.Syntax.{w64}
use mir.Val.{to_z, of_z}
use Rattle.whole.specs.Expr.{E, var, loc, lit, add, mul, need, rd_is, fits}
use Rattle.rule.specs.Rows.{cell}
use Rattle.rule.specs.Coefficients.{scale, beside}
use Rattle.rule.specs.Ranges.{most_depth}
use Rattle.coefficients.specs.Rows.{scale_small, at_first, at_last, between}
use Rattle.coefficients.proofs.Laws.{read_small, beside_is}
use Rattle.coefficients.proofs.coefficients.Goals as goal
use Rattle.coefficients.proofs.coefficients.Goals.{After-scale, Start}

-- the depth of cell i
abbrev depth : Start → ℕ → ℤ
depth s i = cell s.args.h.now i

small : (s : Start) (i : ℕ) → i < s.args.n → nat_abs (depth s i) ≤ most_depth
small s i l = s.requires.0.deep.at i l

-- what `beside` asks of two depths
both : (s : Start) (i : ℕ) → i < s.args.n → (nat_abs (to_z w64 (of_z w64 (depth s s.args.j))) ≤ most_depth) × (nat_abs (to_z w64 (of_z w64 (depth s i))) ≤ most_depth)
both s i l = (read_small (depth s s.args.j) most_depth (small s s.args.j s.requires.1) tt, read_small (depth s i) most_depth (small s i l) tt)

-- and what it gives of them
gives : (s : Start) (i : ℕ) → i < s.args.n → (z : ℤ) → mag z < 2 ^ 63 → z ≡ beside (to_z w64 (of_z w64 (depth s s.args.j))) (to_z w64 (of_z w64 (depth s i))) → to_z w64 (of_z w64 z) ≡ beside (depth s s.args.j) (depth s i)
gives s i l z f e = beside_is z (depth s s.args.j) (depth s i) f (small s s.args.j s.requires.1) (small s i l) e

abbrev here : Start → E
here s = var (depth s s.args.j) most_depth (small s s.args.j s.requires.1)

abbrev hh : Start → E
hh s = mul (here s) (here s)

abbrev w : After-scale → E
w c = loc c.scale.result (pos (scale c.before.before.args.x)) 250_000_000_000_000 c.scale.ensures (scale_small c.before.before.requires.0.wide)

abbrev inner : After-scale → E
inner c = add (w c) (mul (lit (pos 7_800_390)) (hh c.before.before))

abbrev walled : After-scale → E
walled c = add (inner c) (mul (lit (pos 3_900_195)) (hh c.before.before))

pub overflow_mul-hh : goal.overflow_mul-hh
overflow_mul-hh c = need (hh c.before) tt

pub overflow_cast-inner : goal.overflow_cast-inner
overflow_cast-inner c = rw c.scale.ensures (fits (w c) tt)

pub overflow_mul-inner : goal.overflow_mul-inner
overflow_mul-inner c = need (mul (lit (pos 7_800_390)) (hh c.before.before)) tt

pub overflow_add-inner : goal.overflow_add-inner
overflow_add-inner c = need (inner c) tt

pub overflow_mul-walled : goal.overflow_mul-walled
overflow_mul-walled c = need (mul (lit (pos 3_900_195)) (hh c.before.before)) tt

pub overflow_add-walled : goal.overflow_add-walled
overflow_add-walled c = need (walled c) tt

pub beside-c-requires : goal.beside-c-requires
beside-c-requires c = let s = c.before.before.before.before in both s (s.args.j + 1) (omega arith)

pub returns-then-j-eq0 : goal.returns-then-j-eq0
returns-then-j-eq0 c =
    let m = c.before.before.before in
    let s = m.before.before in
    let j = s.args.j in
    (λ t. record { a = pos 0; b = rd_is (walled m) tt t; c = gives s (j + 1) (omega arith) _ c.beside-c.type_inv c.beside-c.ensures t })
    ∙ sym (at_first s.args.n s.args.x s.args.h.now j (omega arith) c.before.before.if-j-eq0.true)

pub beside-a-requires : goal.beside-a-requires
beside-a-requires c = let s = c.before.before.before.before in both s (s.args.j - 1) (omega arith)

pub returns-then-j-n : goal.returns-then-j-n
returns-then-j-n c =
    let m = c.before.before.before.before in
    let s = m.before.before in
    let j = s.args.j in
    (λ t. record { a = gives s (j - 1) (omega arith) _ c.before.beside-a.type_inv c.before.beside-a.ensures t; b = rd_is (walled m) tt t; c = pos 0 })
    ∙ sym (at_last s.args.n s.args.x s.args.h.now j (omega arith) c.if-j-n.true)

pub beside-c-requires-2 : goal.beside-c-requires-2
beside-c-requires-2 c = let s = c.before.before.before.before.before.before.before in both s (s.args.j + 1) (omega arith)

pub returns : goal.returns
returns c =
    let two = c.before.before in
    let m = two.before.before.before.before in
    let s = m.before.before in
    let j = s.args.j in
    (λ t. record { a = gives s (j - 1) (omega arith) _ two.before.beside-a.type_inv two.before.beside-a.ensures t; b = rd_is (inner m) tt t; c = gives s (j + 1) (omega arith) _ c.beside-c-2.type_inv c.beside-c-2.ensures t })
    ∙ sym (between s.args.n s.args.x s.args.h.now j two.before.before.before.if-j-eq0.false two.if-j-n.false)
