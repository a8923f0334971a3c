-- `round::rounded` meets its contract: the quotient is at most the size of n, so neither it nor its opposite wraps.
-- Assumes nothing.
use Rattle.std.proofs.Common.{◌≡◌, ◌^◌, ◌≤◌, w64, pos, ◌-ℤ◌, nat_abs, sym, refl, ap, ◌∙◌, mul-le-mul_left, arith}
use Rattle.std.proofs.lemmas.Int.{to_z-of_z}
use Rattle.whole.specs.Expr.{E, loc, lit, sub, need, rd_is}
use Rattle.rule.specs.Rounded.{nearest}
use Rattle.round.specs.Quotients.{nearest_most, rounded_below, rounded_above}
use Rattle.round.proofs.rounded.Goals as goal
use Rattle.round.proofs.rounded.Goals.{After-nearest-q, After-unsigned_abs}

size_is : (c : After-unsigned_abs) → c.unsigned_abs.result ≡ nat_abs c.args.n
size_is c = c.unsigned_abs.ensures.value ∙ ap nat_abs (to_z-of_z w64 c.args.n c.ranges.n)

-- the size of n / d
nearest_is : (c : After-nearest-q) → c.nearest-q.result ≡ nearest (nat_abs c.args.n) c.args.d
nearest_is c = c.nearest-q.ensures ∙ ap (λ m. nearest m c.args.d) (size_is c.before)

small : (c : After-nearest-q) → c.nearest-q.result ≤ 2 ^ 62
small c =
    rw (nearest_is c)
    (nearest_most (nat_abs c.args.n) c.args.d (2 ^ 62) c.requires.1.0 (omega (arith, c.requires.0, mul-le-mul_left (2 ^ 62) c.requires.1.0)))

abbrev q : After-nearest-q → E
q c = loc c.nearest-q.result (pos c.nearest-q.result) (2 ^ 62) refl (small c)

pub nearest-q-requires : goal.nearest-q-requires
nearest-q-requires c = (rw (size_is c) c.requires.0, c.requires.1)

pub overflow_cast-q : goal.overflow_cast-q
overflow_cast-q c = need (q c) tt

pub overflow_sub-result : goal.overflow_sub-result
overflow_sub-result c = need (sub (lit (pos 0)) (q c.before)) tt

pub returns-then-n-lt0 : goal.returns-then-n-lt0
returns-then-n-lt0 c =
    rd_is (sub (lit (pos 0)) (q c.before)) tt ∙ ap (λ m. pos 0 -ℤ pos m) (nearest_is c.before)
    ∙ sym (rounded_below c.args.n c.args.d (rw (to_z-of_z w64 c.args.n c.ranges.n) at c.if-n-lt0.true))

pub returns-else-n-lt0 : goal.returns-else-n-lt0
returns-else-n-lt0 c =
    rd_is (q c.before) tt ∙ ap pos (nearest_is c.before)
    ∙ sym (rounded_above c.args.n c.args.d (rw (to_z-of_z w64 c.args.n c.ranges.n) at c.if-n-lt0.false))
