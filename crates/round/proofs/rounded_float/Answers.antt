-- `round::rounded_float` meets its contract: the fields of the bits give the size of x as a fraction. Assumes nothing.
use Rattle.std.proofs.Common.{◌≡◌, ℕ, ◌-◌, ◌*◌, ◌%◌, ◌^◌, ◌<◌, ◌≤◌, true, false, T, pos, neg_ℤ, sym, refl, ap, ◌∙◌, subst, mul-le-mul_left, arith, pow_pos, pow_mono, le-leb}
use borrow.Author.Tests.{lt-leb}
use lib.IntN.{+ℤ_idl}
use lib.Ieee.{binary64, fits}
use Rattle.whole.specs.Expr.{E, loc, lit, sub, need, rd_is}
use Rattle.rule.specs.Rounded.{nearest, rounded_float}
use Rattle.round.specs.Quotients.{nearest_most}
use Rattle.round.proofs.Fields.{signed, negative, exponent, digits, digits_lt, near_no_nan, exponent_most, round_below, round_from}
use Rattle.round.proofs.Machine.{one_shl}
use Rattle.round.proofs.rounded_float.Goals as goal
use Rattle.round.proofs.rounded_float.Goals.{After-nearest-q, Else-exponent-lt1022, Start}

-- an f64 is a value of its format
held : (c : Start) → T (fits binary64 c.args.x)
held c = subst T (sym c.well_formed.0.1) tt

pub float_to_bits-bits : goal.float_to_bits-bits
float_to_bits-bits c = near_no_nan c.args.x c.requires

pub returns-then-exponent-lt1022 : goal.returns-then-exponent-lt1022
returns-then-exponent-lt1022 c = sym (round_below c.args.x (held c.before) c.requires (omega arith))

pub overflow_sub-exponent : goal.overflow_sub-exponent
overflow_sub-exponent c = omega (arith, exponent_most c.args.x (held c.before) c.requires)

abbrev shift : Else-exponent-lt1022 → ℕ
shift c = 1075 - exponent c.args.x

-- the divisor, 1 << shift, is at most 2 ^ 53
shift_most : (c : Else-exponent-lt1022) → shift c ≤ 53
shift_most c = omega arith

divisor_is : (c : Else-exponent-lt1022) → 1 * 2 ^ shift c % 2 ^ 64 ≡ 2 ^ shift c
divisor_is c = one_shl (shift c) (omega (arith, shift_most c))

pub nearest-q-requires : goal.nearest-q-requires
nearest-q-requires c =
    subst (λ d. (digits c.args.x ≤ 2 ^ 62) × ((0 < d) × (d ≤ 2 ^ 61))) (sym (divisor_is c))
    (omega (arith, digits_lt c.args.x), (pow_pos (shift c), omega (arith, pow_mono (shift_most c))))

-- the call answers the size of x, rounded; with the sign of x it is what x is rounded to
size_is : (c : After-nearest-q) → c.nearest-q.result ≡ nearest (digits c.args.x) (2 ^ shift c.before)
size_is c = c.nearest-q.ensures ∙ ap (nearest (digits c.args.x)) (divisor_is c.before)

small : (c : After-nearest-q) → c.nearest-q.result ≤ 2 ^ 53
small c =
    let p : 0 < 2 ^ shift c.before = pow_pos (shift c.before) in
    rw (size_is c)
    (nearest_most (digits c.args.x) (2 ^ shift c.before) (2 ^ 53) p (omega (arith, digits_lt c.args.x, mul-le-mul_left (2 ^ 53) p)))

rounds : (c : After-nearest-q) → signed (negative c.args.x) c.nearest-q.result ≡ rounded_float c.args.x
rounds c =
    ap (signed (negative c.args.x)) (size_is c)
    ∙ sym (round_from c.args.x (held c.before.before) c.requires (omega arith))

abbrev q : After-nearest-q → E
q c = loc c.nearest-q.result (pos c.nearest-q.result) (2 ^ 53) refl (small c)

pub overflow_cast-q : goal.overflow_cast-q
overflow_cast-q c = need (q c) tt

pub overflow_sub-result : goal.overflow_sub-result
overflow_sub-result c = need (sub (lit (pos 0)) (q c.before)) tt

pub returns-then-bits-ge-SIGN : goal.returns-then-bits-ge-SIGN
returns-then-bits-ge-SIGN c =
    let below : negative c.args.x ≡ true = le-leb _ _ c.if-bits-ge-SIGN.true in
    rd_is (sub (lit (pos 0)) (q c.before)) tt ∙ +ℤ_idl (neg_ℤ (pos c.nearest-q.result)) ∙ (rw below at (rounds c.before))

pub returns-else-bits-ge-SIGN : goal.returns-else-bits-ge-SIGN
returns-else-bits-ge-SIGN c =
    let above : negative c.args.x ≡ false = lt-leb _ _ c.if-bits-ge-SIGN.false in
    rd_is (q c.before) tt ∙ (rw above at (rounds c.before))
