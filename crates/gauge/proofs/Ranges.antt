-- `gauge`: what `contains` answers of a range of numbers. Assumes nothing.
use Rattle.std.proofs.Common.{◌≡◌, ◌∙◌, Bool, false, cond, ◌&&◌, ℤ, rules, tests, Ordering}
use Rattle.std.specs.Int.Signed.{le_z}
use Rattle.std.specs.Ordering.{partial_le, partial_lt, int_cmp}
use Rattle.std.specs.Prelude.{Option, Some}
use Rattle.gauge.specs.Gauge.{from}

abbrev by_cmp : ℤ → ℤ → Option Ordering
by_cmp x y = Some (int_cmp x y)

le_is : (a b : ℤ) → partial_le by_cmp a b ≡ le_z a b
le_is a b = search (rules, tests)

pub contains_is :
    (r ended : Bool) (least most x first last : ℤ)
    → r ≡ partial_le by_cmp first x && cond ended (partial_lt by_cmp x last) (partial_le by_cmp x last)
    → first ≡ least → last ≡ most → ended ≡ false → r ≡ from least most x
unfolding from
contains_is r ended least most x first last e f l n = e ∙ rw (f, l, n) (λ i. le_is least x i && le_is x most i)
