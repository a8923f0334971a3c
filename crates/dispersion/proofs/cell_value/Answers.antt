-- `dispersion::cell_value` meets its contract: h·A does not wrap, and each whole number is small enough to be a float. Assumes nothing.
use mathlib.Core.Path.{◌≡◌, ◌∙◌, ap}
use native.Mathlib.Omega.{arith}
use native.Mathlib.Nat.{le_trans}
use lib.Dec.{lit≤}
use lib.IntN.{pos}
use mir.Syntax.{w64}
use mir.Val.{to_z}
use mir.ValLaws.{to_z_pos}
use Rattle.whole.specs.Expr.{E, var, mul, need, rd_is}
use Rattle.rule.specs.Floats.{whole}
use Rattle.dispersion.proofs.Laws.{M_is, read_small}
use Rattle.dispersion.proofs.cell_value.Goals as goal
use Rattle.dispersion.proofs.cell_value.Goals.{Start}

abbrev h : Start → E
h s = var s.args.h 20_000_000 s.requires.deep

abbrev h_a : Start → E
h_a s = mul (h s) (var s.args.a 80_000_000 s.requires.bent)

abbrev B : Start → E
B s = var s.args.b 4_000_000_000_000_000 s.requires.carried

x_is : (s : Start) → to_z w64 s.args.x ≡ pos s.args.x
x_is s = to_z_pos w64 s.args.x (omega (arith, s.requires.wide))

pub exact-requires : goal.exact-requires
exact-requires c = le_trans (read_small (h c) tt) (lit≤ tt)

pub exact-requires-2 : goal.exact-requires-2
exact-requires-2 c = let s = c.before in rw (x_is s) (omega (arith, s.requires.wide))

pub overflow_mul-h : goal.overflow_mul-h
overflow_mul-h c = need (h_a c.before.before) tt

pub exact-requires-3 : goal.exact-requires-3
exact-requires-3 c = le_trans (read_small (h_a c.before.before) tt) (lit≤ tt)

pub exact-requires-4 : goal.exact-requires-4
exact-requires-4 c = le_trans (read_small (B c.before.before.before) tt) (lit≤ tt)

pub returns : goal.returns
returns c =
    let three = c.before in
    let two = three.before in
    let one = two.before in
    let s = one.before in
    M_is s.args.h s.args.x s.args.a s.args.b _ _ _ _
    (one.exact.ensures ∙ ap whole (rd_is (h s) tt))
    (two.exact-2.ensures ∙ ap whole (x_is s))
    (three.exact-3.ensures ∙ ap whole (rd_is (h_a s) tt))
    (c.exact-4.ensures ∙ ap whole (rd_is (B s) tt))
