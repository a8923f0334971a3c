-- Making: a number that the machine reads back is the number itself, wherever it stands. Assumes nothing.
use Prim.Native.Nat.{◌<◌, ◌^◌}
use mathlib.Core.Path.{◌≡◌, ap}
use borrow.Author.Rules.{sfits_of}
use lib.IntN.{ℤ}
use lib.Signed.{mag}
use mir.Syntax.{w64}
use mir.Val.{to_z, of_z}
use mir.ValLaws.{to_z-of_z}

pub read_back : {A : Type 0} (f : ℤ → A) (z : ℤ) → mag z < 2 ^ 63 → f (to_z w64 (of_z w64 z)) ≡ f z
read_back f z p = ap f (to_z-of_z w64 z (sfits_of p))
