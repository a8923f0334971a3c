-- The order of whole numbers, taken to one of natural numbers, which omega reads: `at_most a b t` for omega's list, and
-- `is_at_most a b (omega arith)` back. Assumes nothing.
use Rattle.std.specs.Prelude.{◌≡◌, refl, true, false, ℕ, ◌+◌, ◌≤◌, ◌<◌, ℤ, pos, negsuc}
use Rattle.std.proofs.Common.{arith, le-leb, leb-true, lt-ltb, le-ltb, ltb-true}
use Rattle.std.specs.Int.Signed.{lt_z, le_z}
use Rattle.whole.specs.Ring.{P, N, R, val, parts, sound}

no : {A : Type 0} → false ≡ true → A
no e = let z : ◌≡◌ {A = ℕ} 0 1 = cc e in absurd (omega arith)

le_parts : (a b : ℤ) → le_z a b ≡ true → P a + N b ≤ P b + N a
le_parts (pos a) (pos b) t = let h : a ≤ b = leb-true a b t in omega arith
le_parts (pos a) (negsuc b) t = no t
le_parts (negsuc a) (pos b) t = omega arith
le_parts (negsuc a) (negsuc b) t = let h : b ≤ a = leb-true b a t in omega arith

parts_le : (a b : ℤ) → P a + N b ≤ P b + N a → le_z a b ≡ true
parts_le (pos a) (pos b) h = le-leb a b (omega arith)
parts_le (pos a) (negsuc b) h = absurd (omega arith)
parts_le (negsuc a) (pos b) h = refl
parts_le (negsuc a) (negsuc b) h = le-leb b a (omega arith)

-- a ≤ b
pub at_most : (a b : R) → le_z (val a) (val b) ≡ true → (parts a).0 + (parts b).1 ≤ (parts b).0 + (parts a).1
at_most a b t = omega (arith, (sound a).is, (sound b).is, le_parts (val a) (val b) t)

pub is_at_most : (a b : R) → (parts a).0 + (parts b).1 ≤ (parts b).0 + (parts a).1 → le_z (val a) (val b) ≡ true
is_at_most a b h = parts_le (val a) (val b) (omega (arith, (sound a).is, (sound b).is))

lt_parts : (a b : ℤ) → lt_z a b ≡ true → P a + N b < P b + N a
lt_parts (pos a) (pos b) t = let h : a < b = ltb-true a b t in omega arith
lt_parts (pos a) (negsuc b) t = no t
lt_parts (negsuc a) (pos b) t = omega arith
lt_parts (negsuc a) (negsuc b) t = let h : b < a = ltb-true b a t in omega arith

parts_lt : (a b : ℤ) → P a + N b < P b + N a → lt_z a b ≡ true
parts_lt (pos a) (pos b) h = lt-ltb a b (omega arith)
parts_lt (pos a) (negsuc b) h = absurd (omega arith)
parts_lt (negsuc a) (pos b) h = refl
parts_lt (negsuc a) (negsuc b) h = lt-ltb b a (omega arith)

parts_ge : (a b : ℤ) → P b + N a ≤ P a + N b → lt_z a b ≡ false
parts_ge (pos a) (pos b) h = le-ltb a b (omega arith)
parts_ge (pos a) (negsuc b) h = refl
parts_ge (negsuc a) (pos b) h = absurd (omega arith)
parts_ge (negsuc a) (negsuc b) h = le-ltb b a (omega arith)

-- a < b, and back; and not a < b
pub less : (a b : R) → lt_z (val a) (val b) ≡ true → (parts a).0 + (parts b).1 < (parts b).0 + (parts a).1
less a b t = omega (arith, (sound a).is, (sound b).is, lt_parts (val a) (val b) t)

pub is_less : (a b : R) → (parts a).0 + (parts b).1 < (parts b).0 + (parts a).1 → lt_z (val a) (val b) ≡ true
is_less a b h = parts_lt (val a) (val b) (omega (arith, (sound a).is, (sound b).is))

pub is_not_less : (a b : R) → (parts b).0 + (parts a).1 ≤ (parts a).0 + (parts b).1 → lt_z (val a) (val b) ≡ false
is_not_less a b h = parts_ge (val a) (val b) (omega (arith, (sound a).is, (sound b).is))
