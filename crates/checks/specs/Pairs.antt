-- Refusal numbers: checks one after the other, and two by two. Assumes nothing.
use Rattle.std.specs.Prelude.{◌≡◌}
use Rattle.std.proofs.Math.Path.{refl}
use Rattle.rule.specs.Refusals.{Outcome, refused, done, ◌>>=◌}

-- the checks by pairs, as the code has them
pub in_pairs : (a b c d e f g h i j m : Outcome (Unit {0})) → ((a >>= λ _. b) >>= λ _. (c >>= λ _. d) >>= λ _. (e >>= λ _. f) >>= λ _. (g >>= λ _. h) >>= λ _. (i >>= λ _. j) >>= λ _. m) ≡ (a >>= λ _. b >>= λ _. c >>= λ _. d >>= λ _. e >>= λ _. f >>= λ _. g >>= λ _. h >>= λ _. i >>= λ _. j >>= λ _. m)
unfolding ◌>>=◌
in_pairs (refused r k) b c d e f g h i j m = refl
in_pairs (done x0) (refused r k) c d e f g h i j m = refl
in_pairs (done x0) (done x1) (refused r k) d e f g h i j m = refl
in_pairs (done x0) (done x1) (done x2) (refused r k) e f g h i j m = refl
in_pairs (done x0) (done x1) (done x2) (done x3) (refused r k) f g h i j m = refl
in_pairs (done x0) (done x1) (done x2) (done x3) (done x4) (refused r k) g h i j m = refl
in_pairs (done x0) (done x1) (done x2) (done x3) (done x4) (done x5) (refused r k) h i j m = refl
in_pairs (done x0) (done x1) (done x2) (done x3) (done x4) (done x5) (done x6) (refused r k) i j m = refl
in_pairs (done x0) (done x1) (done x2) (done x3) (done x4) (done x5) (done x6) (done x7) (refused r k) j m = refl
in_pairs (done x0) (done x1) (done x2) (done x3) (done x4) (done x5) (done x6) (done x7) (done x8) (refused r k) m = refl
in_pairs (done x0) (done x1) (done x2) (done x3) (done x4) (done x5) (done x6) (done x7) (done x8) (done x9) m = refl

pub in_six : (a b c d e f m : Outcome (Unit {0})) → ((a >>= λ _. b) >>= λ _. (c >>= λ _. d) >>= λ _. (e >>= λ _. f) >>= λ _. m) ≡ (a >>= λ _. b >>= λ _. c >>= λ _. d >>= λ _. e >>= λ _. f >>= λ _. m)
unfolding ◌>>=◌
in_six (refused r k) b c d e f m = refl
in_six (done x0) (refused r k) c d e f m = refl
in_six (done x0) (done x1) (refused r k) d e f m = refl
in_six (done x0) (done x1) (done x2) (refused r k) e f m = refl
in_six (done x0) (done x1) (done x2) (done x3) (refused r k) f m = refl
in_six (done x0) (done x1) (done x2) (done x3) (done x4) (refused r k) m = refl
in_six (done x0) (done x1) (done x2) (done x3) (done x4) (done x5) m = refl

pub four_pairs : (a b c d e f g h : Outcome (Unit {0})) → ((a >>= λ _. b) >>= λ _. (c >>= λ _. d) >>= λ _. (e >>= λ _. f) >>= λ _. (g >>= λ _. h)) ≡ (a >>= λ _. b >>= λ _. c >>= λ _. d >>= λ _. e >>= λ _. f >>= λ _. g >>= λ _. h)
unfolding ◌>>=◌
four_pairs (refused r k) b c d e f g h = refl
four_pairs (done x0) (refused r k) c d e f g h = refl
four_pairs (done x0) (done x1) (refused r k) d e f g h = refl
four_pairs (done x0) (done x1) (done x2) (refused r k) e f g h = refl
four_pairs (done x0) (done x1) (done x2) (done x3) (refused r k) f g h = refl
four_pairs (done x0) (done x1) (done x2) (done x3) (done x4) (refused r k) g h = refl
four_pairs (done x0) (done x1) (done x2) (done x3) (done x4) (done x5) (refused r k) h = refl
four_pairs (done x0) (done x1) (done x2) (done x3) (done x4) (done x5) (done x6) h = refl

-- a first check and the rest, each done
pub both_are_done : (m m' : Outcome (Unit {0})) → m ≡ done tt → m' ≡ done tt → (m >>= λ _. m') ≡ done tt
unfolding ◌>>=◌
both_are_done m m' p q = rw (p, q)
