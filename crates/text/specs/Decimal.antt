-- The channel file: decimal text, as the rule writes it out and as the library writes a number of the machine. Assumes nothing.
use Rattle.std.specs.Prelude.{ℕ, zero, suc, ◌+◌, ◌*◌, ◌/◌, ◌%◌, ◌^◌, ◌≤◌, ◌<◌, ◌≡◌, List, [], ◌∷◌, ◌++◌, length, ℤ, pos, negsuc, nat_abs}
use Rattle.std.proofs.Common.{pow-suc, arith, lt-ltb, le-ltb, sym, ap, ◌∙◌, length-append, SFits, to_z, of_z}
use Rattle.std.proofs.Math.Decide.{dec_lt}
use Rattle.std.specs.Int.Signed.{mag}
use Rattle.std.specs.Int.{w64}
use Rattle.std.proofs.lemmas.Int.{to_z-of_z}
use Rattle.std.specs.Fmt.{decimal as printed, signed_decimal as signed_printed}
use Rattle.std.proofs.lemmas.Fmt.{decimal_by_steps}
use Rattle.rule.specs.Line.{digits, decimal, signed_decimal}

-- a digit by itself, and the last digit after the others
digits_one : (m n : ℕ) → n < 10 → digits m n ≡ (48 + n) ∷ []
unfolding digits
digits_one zero n h = let e : n % 10 ≡ n = omega arith in rw e
digits_one (suc m) n h = rw (lt-ltb n 10 h, digits)

digits_last : (m n : ℕ) → 10 ≤ n → digits (suc m) n ≡ digits m (n / 10) ++ ((48 + n % 10) ∷ [])
unfolding digits
digits_last m n h = rw (le-ltb n 10 h, digits)

-- divisions beyond the first n change nothing
enough_cases : (m k n : ℕ) → n ≤ suc m → n ≤ suc k → Dec (n < 10) → (n / 10 ≤ m → n / 10 ≤ k → digits m (n / 10) ≡ digits k (n / 10)) → digits (suc m) n ≡ digits (suc k) n
enough_cases m k n h l (yes p) e = digits_one (suc m) n p ∙ sym (digits_one (suc k) n p)
enough_cases m k n h l (no p) e =
    digits_last m n (omega arith)
    ∙ ap (λ x. x ++ ((48 + n % 10) ∷ [])) (e (omega arith) (omega arith))
    ∙ sym (digits_last k n (omega arith))

enough : (m k n : ℕ) → n ≤ m → n ≤ k → digits m n ≡ digits k n
enough zero k n h l = digits_one zero n (omega arith) ∙ sym (digits_one k n (omega arith))
enough (suc m) zero n h l = digits_one (suc m) n (omega arith) ∙ sym (digits_one zero n (omega arith))
enough (suc m) (suc k) n h l = enough_cases m k n h l (dec_lt n 10) (λ p q. enough m k (n / 10) p q)

pub decimal_one : (n : ℕ) → n < 10 → decimal n ≡ (48 + n) ∷ []
unfolding decimal
decimal_one n h = digits_one n n h

pub decimal_more : (n : ℕ) → 10 ≤ n → decimal n ≡ decimal (n / 10) ++ ((48 + n % 10) ∷ [])
unfolding decimal
decimal_more zero h = absurd (omega arith)
decimal_more (suc m) h =
    digits_last m (suc m) h
    ∙ ap (λ x. x ++ ((48 + suc m % 10) ∷ [])) (enough m (suc m / 10) (suc m / 10) (omega arith) (omega arith))

-- the library's text is the rule's
pub decimal_is : (n : ℕ) → n < 2 ^ 64 → printed n ≡ decimal n
decimal_is =
    decimal_by_steps (λ (n : ℕ) (ds : List ℕ). ds ≡ decimal n) (λ n h. sym (decimal_one n h))
    (λ n ds h e. ap (λ x. x ++ ((48 + n % 10) ∷ [])) e ∙ sym (decimal_more n h))

signed_is : (z : ℤ) → mag z < 2 ^ 63 → signed_printed z ≡ signed_decimal z
unfolding signed_decimal
signed_is (pos n) h = decimal_is n (omega arith)
signed_is (negsuc n) h = ap (λ ds. 45 ∷ ds) (decimal_is (suc n) (omega arith))

-- of a number that the machine read back from its bits
pub signed_read : {r z : ℤ} → SFits w64 r → r ≡ z → signed_printed (to_z w64 (of_z w64 r)) ≡ signed_decimal z
signed_read {r} f e = ap signed_printed (to_z-of_z w64 r f) ∙ signed_is r f.sfits ∙ ap signed_decimal e

pub length-one : (n : ℕ) → n < 10 → length (decimal n) ≡ 1
length-one n h = ap length (decimal_one n h)

pub length_more : (n : ℕ) → 10 ≤ n → length (decimal n) ≡ length (decimal (n / 10)) + 1
length_more n h = ap length (decimal_more n h) ∙ length-append (decimal (n / 10)) ((48 + n % 10) ∷ [])

-- a number below 10 ^ k has at most k digits
places : (k n : ℕ) → Dec (n < 10) → (10 ≤ n → length (decimal (n / 10)) ≤ k) → length (decimal n) ≤ suc k
places k n (yes p) h = omega (arith, length-one n p)
places k n (no p) h = omega (arith, length_more n (omega arith), h (omega arith))

pub length-decimal : (k n : ℕ) → n < 10 ^ suc k → length (decimal n) ≤ suc k
length-decimal zero n h = places zero n (dec_lt n 10) (λ p. absurd (omega arith))
length-decimal (suc k) n h =
    let e : 10 ^ suc (suc k) ≡ 10 ^ suc k * 10 = pow-suc 10 (suc k) in
    places (suc k) n (dec_lt n 10) (λ p. length-decimal k (n / 10) (omega arith))

pub length-signed : (k : ℕ) (z : ℤ) → nat_abs z < 10 ^ suc k → length (signed_decimal z) ≤ suc (suc k)
unfolding signed_decimal
length-signed k (pos n) h = omega (arith, length-decimal k n h)
length-signed k (negsuc n) h = omega (arith, length-decimal k (suc n) h)
