-- The channel file's layout, by its edition: the counts, the offsets of the rows, and then the rows, each where the one
-- before it ends. An edition that is not in the table has no counts and no rows.
use Rattle.std.specs.Prelude.{ℕ, ◌+◌, ◌*◌, ◌-◌, ◌≤◌, ◌≡◌, cond, List, [], ◌∷◌, eqb, length, get_or}
use Rattle.std.proofs.Common.{arith}
use Rattle.rule.specs.Channel.{lengths}

-- the counts before the offsets: edition, N, X, T, accepted, wanted
unfoldable pub counts_in : ℕ → ℕ
counts_in edition = cond (eqb edition 1) 6 (cond (eqb edition 2) 6 0)

-- the bytes that an entry of each row takes: depth, height, u, V, flux, acceleration, and since edition 2 damping
unfoldable pub widths : ℕ → List ℕ
widths edition =
    cond (eqb edition 1) (4 ∷ 4 ∷ 4 ∷ 4 ∷ 8 ∷ 8 ∷ []) (cond (eqb edition 2) (4 ∷ 4 ∷ 4 ∷ 4 ∷ 8 ∷ 8 ∷ 4 ∷ []) [])

-- the bytes of the counts and the offsets
unfoldable pub head_length : ℕ → ℕ
head_length edition = 4 * (counts_in edition + length (widths edition))

-- where rows of these widths and lengths start, the first at `at`
unfoldable pub starts : ℕ → List ℕ → List ℕ → List ℕ
starts at [] ns = []
starts at (k ∷ ks) [] = []
starts at (k ∷ ks) (n ∷ ns) = at ∷ starts (at + k * n) ks ns

-- and how many bytes they take
unfoldable pub span : List ℕ → List ℕ → ℕ
span [] ns = 0
span (k ∷ ks) [] = 0
span (k ∷ ks) (n ∷ ns) = k * n + span ks ns

-- where the rows of a file of n cells start
unfoldable pub offsets : ℕ → ℕ → List ℕ
offsets edition n = starts (head_length edition) (widths edition) (lengths n)

unfoldable pub start_of : ℕ → ℕ → ℕ → ℕ
start_of edition n i = get_or (offsets edition n) i 0

-- the bytes of a file of n cells
unfoldable pub length_of : ℕ → ℕ → ℕ
length_of edition n = head_length edition + span (widths edition) (lengths n)

-- edition 1 in numbers
pub first_offsets :
    (n : ℕ) → 1 ≤ n →
    offsets 1 n ≡ 48 ∷ (48 + 4 * n) ∷ (48 + 8 * n) ∷ (48 + 12 * n) ∷ (48 + 16 * n) ∷ (24 + 40 * n) ∷ []
unfolding offsets starts head_length counts_in widths lengths
first_offsets n h =
    let a : 48 + 4 * n + 4 * n ≡ 48 + 8 * n = omega arith in
    let b : 48 + 4 * n + 4 * n + 4 * n ≡ 48 + 12 * n = omega arith in
    let c : 48 + 4 * n + 4 * n + 4 * n + 4 * n ≡ 48 + 16 * n = omega arith in
    let d : 48 + 4 * n + 4 * n + 4 * n + 4 * n + 8 * (3 * (n - 1)) ≡ 24 + 40 * n = omega arith in
    (λ i. 48 ∷ (48 + 4 * n) ∷ a i ∷ b i ∷ c i ∷ d i ∷ [])

pub first_length : (n : ℕ) → 1 ≤ n → length_of 1 n ≡ 24 + 64 * n
unfolding length_of span head_length counts_in widths lengths
first_length n h = omega arith

-- edition 2 in numbers
pub second_offsets :
    (n : ℕ) → 1 ≤ n →
    offsets 2 n ≡ 52 ∷ (52 + 4 * n) ∷ (52 + 8 * n) ∷ (52 + 12 * n) ∷ (52 + 16 * n) ∷ (28 + 40 * n) ∷ (28 + 64 * n) ∷ []
unfolding offsets starts head_length counts_in widths lengths
second_offsets n h =
    let a : 52 + 4 * n + 4 * n ≡ 52 + 8 * n = omega arith in
    let b : 52 + 4 * n + 4 * n + 4 * n ≡ 52 + 12 * n = omega arith in
    let c : 52 + 4 * n + 4 * n + 4 * n + 4 * n ≡ 52 + 16 * n = omega arith in
    let d : 52 + 4 * n + 4 * n + 4 * n + 4 * n + 8 * (3 * (n - 1)) ≡ 28 + 40 * n = omega arith in
    let e : 52 + 4 * n + 4 * n + 4 * n + 4 * n + 8 * (3 * (n - 1)) + 8 * (3 * n) ≡ 28 + 64 * n = omega arith in
    (λ i. 52 ∷ (52 + 4 * n) ∷ a i ∷ b i ∷ c i ∷ d i ∷ e i ∷ [])

pub second_length : (n : ℕ) → 1 ≤ n → length_of 2 n ≡ 28 + 68 * n
unfolding length_of span head_length counts_in widths lengths
second_length n h = omega arith
