-- The channel file's layout: where a row starts, by the rows before it, and that it stands within the file, over any
-- widths and lengths. Assumes nothing.
use Prim.Native.Nat.{ℕ, zero, suc, ◌+◌, ◌*◌, ◌-◌, ◌≤◌, ◌<◌}
use native.Mathlib.Omega.{arith}
use Rattle.std.specs.Prelude.{◌≡◌, refl, List, [], ◌∷◌, length, take, get_or}
use Rattle.std.proofs.Common.{sym, ap, ◌∙◌, take_all}
use Rattle.rule.specs.Ranges.{most_cells}
use Rattle.rule.specs.Channel.{lengths}
use Rattle.rule.specs.Layout.{widths, head_length, starts, span, offsets, start_of, length_of}
use Rattle.layout.specs.Table.{of_each, length-offsets}

-- a row starts where the rows before it end
start_at :
    (at : ℕ) (ks ns : List ℕ) (i : ℕ) → i < length (starts at ks ns) →
    get_or (starts at ks ns) i 0 ≡ at + span (take i ks) ns
unfolding starts span
start_at at [] ns i h = absurd (omega arith)
start_at at (k ∷ ks) [] i h = absurd (omega arith)
start_at at (k ∷ ks) (n ∷ ns) zero h = omega arith
start_at at (k ∷ ks) (n ∷ ns) (suc i) h = start_at (at + k * n) ks ns i (omega arith) ∙ omega arith

pub start_is :
    (edition n i : ℕ) → i < length (widths edition) →
    start_of edition n i ≡ head_length edition + span (take i (widths edition)) (lengths n)
unfolding start_of offsets
start_is edition n i h =
    start_at (head_length edition) (widths edition) (lengths n) i (rw (length-offsets edition n) h)

-- and the file ends where the last one does
pub length_is :
    (edition n : ℕ) →
    length_of edition n ≡ head_length edition + span (take (length (widths edition)) (widths edition)) (lengths n)
unfolding length_of
length_is edition n =
    let ws = widths edition in
    sym (ap (λ ks. head_length edition + span ks (lengths n)) (take_all (length ws) ws (omega arith)))

-- a row ends within the file
stands_in_lem :
    (at : ℕ) (ks ns : List ℕ) (i : ℕ) → i < length (starts at ks ns) →
    get_or (starts at ks ns) i 0 + get_or ks i 0 * get_or ns i 0 ≤ at + span ks ns
unfolding starts span
stands_in_lem at [] ns i h = absurd (omega arith)
stands_in_lem at (k ∷ ks) [] i h = absurd (omega arith)
stands_in_lem at (k ∷ ks) (n ∷ ns) zero h = omega arith
stands_in_lem at (k ∷ ks) (n ∷ ns) (suc i) h = let z = stands_in_lem (at + k * n) ks ns i (omega arith) in omega (arith, z)

pub stands :
    (edition n i : ℕ) → i < length (widths edition) →
    start_of edition n i + get_or (widths edition) i 0 * get_or (lengths n) i 0 ≤ length_of edition n
unfolding start_of offsets length_of
stands edition n i h =
    stands_in_lem (head_length edition) (widths edition) (lengths n) i (rw (length-offsets edition n) h)

-- the head is part of the file, and the file is short
pub head_within : (edition n : ℕ) → head_length edition ≤ length_of edition n
unfolding length_of
head_within edition n = omega arith

pub length_few : (edition n : ℕ) → n ≤ most_cells → length_of edition n ≤ 32_768
unfolding length_of head_length span lengths
length_few edition n h =
    of_each (λ c ws. 4 * (c + length ws) + span ws (lengths n) ≤ 32_768) (omega arith) (omega arith) (omega arith) edition

-- the bytes of the rows before row i, in numbers
module _ (edition n : ℕ) (some : 1 ≤ n) where
  abbrev Before : ℕ → ℕ → List ℕ → Type 0
  Before i bytes ws = i ≤ length ws → bytes ≡ span (take i ws) (lengths n)

  pub before_5 : (i : ℕ) → i ≡ 5 → Before i (40 * n - 24) (widths edition)
  unfolding span lengths
  before_5 i e = of_each (λ c ws. Before i (40 * n - 24) ws) (λ _. rw e (omega arith)) (λ _. rw e (omega arith)) (λ l. absurd (omega arith)) edition

  pub before_6 : (i : ℕ) → i ≡ 6 → Before i (64 * n - 24) (widths edition)
  unfolding span lengths
  before_6 i e = of_each (λ c ws. Before i (64 * n - 24) ws) (λ _. rw e (omega arith)) (λ _. rw e (omega arith)) (λ l. absurd (omega arith)) edition

  pub before_7 : (i : ℕ) → i ≡ 7 → Before i (68 * n - 24) (widths edition)
  unfolding span lengths
  before_7 i e = of_each (λ c ws. Before i (68 * n - 24) ws) (λ l. absurd (omega arith)) (λ _. rw e (omega arith)) (λ l. absurd (omega arith)) edition

  -- the first four rows are alike in every edition
  module _ (more : List ℕ) where
    cells_before : (i : ℕ) → i ≤ 4 → Before i (4 * i * n) (4 ∷ 4 ∷ 4 ∷ 4 ∷ more)
    unfolding span lengths
    cells_before zero p h = omega arith
    cells_before (suc zero) p h = omega arith
    cells_before (suc (suc zero)) p h = omega arith
    cells_before (suc (suc (suc zero))) p h = omega arith
    cells_before (suc (suc (suc (suc zero)))) p h = omega arith
    cells_before (suc (suc (suc (suc (suc i))))) p h = absurd (omega arith)

  first_four : (i : ℕ) → i ≤ 7 → (i ≡ 5 → ⊥) → (i ≡ 6 → ⊥) → (i ≡ 7 → ⊥) → i ≤ 4
  first_four zero h p q r = omega arith
  first_four (suc zero) h p q r = omega arith
  first_four (suc (suc zero)) h p q r = omega arith
  first_four (suc (suc (suc zero))) h p q r = omega arith
  first_four (suc (suc (suc (suc zero)))) h p q r = omega arith
  first_four (suc (suc (suc (suc (suc zero))))) h p q r = absurd (p refl)
  first_four (suc (suc (suc (suc (suc (suc zero)))))) h p q r = absurd (q refl)
  first_four (suc (suc (suc (suc (suc (suc (suc zero))))))) h p q r = absurd (r refl)
  first_four (suc (suc (suc (suc (suc (suc (suc (suc i)))))))) h p q r = absurd (omega arith)

  none_before : (i : ℕ) → Before i (4 * i * n) []
  unfolding span
  none_before zero h = omega arith
  none_before (suc i) h = absurd (omega arith)

  pub before_cells : (i : ℕ) → (i ≡ 5 → ⊥) → (i ≡ 6 → ⊥) → (i ≡ 7 → ⊥) → Before i (4 * i * n) (widths edition)
  before_cells i p q r =
      of_each (λ c ws. Before i (4 * i * n) ws)
      (λ h. cells_before (8 ∷ 8 ∷ []) i (first_four i (omega arith) p q r) h)
      (λ h. cells_before (8 ∷ 8 ∷ 4 ∷ []) i (first_four i (omega arith) p q r) h)
      (none_before i) edition
