-- "Gauges": a state that was written is read back as the same gauges. Assumes nothing.
use Rattle.std.specs.Prelude.{ℕ, zero, suc, ◌+◌, ◌*◌, ◌≤◌, ◌<◌, ◌≡◌, ℤ, nat_abs, length, get_or}
use Rattle.std.proofs.Math.Path.{refl, ap}
use Rattle.std.proofs.Common.{sym, ◌∙◌, le_trans, mul-suc, arith, lit≤, lit<}
use mathlib.Core.List.{List, [], ◌∷◌, ◌++◌, append-nil}
use Rattle.whole.specs.Row.{tab_ext}
use Rattle.rule.specs.Rows.{Row, cell, map}
use Rattle.rule.specs.Bytes.{row_bytes, row_at}
use Rattle.rows.specs.All.{tab_of}
use Rattle.little.specs.Numbers.{Held, held}
use Rattle.little.specs.Entries.{HeldRow, length-row_bytes, row_at_row_bytes}
use Rattle.gauge.specs.declared.Gauge.{Gauge}
use Rattle.gauge.specs.Gauge.{none}
use Rattle.gauge.specs.Small.{Small}
use Rattle.gauge.specs.State.{state_numbers, state_length, numbers, gauge_at, gauges_in, flat, state_row, gauges_of, state_of}

-- each of a list
abbrev pub Each : {A : Type 0} → (A → Type 0) → List A → Type 0
Each P [] = Unit {0}
Each P (x ∷ xs) = P x × Each P xs

pub each_map : {A B : Type 0} (f : A → B) (P : A → Type 0) (Q : B → Type 0) → ((x : A) → P x → Q (f x)) → (xs : List A) → Each P xs → Each Q (map f xs)
unfolding map
each_map f P Q h [] e = tt
each_map f P Q h (x ∷ xs) e = (h x e.0, each_map f P Q h xs e.1)

pub length-map : {A B : Type 0} (f : A → B) (xs : List A) → length (map f xs) ≡ length xs
unfolding map
length-map f [] = refl
length-map f (x ∷ xs) = ap suc (length-map f xs)

pub length-all : (gs : List Gauge) → length (flat (map numbers gs)) ≡ 8 * length gs
unfolding flat map numbers
length-all [] = refl
length-all (g ∷ gs) =
    let e : length (flat (map numbers gs)) ≡ 8 * length gs = length-all gs in
    let m : 8 * suc (length gs) ≡ 8 * length gs + 8 = mul-suc 8 (length gs) in
    omega arith

-- the gauge at a place of all numbers
first_at : (g : Gauge) (rest : Row) → gauge_at (numbers g ++ rest) 0 ≡ g
unfolding gauge_at numbers
first_at g rest = refl

-- entry 8 + n of eight numbers and a row is entry n of the row
eight_on : (g : Gauge) (rest : Row) (n m : ℕ) → m ≡ suc (suc (suc (suc (suc (suc (suc (suc n))))))) → cell (numbers g ++ rest) m ≡ cell rest n
unfolding numbers
eight_on g rest n m e = rw e refl

next_at : (g : Gauge) (rest : Row) (k : ℕ) → gauge_at (numbers g ++ rest) (suc k) ≡ gauge_at rest k
unfolding gauge_at
next_at g rest k =
    let m : 8 * suc k ≡ 8 * k + 8 = mul-suc 8 k in
    (λ i. record {
      cell = eight_on g rest (8 * k) (8 * suc k) (omega (arith, m)) i;
      fed = eight_on g rest (8 * k + 1) (8 * suc k + 1) (omega (arith, m)) i;
      last = eight_on g rest (8 * k + 2) (8 * suc k + 2) (omega (arith, m)) i;
      crossings = eight_on g rest (8 * k + 3) (8 * suc k + 3) (omega (arith, m)) i;
      highest = eight_on g rest (8 * k + 4) (8 * suc k + 4) (omega (arith, m)) i;
      lowest = eight_on g rest (8 * k + 5) (8 * suc k + 5) (omega (arith, m)) i;
      largest = eight_on g rest (8 * k + 6) (8 * suc k + 6) (omega (arith, m)) i;
      sum = eight_on g rest (8 * k + 7) (8 * suc k + 7) (omega (arith, m)) i;
    })

gauge_at_lem : (gs : List Gauge) (k : ℕ) → k < length gs → gauge_at (flat (map numbers gs)) k ≡ get_or gs k none
unfolding flat map
gauge_at_lem [] k h = absurd (omega arith)
gauge_at_lem (g ∷ gs) zero h = first_at g (flat (map numbers gs))
gauge_at_lem (g ∷ gs) (suc k) h = next_at g (flat (map numbers gs)) k ∙ gauge_at_lem gs k (omega arith)

gauges_back : (gs : List Gauge) → length gs ≡ 8 → gauges_in (flat (map numbers gs)) ≡ gs
unfolding gauges_in
gauges_back gs h =
    tab_ext 8 (gauge_at (flat (map numbers gs))) (λ k. get_or gs k none) (λ k l. gauge_at_lem gs k (omega arith))
    ∙ sym (tab_of none gs 8 h)

-- its numbers are held by eight bytes
abbrev Eight : ℤ → Type 0
Eight z = Held 8 z

eight_of : (z : ℤ) (most : ℕ) → nat_abs z ≤ most → most ≤ 19_999_460_001_000 → Eight z
eight_of z most h l = held 8 19_999_460_001_000 z (le_trans h l) (lit< tt)

numbers_held : (g : Gauge) → Small g → Each Eight (numbers g)
unfolding numbers
numbers_held g p = (
  eight_of g.cell 256 p.cell (lit≤ tt),
  (
    eight_of g.fed 1_000_000 p.fed (lit≤ tt),
    (
      eight_of g.last 20_000_000 p.last (lit≤ tt),
      (
        eight_of g.crossings 500_000 p.crossings (lit≤ tt),
        (
          eight_of g.highest 20_000_000 p.highest (lit≤ tt),
          (
            eight_of g.lowest 20_000_000 p.lowest (lit≤ tt),
            (
              eight_of g.largest 39_999_000 p.largest (lit≤ tt),
              (eight_of g.sum 19_999_460_001_000 p.sum (lit≤ tt), tt),
            ),
          ),
        ),
      ),
    ),
  ),
)

each_append : (xs ys : Row) → Each Eight xs → Each Eight ys → Each Eight (xs ++ ys)
each_append [] ys p q = q
each_append (x ∷ xs) ys p q = (p.0, each_append xs ys p.1 q)

all_held : (gs : List Gauge) → Each Small gs → Each Eight (flat (map numbers gs))
unfolding flat map
all_held [] p = tt
all_held (g ∷ gs) p = each_append (numbers g) (flat (map numbers gs)) (numbers_held g p.0) (all_held gs p.1)

each_at : (row : Row) → Each Eight row → (i : ℕ) → i < length row → Eight (cell row i)
each_at [] p i h = absurd (omega arith)
each_at (x ∷ row) p zero h = p.0
each_at (x ∷ row) p (suc i) h = each_at row p.1 i (omega arith)

module _ (gs : List Gauge) (long : length gs ≡ 8) (small : Each Small gs) where
  all-long : length (flat (map numbers gs)) ≡ state_numbers
  all-long = length-all gs ∙ ap (λ n. 8 * n) long

  -- 512 bytes
  pub state_long : length (state_of gs) ≡ state_length
  unfolding state_of
  state_long = length-row_bytes 8 (flat (map numbers gs)) ∙ ap (λ n. 8 * n) all-long

  pub row_back : state_row (state_of gs) ≡ flat (map numbers gs)
  unfolding state_row state_of
  row_back =
      let row = flat (map numbers gs) in
      let h : HeldRow 8 row = record { at = λ i l. each_at row (all_held gs small) i l } in
      (λ i. row_at 8 (sym (append-nil (row_bytes 8 row)) i) 0 (sym all-long i)) ∙ row_at_row_bytes 8 [] row [] 0 refl h

  pub state_back : gauges_of (state_of gs) ≡ gs
  unfolding gauges_of
  state_back = ap gauges_in row_back ∙ gauges_back gs long
