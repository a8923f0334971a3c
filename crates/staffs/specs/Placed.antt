-- "Gauges": a gauge that is placed is a staff with an empty record, in the lowest place that is free. Assumes nothing.
use Rattle.std.specs.Prelude.{ℕ, suc, ◌+◌, ◌*◌, ◌-◌, ◌≤◌, ◌≡◌, refl, Bool, true, false, eqb, pos, take, drop}
use Rattle.std.proofs.Common.{sym, ◌∙◌, arith, le-leb, ne_eqb, length-append, take_at, drop_at}
use Rattle.std.proofs.Math.Path.{ap}
use Rattle.std.proofs.Math.Bool.{not}
use mathlib.Core.List.{List, [], ◌∷◌, ◌++◌, append_assoc}
use Rattle.std.proofs.Math.ListN.{length}
use Rattle.whole.specs.Tests.{and_yes, both}
use Rattle.rule.specs.Rows.{Row, map, all, lowest_after, lowest}
use Rattle.rule.specs.Ranges.{between}
use Rattle.rule.specs.Refusals.{done}
use Rattle.rule.specs.Bytes.{row_bytes}
use Rattle.checks.specs.Numbers.{after_done}
use Rattle.gauge.specs.declared.Gauge.{Gauge}
use Rattle.gauge.specs.Gauge.{none, gauge_of}
use Rattle.gauge.specs.State.{numbers, flat, state_row, state_of, formed, taken, free, with_gauge, placeable, placed}
use Rattle.staffs.specs.Staffs.{Staff, staff, gauge_for, state_for}
use Rattle.staffs.specs.Staffs as staffs
use Rattle.staffs.specs.Back.{Each, each_map, length-map, length-all, row_back}
use Rattle.staffs.specs.Fed.{Proper, gauges_for, formed_for, not_empty, empty_is, let_by, all-each, gauges_long, gauges_small}

-- the lowest that fails, where those before it pass
first_fails : {A : Type 0} (p : A → Bool) (k : ℕ) (xs : List A) (y : A) (ys : List A) → all p xs ≡ true → p y ≡ false → lowest_after k p (xs ++ (y ∷ ys)) ≡ suc (k + length xs)
unfolding lowest_after all
first_fails p k [] y ys t e = let z : suc k ≡ suc (k + 0) = omega arith in rw e z
first_fails p k (x ∷ xs) y ys t e =
    let b = both (p x) (all p xs) t in
    let z : suc (suc k + length xs) ≡ suc (k + suc (length xs)) = omega arith in
    rw b.0 (first_fails p (suc k) xs y ys b.1 e ∙ z)

map-append : {A B : Type 0} (f : A → B) (xs ys : List A) → map f (xs ++ ys) ≡ map f xs ++ map f ys
unfolding map
map-append f [] ys = refl
map-append f (x ∷ xs) ys = ap (λ t. f x ∷ t) (map-append f xs ys)

flat_append : (rows more : List Row) → flat (rows ++ more) ≡ flat rows ++ flat more
unfolding flat
flat_append [] more = refl
flat_append (r ∷ rows) more = ap (λ t. r ++ t) (flat_append rows more) ∙ sym (append_assoc r (flat rows) (flat more))

-- all numbers, with those of one place between
between_is : (xs : List Gauge) (b : Gauge) (zs : List Gauge) → flat (map numbers (xs ++ (b ∷ zs))) ≡ flat (map numbers xs) ++ (numbers b ++ flat (map numbers zs))
unfolding flat map
between_is xs b zs = ap flat (map-append numbers xs (b ∷ zs)) ∙ flat_append (map numbers xs) (numbers b ∷ map numbers zs)

eight_more : (row : Row) (b : Gauge) (n : ℕ) → length row ≡ 8 * n → length (row ++ numbers b) ≡ 8 * n + 8
unfolding numbers
eight_more row b n h = length-append row (numbers b) ∙ ap (λ k. k + 8) h

-- another gauge in its place
put_is : (xs : List Gauge) (b g : Gauge) (zs : List Gauge) → with_gauge (flat (map numbers (xs ++ (b ∷ zs)))) (length xs) g ≡ flat (map numbers (xs ++ (g ∷ zs)))
unfolding with_gauge
put_is xs b g zs =
    let before = flat (map numbers xs) in
    let after = flat (map numbers zs) in
    let row = between_is xs b zs in
    let l : length before ≡ 8 * length xs = length-all xs in
    let t : take (8 * length xs) (before ++ (numbers b ++ after)) ≡ before = take_at before (numbers b ++ after) (8 * length xs) l in
    let h : length (before ++ numbers b) ≡ 8 * length xs + 8 = eight_more before b (length xs) l in
    let d : drop (8 * length xs + 8) (before ++ (numbers b ++ after)) ≡ after = ap (drop (8 * length xs + 8)) (sym (append_assoc before (numbers b) after)) ∙ drop_at (before ++ numbers b) after (8 * length xs + 8) h in
    (λ i. take (8 * length xs) (row i) ++ (numbers g ++ drop (8 * length xs + 8) (row i)))
    ∙ (λ i. t i ++ (numbers g ++ d i))
    ∙ sym (between_is xs g zs)

taken_staff : (j : ℕ) (r : Row) → 1 ≤ j → taken (gauge_for (staff j r)) ≡ true
unfolding taken gauge_for
taken_staff j r h = ap not (not_empty j r h)

-- a place that has a staff
abbrev pub Taken : Staff → Type 0
Taken staffs.free = ⊥
Taken (staff j r) = 1 ≤ j

taken_for : (s : Staff) → Taken s → taken (gauge_for s) ≡ true
taken_for staffs.free p = absurd p
taken_for (staff j r) p = taken_staff j r p

free_for : taken (gauge_for staffs.free) ≡ false
unfolding taken gauge_for
free_for = ap not empty_is

module _ (before after : List Staff) (full : Each Taken before) (long : length (before ++ (staffs.free ∷ after)) ≡ 8) (proper : Each Proper (before ++ (staffs.free ∷ after))) where
  abbrev every : List Staff
  every = before ++ (staffs.free ∷ after)

  split : map gauge_for every ≡ map gauge_for before ++ (none ∷ map gauge_for after)
  unfolding map gauge_for
  split = map-append gauge_for before (staffs.free ∷ after)

  pub free_is : free (state_for every) ≡ suc (length before)
  unfolding free lowest gauge_for
  free_is =
      let m : length (map gauge_for before) ≡ length before = length-map gauge_for before in
      ap (lowest_after 0 taken) (gauges_for every long proper ∙ split)
      ∙ first_fails taken 0 (map gauge_for before) none (map gauge_for after) (all-each taken (map gauge_for before) (each_map gauge_for Taken (λ g. taken g ≡ true) taken_for before full)) free_for
      ∙ omega (arith, m)

  written_is : (j : ℕ) → with_gauge (state_row (state_for every)) (free (state_for every) - 1) (gauge_of (pos j) []) ≡ flat (map numbers (map gauge_for (before ++ (staff j [] ∷ after))))
  unfolding state_for map gauge_for
  written_is j =
      let g = gauge_of (pos j) [] in
      let m : free (state_of (map gauge_for every)) - 1 ≡ length (map gauge_for before) = omega (arith, free_is, length-map gauge_for before) in
      (λ i. with_gauge ((row_back (map gauge_for every) (gauges_long every long proper) (gauges_small every long proper) ∙ ap (λ gs. flat (map numbers gs)) split) i) (m i) g)
      ∙ put_is (map gauge_for before) none g (map gauge_for after)
      ∙ ap (λ gs. flat (map numbers gs)) (sym (map-append gauge_for before (staff j [] ∷ after)))

  -- a gauge placed at a cell of n
  pub placed_staffs : (n j : ℕ) → 1 ≤ j → j ≤ n → placed n j (state_for every) ≡ done (state_for (before ++ (staff j [] ∷ after)))
  unfolding placed placeable between state_for state_of
  placed_staffs n j least most =
      after_done _ tt _
      (after_done (formed (state_for every)) tt _ (formed_for every long proper)
      ∙ after_done _ tt _ (let_by _ _ (ap (λ k. not (eqb k 0)) free_is ∙ ap not (ne_eqb (suc (length before)) 0 (λ z. omega (arith, z)))))
      ∙ let_by _ _ (and_yes _ _ (le-leb 1 j least) (le-leb j n most)))
      ∙ ap (λ row. done (row_bytes 8 row)) (written_is j)
