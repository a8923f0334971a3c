-- Refusal numbers: the lowest place at fault, as a loop finds it that looks at one entry after the other. Assumes nothing.
use Prim.Native.Nat.{ℕ, zero, suc, ◌+◌, ◌≤◌, ◌<◌}
use Rattle.std.proofs.Math.Numerals.{add-one}
use native.Mathlib.Omega.{arith}
use Rattle.std.proofs.Math.Path.{◌≡◌, refl, sym, ap}
use Rattle.std.proofs.Common.{◌∙◌, ne_eqb}
use Rattle.std.specs.Option.{is_some}
use Rattle.std.specs.Prelude.{Option, None, Some, Bool, not, cond, ◌&&◌, eqb, get_or}
use Rattle.std.proofs.Math.Bool.{true, false}
use mathlib.Core.List.{List, [], ◌∷◌, ◌++◌}
use Rattle.std.proofs.Math.ListN.{length}
use Rattle.whole.specs.Row.{tab, length_tab}
use Rattle.rule.specs.Rows.{all, lowest_after, lowest}

-- the lowest place so far, once the entry after k others is looked at too
unfoldable pub lower : ℕ → Bool → ℕ → ℕ
lower place passes k = cond (eqb place 0 && not passes) (k + 1) place

-- an entry that does not pass, where none was found before it
pub lower_found : (place : ℕ) (passes : Bool) (k : ℕ) → eqb place 0 && not passes ≡ true → k + 1 ≡ lower place passes k
unfolding lower
lower_found place passes k e = rw e

pub lower_stays : (place : ℕ) (passes : Bool) (k : ℕ) → eqb place 0 && not passes ≡ false → place ≡ lower place passes k
unfolding lower
lower_stays place passes k e = rw e

module _ {A : Type 0} (p : A → Bool) where
  by_head : (k m : ℕ) (b c : Bool) (rest after : ℕ) → rest ≡ lower after c m → cond b rest (suc k) ≡ lower (cond b after (suc k)) c m
  unfolding lower
  by_head k m true c rest after e = e
  by_head k m false c rest after e = rw (ne_eqb (suc k) 0 (λ z. omega (arith, z)))

  alone : (b : Bool) (k : ℕ) → cond b 0 (suc k) ≡ lower 0 b k
  unfolding lower
  alone true k = refl
  alone false k = sym (add-one k)

  -- one entry more at the end
  snoc : (k : ℕ) (l : List A) (x : A) → lowest_after k p (l ++ (x ∷ [])) ≡ lower (lowest_after k p l) (p x) (k + length l)
  unfolding lowest_after
  snoc k [] x = let e : k ≡ k + 0 = omega arith in alone (p x) k ∙ ap (lower 0 (p x)) e
  snoc k (y ∷ l) x =
      let e : suc k + length l ≡ k + suc (length l) = omega arith in
      by_head k (k + suc (length l)) (p y) (p x) _ _ (snoc (suc k) l x ∙ ap (lower (lowest_after (suc k) p l) (p x)) e)

  module _ (f : ℕ → A) where
    pub lower_none : 0 ≡ lowest p (tab 0 f)
    unfolding lowest lowest_after tab
    lower_none = refl

    pub lower_more : (n : ℕ) → lower (lowest p (tab n f)) (p (f n)) n ≡ lowest p (tab (n + 1) f)
    unfolding lowest tab
    lower_more n =
        let e : 0 + length (tab n f) ≡ n = omega (arith, length_tab n f) in
        rw add-one (ap (lower (lowest_after 0 p (tab n f)) (p (f n))) (sym e) ∙ sym (snoc 0 (tab n f) (f n)))

  -- where every entry passes there is none
  passed_head : (b c : Bool) → b && c ≡ true → (b ≡ true) × (c ≡ true)
  passed_head true c e = (refl, e)
  passed_head false c e = let z : ◌≡◌ {A = ℕ} 0 1 = cc e in absurd (omega arith)

  none_after : (k : ℕ) (l : List A) → all p l ≡ true → lowest_after k p l ≡ 0
  unfolding all lowest_after
  none_after k [] e = refl
  none_after k (x ∷ l) e = let b = passed_head (p x) (all p l) e in rw b.0 (none_after (suc k) l b.1)

  pub lowest_none : (l : List A) → all p l ≡ true → lowest p l ≡ 0
  unfolding lowest
  lowest_none l e = none_after 0 l e

  -- and where one does not pass there is one
  one_more : (b c : Bool) (k rest : ℕ) → (c ≡ false → rest ≡ 0 → ⊥) → b && c ≡ false → cond b rest (suc k) ≡ 0 → ⊥
  one_more true c k rest h e z = h e z
  one_more false c k rest h e z = omega (arith, z)

  some_after : (k : ℕ) (l : List A) → all p l ≡ false → lowest_after k p l ≡ 0 → ⊥
  unfolding all lowest_after
  some_after k [] e z = let y : ◌≡◌ {A = ℕ} 0 1 = cc e in omega (arith, y)
  some_after k (x ∷ l) e z = one_more (p x) (all p l) k (lowest_after (suc k) p l) (some_after (suc k) l) e z

  pub lowest_some : (l : List A) → all p l ≡ false → lowest p l ≡ 0 → ⊥
  unfolding lowest
  lowest_some l e z = some_after 0 l e z

  -- it is one of its entries' places
  one_of : (b : Bool) (k rest n : ℕ) → rest ≤ suc k + n → cond b rest (suc k) ≤ k + suc n
  one_of true k rest n h = omega arith
  one_of false k rest n h = omega arith

  most_after : (k : ℕ) (l : List A) → lowest_after k p l ≤ k + length l
  unfolding lowest_after
  most_after k [] = omega arith
  most_after k (x ∷ l) = one_of (p x) k (lowest_after (suc k) p l) (length l) (most_after (suc k) l)

  pub lowest_most : (l : List A) → lowest p l ≤ length l
  unfolding lowest
  lowest_most l = let h = most_after 0 l in omega arith

  by_all : (l : List A) (b : Bool) → all p l ≡ b → lowest p l ≡ 0 → all p l ≡ true
  by_all l true e z = e
  by_all l false e z = absurd (lowest_some l e z)

  pub lowest_zero : (l : List A) → lowest p l ≡ 0 → all p l ≡ true
  lowest_zero l z = by_all l (all p l) refl z

  -- what the lowest place says: its entry is there and does not pass, and every entry before it passes
  pub record Lowest (d : A) (l : List A) (j : ℕ) : Type 0 where
    pub there : j < length l
    pub fails : p (get_or l j d) ≡ false
    pub before : (i : ℕ) → i < j → p (get_or l i d) ≡ true

  module _ (d : A) where
    head_fails : (x : A) (l : List A) → p x ≡ false → Lowest d (x ∷ l) 0
    head_fails x l e = record { there = omega arith; fails = e; before = λ i h. absurd (omega arith) }

    passes_before : (x : A) (l : List A) (j : ℕ) → p x ≡ true → Lowest d l j → (i : ℕ) → i < suc j → p (get_or (x ∷ l) i d) ≡ true
    passes_before x l j e w zero h = e
    passes_before x l j e w (suc i) h = w.before i (omega arith)

    head_passes : (x : A) (l : List A) (j : ℕ) → p x ≡ true → Lowest d l j → Lowest d (x ∷ l) (suc j)
    head_passes x l j e w = record { there = omega (arith, w.there); fails = w.fails; before = passes_before x l j e w }

    by_above : (k : ℕ) (b : Bool) (rest m : ℕ) → cond b rest (suc k) ≡ m → (m ≡ 0 → ⊥) → (rest ≡ m → (m ≡ 0 → ⊥) → suc k < m) → k < m
    by_above k true rest m e z h = omega (arith, h e z)
    by_above k false rest m e z h = omega (arith, e)

    -- after k others a place is above k
    above : (k : ℕ) (l : List A) (m : ℕ) → lowest_after k p l ≡ m → (m ≡ 0 → ⊥) → k < m
    unfolding lowest_after
    above k [] m e z = absurd (z (sym e))
    above k (x ∷ l) m e z = by_above k (p x) (lowest_after (suc k) p l) m e z (above (suc k) l m)

    by_at : (k : ℕ) (x : A) (l : List A) (j : ℕ) (b : Bool) → p x ≡ b → cond b (lowest_after (suc k) p l) (suc k) ≡ suc (k + j) → ((i : ℕ) → lowest_after (suc k) p l ≡ suc (suc k + i) → Lowest d l i) → Lowest d (x ∷ l) j
    by_at k x l j false q e h =
        let z : j ≡ 0 = omega (arith, e) in
        rw z (head_fails x l q)
    by_at k x l zero true q e h = absurd (omega (arith, above (suc k) l (suc (k + 0)) e (λ z. omega (arith, z))))
    by_at k x l (suc j) true q e h =
        let z : suc (k + suc j) ≡ suc (suc k + j) = omega arith in
        head_passes x l j q (h j (e ∙ z))

    at_after : (k : ℕ) (l : List A) (j : ℕ) → lowest_after k p l ≡ suc (k + j) → Lowest d l j
    unfolding lowest_after
    at_after k [] j e = absurd (let z : 0 ≡ suc (k + j) = e in omega (arith, z))
    at_after k (x ∷ l) j e = by_at k x l j (p x) refl e (at_after (suc k) l)

    -- the search finds the lowest place: all before it pass
    pub lowest_at : (l : List A) (j : ℕ) → lowest p l ≡ suc j → Lowest d l j
    unfolding lowest
    lowest_at l j e = let z : suc j ≡ suc (0 + j) = omega arith in at_after 0 l j (e ∙ z)

-- as the code has it: the place, or none
unfoldable pub found : ℕ → Option ℕ
found zero = None
found (suc k) = Some (suc k)

unfoldable pub lower_place : Option ℕ → Bool → ℕ → Option ℕ
lower_place place true k = place
lower_place None false k = Some (k + 1)
lower_place (Some m) false k = Some m

-- by the test that the code makes
pub lower_here : (place : Option ℕ) (none passes : Bool) (k : ℕ) → is_some place ≡ not none → none && not passes ≡ true → Some (k + 1) ≡ lower_place place passes k
unfolding lower_place
lower_here None true false k e h = refl
lower_here None true true k e h = cc h
lower_here None false passes k e h = cc h
lower_here (Some m) true passes k e h = cc e
lower_here (Some m) false passes k e h = cc h

pub lower_before : (place : Option ℕ) (none passes : Bool) (k : ℕ) → is_some place ≡ not none → none && not passes ≡ false → place ≡ lower_place place passes k
unfolding lower_place
lower_before place none true k e h = refl
lower_before None true false k e h = cc h
lower_before None false false k e h = cc e
lower_before (Some m) none false k e h = refl

found_lower : (m : ℕ) (b : Bool) (k : ℕ) → lower_place (found m) b k ≡ found (lower m b k)
unfolding found lower_place lower
found_lower zero true k = refl
found_lower zero false k = rw add-one refl
found_lower (suc m) true k = rw (ne_eqb (suc m) 0 (λ z. omega (arith, z)))
found_lower (suc m) false k = rw (ne_eqb (suc m) 0 (λ z. omega (arith, z)))

module _ {A : Type 0} (p : A → Bool) where
  module _ (f : ℕ → A) where
    pub found_before : None ≡ found (lowest p (tab 0 f))
    unfolding found
    found_before = ap found (lower_none p f)

    -- one entry more at the end
    pub found_more : (n : ℕ) → lower_place (found (lowest p (tab n f))) (p (f n)) n ≡ found (lowest p (tab (n + 1) f))
    found_more n = found_lower (lowest p (tab n f)) (p (f n)) n ∙ ap found (lower_more p f n)

  pub found_none : (l : List A) → all p l ≡ true → None ≡ found (lowest p l)
  unfolding found
  found_none l e = ap found (sym (lowest_none p l e))
