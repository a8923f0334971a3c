-- Refusal numbers: three levels of m entries are tested one after the other, the newest first. Assumes nothing.
use Rattle.places.specs.Lowest.{found}
use Rattle.places.specs.Met.{refusal_at, each_met, err_first, ok_then}
use Rattle.std.specs.Option.{option_or}
use Rattle.std.specs.Prelude.{Option, None, Some, Result, Ok, Err, ℕ, ◌+◌, ◌*◌, ◌≡◌, Bool, true, List, ◌++◌, length, take, drop}
use Rattle.std.proofs.Common.{arith, ◌∙◌, drop-drop, take-add, take_all}
use Rattle.std.proofs.Math.Path.{sym, ap}
use Rattle.rule.specs.Refusals.{Fault}
use Rattle.rule.specs.Rows.{all, lowest}
use Rattle.rule.specs.Channel.{level_of}
use Rattle.rule.specs.declared.Refusal.{Refusal}
use Rattle.rule.specs.Refusals.{Outcome, ◌>>=◌, fault_of, met}
use Rattle.rule.specs.Checks.{each, each_level}
use Rattle.rows.specs.All.{all_append, all_take, all_drop}
use Rattle.places.specs.Faults.{or_fault, Numbered, each_then, regroup}

-- the refusal of this number in the newest level that has a place at fault, or what follows
abbrev pub or_level : {A : Type 0} → ℕ → ℕ → (A → Bool) → List A → Fault → Fault
or_level k m p levels rest =
    or_fault k (lowest p (level_of m levels 0))
    (or_fault k (lowest p (level_of m levels 1)) (or_fault k (lowest p (level_of m levels 2)) rest))

-- the lowest place in the newest level that has one
abbrev pub lowest_level : {A : Type 0} → ℕ → (A → Bool) → List A → Option ℕ
lowest_level m p levels =
    option_or (option_or (found (lowest p (level_of m levels 0))) (found (lowest p (level_of m levels 1)))) (found (lowest p (level_of m levels 2)))

-- as the rule's chain has them
module _ {A B : Type 0} (m : ℕ) (p : A → Bool) (levels : List A) (r : ℕ → Refusal) (f : Unit {0} → Outcome B) where
  abbrev after : ℕ → (Unit {0} → Outcome B) → Unit {0} → Outcome B
  after i g _ = each p (level_of m levels i) r >>= g

  pub in_turn : (each_level m p levels r >>= f) ≡ after 0 (after 1 (after 2 f)) tt
  unfolding each_level
  in_turn =
      sym (regroup (each p (level_of m levels 0) r) (λ _. each p (level_of m levels 1) r >>= λ _. each p (level_of m levels 2) r) f)
      ∙ ap (λ (g : Unit {0} → Outcome B). each p (level_of m levels 0) r >>= g) (λ i _. sym (regroup (each p (level_of m levels 1) r) (λ _. each p (level_of m levels 2) r) f) i)

  pub level_then : (k : ℕ) → Numbered k r → (rest : Fault) → rest ≡ fault_of (f tt) → or_level k m p levels rest ≡ fault_of (each_level m p levels r >>= f)
  level_then k is rest q =
      each_then p (level_of m levels 0) k r is (after 1 (after 2 f)) _
      (each_then p (level_of m levels 1) k r is (after 2 f) _ (each_then p (level_of m levels 2) k r is f rest q))
      ∙ ap fault_of (sym in_turn)

-- two tests one after the other, by the places that they find
two_met : (m m' : Outcome (Unit {0})) (r : ℕ → Refusal) (a b : Option ℕ) → refusal_at r a ≡ met m → refusal_at r b ≡ met m' → refusal_at r (option_or a b) ≡ met (m >>= λ _. m')
two_met m m' r None b e f = f ∙ ok_then m _ tt e
two_met m m' r (Some j) b e f = err_first m _ (r j) e

-- the refusal of the lowest place in the newest level that has one
pub level_met : {A : Type 0} (m : ℕ) (p : A → Bool) (levels : List A) (r : ℕ → Refusal) → refusal_at r (lowest_level m p levels) ≡ met (each_level m p levels r)
unfolding each_level
level_met m p levels r =
    two_met _ _ r _ _
    (two_met _ _ r _ _ (each_met p (level_of m levels 0) r) (each_met p (level_of m levels 1) r))
    (each_met p (level_of m levels 2) r)
    ∙ ap met (sym (regroup (each p (level_of m levels 0) r) (λ _. each p (level_of m levels 1) r) (λ _. each p (level_of m levels 2) r)))

-- the levels are all entries
module _ {A : Type 0} (p : A → Bool) where
  -- a test of every entry passes in every level
  pub level_all : (m i : ℕ) (l : List A) → all p l ≡ true → all p (level_of m l i) ≡ true
  level_all m i l e = all_take p m (drop (i * m) l) (all_drop p (i * m) l e)

  levels_append : (m : ℕ) (l : List A) → length l ≡ 3 * m → level_of m l 0 ++ (level_of m l 1 ++ level_of m l 2) ≡ l
  levels_append m l e =
      let none : 0 * m ≡ 0 = omega arith in
      let one : 1 * m ≡ m = omega arith in
      let two : m + m ≡ 2 * m = omega arith in
      (λ i. take m (drop (none i) l) ++ (take m (drop (one i) l) ++ take m (drop (2 * m) l)))
      ∙ ap (λ r. take m l ++ (take m (drop m l) ++ take m r)) (sym (drop-drop m m l ∙ ap (λ k. drop k l) two))
      ∙ ap (λ r. take m l ++ r) (sym (take-add m m (drop m l)))
      ∙ sym (take-add m (m + m) l)
      ∙ take_all (m + (m + m)) l (omega (arith, e))

  -- and the other way round
  pub levels_all : (m : ℕ) (l : List A) → length l ≡ 3 * m → all p (level_of m l 0) ≡ true → all p (level_of m l 1) ≡ true → all p (level_of m l 2) ≡ true → all p l ≡ true
  levels_all m l e a b c =
      ap (all p) (sym (levels_append m l e))
      ∙ all_append p (level_of m l 0) (level_of m l 1 ++ level_of m l 2) a (all_append p (level_of m l 1) (level_of m l 2) b c)
