-- "Gauges": what is fed to the state of staffs is put to their records, and what is read of it are their records' counts. So a record
-- that is fed in two runs, the second going on from the state that the first left, has the counts of one run. Assumes nothing.
use Rattle.std.specs.Prelude.{ℕ, zero, suc, ◌+◌, ◌-◌, ◌≤◌, ◌<◌, ◌≡◌, refl, Bool, true, false, ◌&&◌, List, [], ◌∷◌, ◌++◌, eqb, leb, ℤ, pos, nat_abs, length}
use Rattle.std.proofs.Common.{sym, ◌∙◌, append_assoc, append-nil, arith, le-leb, lt-ltb, eq-eqb, length-append}
use Rattle.std.proofs.Math.Path.{ap}
use Rattle.std.proofs.lemmas.Bool.{lt-leb}
use Rattle.whole.specs.Ring.{num, ◌⊖◌, ring}
use Rattle.whole.specs.Tests.{and_yes, both}
use Rattle.rule.specs.Rows.{Row, cell, map, all}
use Rattle.rule.specs.declared.Refusal.{Refusal}
use Rattle.rule.specs.declared.Refusal.TheVariants.{BufferLength}
use Rattle.rule.specs.Refusals.{Outcome, done, ◌>>=◌, require}
use Rattle.rows.specs.All.{all_append}
use Rattle.places.specs.Faults.{regroup}
use Rattle.checks.specs.Numbers.{after_done}
use Rattle.gauge.specs.declared.Gauge.{Gauge}
use Rattle.gauge.specs.Waves.{begun, but_last, waves_in, wave_count, largest_height, sum_of_heights}
use Rattle.gauge.specs.Gauge.{none, gauge_of, from, least_height, most_height, most_fed, is_empty, in_ranges, sound, right, met, waves, grown}
use Rattle.gauge.specs.Record.{grown_record}
use Rattle.gauge.specs.Kept.{Kept, kept_record}
use Rattle.gauge.specs.Small.{Small}
use Rattle.gauge.specs.State.{state_length, read_numbers, reading, flat, gauges_of, state_of, formed, stands_in, has_room, feedable, fed, fed_from, readable, readings}
use Rattle.gauge_rows.specs.Bounds.{right_small, fed_empty, fed_gauge}
use Rattle.staffs.specs.Staffs.{Staff, free, staff, gauge_for, state_for, longer, followed, feeds}
use Rattle.staffs.specs.Back.{Each, each_map, length-map, state_long, state_back}

-- a height that a cell of a channel can have
abbrev pub height : ℤ → Bool
height x = from least_height most_height x

-- a staff's cell and record, as they can be
abbrev pub Proper : Staff → Type 0
Proper free = Unit {0}
Proper (staff j r) = (1 ≤ j) × ((j ≤ 256) × ((length r ≤ most_fed) × (all height r ≡ true)))

-- it stands in n cells, and its record has room for k heights more
abbrev pub Takes : ℕ → ℕ → Staff → Type 0
Takes n k free = Unit {0}
Takes n k (staff j r) = (j ≤ n) × (length r + k ≤ most_fed)

right_kept : (b : Bool) (g : Gauge) → is_empty g ≡ b → Kept g → right g ≡ true
unfolding right
right_kept true g e k = rw e
right_kept false g e k = rw e (and_yes (in_ranges g) (sound g) k.ranges k.sounds)

cell_from : (j : ℕ) → 1 ≤ j → j ≤ 256 → from (pos 1) (pos 256) (pos j) ≡ true
unfolding from
cell_from j h l = and_yes _ _ (le-leb 1 j h) (le-leb j 256 l)

pub empty_is : is_empty none ≡ true
unfolding is_empty from
empty_is = refl

empty_right : right none ≡ true
unfolding right
empty_right = rw empty_is

pub right_for : (s : Staff) → Proper s → right (gauge_for s) ≡ true
unfolding gauge_for
right_for free p = empty_right
right_for (staff j r) p =
    let g = gauge_of (pos j) r in
    right_kept (is_empty g) g refl (kept_record (pos j) r (cell_from j p.0 p.1.0) p.1.1.0 p.1.1.1)

stands_for : (n k : ℕ) (s : Staff) → Takes n k s → stands_in n (gauge_for s) ≡ true
unfolding stands_in gauge_for gauge_of
stands_for n k free t = le-leb 0 n (omega arith)
stands_for n k (staff j r) t = le-leb j n t.0

room_for : (n k : ℕ) (s : Staff) → Takes n (suc k) s → has_room (gauge_for s) ≡ true
unfolding has_room gauge_for gauge_of
room_for n k free t = refl
room_for n k (staff j r) t = lt-ltb (length r) most_fed (omega (arith, t.1))

-- a staff is no empty place
and_first : (a b c d e f g h : Bool) → a ≡ false → a && b && c && d && e && f && g && h ≡ false
and_first a b c d e f g h p = rw p refl

no_more : (a : Bool) → a && false ≡ false
no_more true = refl
no_more false = refl

pub not_empty : (j : ℕ) (r : Row) → 1 ≤ j → is_empty (gauge_of (pos j) r) ≡ false
unfolding is_empty gauge_of from
not_empty j r h = and_first _ _ _ _ _ _ _ _ (ap (λ b. leb 0 j && b) (lt-leb j 0 h) ∙ no_more (leb 0 j))

at_cell : (e : Row) (j : ℕ) (r : Row) → grown (gauge_of (pos j) r) (cell e (nat_abs (gauge_of (pos j) r).cell - 1)) ≡ gauge_of (pos j) (r ++ (cell e (j - 1) ∷ []))
unfolding gauge_of
at_cell e j r = grown_record (pos j) r (cell e (j - 1))

fed_for : (e : Row) (s : Staff) → Proper s → fed_from e (gauge_for s) ≡ gauge_for (longer e s)
unfolding gauge_for longer
fed_for e free p = fed_empty e none empty_is
fed_for e (staff j r) p = fed_gauge e (gauge_of (pos j) r) (not_empty j r p.0) ∙ at_cell e j r

pub each_of : (P Q : Staff → Type 0) → ((s : Staff) → P s → Q s) → (ss : List Staff) → Each P ss → Each Q ss
each_of P Q h [] e = tt
each_of P Q h (s ∷ ss) e = (h s e.0, each_of P Q h ss e.1)

pub all-each : {A : Type 0} (p : A → Bool) (xs : List A) → Each (λ x. p x ≡ true) xs → all p xs ≡ true
unfolding all
all-each p [] e = refl
all-each p (x ∷ xs) e = and_yes (p x) (all p xs) e.0 (all-each p xs e.1)

map_same : (f : Gauge → Gauge) (g : Staff → Staff) (ss : List Staff) → Each (λ s. f (gauge_for s) ≡ gauge_for (g s)) ss → map f (map gauge_for ss) ≡ map gauge_for (map g ss)
unfolding map
map_same f g [] e = refl
map_same f g (s ∷ ss) e = (λ i. e.0 i ∷ map_same f g ss e.1 i)

pub let_by : (b : Bool) (r : Refusal) → b ≡ true → require b r ≡ done tt
unfolding require
let_by b r e = rw e

module _ (ss : List Staff) (long : length ss ≡ 8) (proper : Each Proper ss) where
  pub gauges_long : length (map gauge_for ss) ≡ 8
  gauges_long = length-map gauge_for ss ∙ long

  pub gauges_small : Each Small (map gauge_for ss)
  gauges_small = each_map gauge_for Proper Small (λ s p. right_small (gauge_for s) (right_for s p)) ss proper

  pub gauges_for : gauges_of (state_for ss) ≡ map gauge_for ss
  unfolding state_for
  gauges_for = state_back (map gauge_for ss) gauges_long gauges_small

  length_for : length (state_for ss) ≡ state_length
  unfolding state_for
  length_for = state_long (map gauge_for ss) gauges_long gauges_small

  tested : (p : Gauge → Bool) → Each (λ s. p (gauge_for s) ≡ true) ss → all p (gauges_of (state_for ss)) ≡ true
  tested p e = ap (all p) gauges_for ∙ all-each p (map gauge_for ss) (each_map gauge_for (λ s. p (gauge_for s) ≡ true) (λ g. p g ≡ true) (λ s t. t) ss e)

  -- it passes 12 and 14
  pub formed_for : formed (state_for ss) ≡ done tt
  unfolding formed
  formed_for =
      after_done _ tt _ (let_by _ _ (eq-eqb (length (state_for ss)) state_length length_for))
      ∙ let_by _ _ (tested right (each_of Proper (λ s. right (gauge_for s) ≡ true) right_for ss proper))

  -- one height more for each
  module _ (e : Row) (k : ℕ) (takes : Each (Takes (length e) (suc k)) ss) where
    feedable_for : feedable (length e) (state_for ss) ≡ done tt
    unfolding feedable
    feedable_for =
        after_done (formed (state_for ss)) tt _ formed_for
        ∙ after_done _ tt _ (let_by _ _ (tested (stands_in (length e)) (each_of (Takes (length e) (suc k)) _ (stands_for (length e) (suc k)) ss takes)))
        ∙ let_by _ _ (tested has_room (each_of (Takes (length e) (suc k)) _ (room_for (length e) k) ss takes))

    pub fed_staffs : fed e (state_for ss) ≡ done (state_for (map (longer e) ss))
    unfolding fed state_for
    fed_staffs =
        after_done (feedable (length e) (state_for ss)) tt _ feedable_for
        ∙ ap (λ gs. done (state_of gs)) (ap (map (fed_from e)) gauges_for ∙ map_same (fed_from e) (longer e) ss (each_of Proper (λ s. fed_from e (gauge_for s) ≡ gauge_for (longer e s)) (fed_for e) ss proper))

  -- what is read of them
  pub read_staffs : readings (state_for ss) read_numbers ≡ done (flat (map reading (map gauge_for ss)))
  unfolding readings readable
  read_staffs =
      after_done (formed (state_for ss) >>= λ _. require (eqb read_numbers read_numbers) BufferLength) tt _ (after_done (formed (state_for ss)) tt _ formed_for ∙ let_by _ _ refl)
      ∙ ap (λ gs. done (flat (map reading gs))) gauges_for

-- of each its cell, and the counts of its record
length_but_last : (p : Row) (ps : List Row) → length (but_last (p ∷ ps)) ≡ length ps
unfolding but_last
length_but_last p [] = refl
length_but_last p (q ∷ ps) = ap suc (length_but_last q ps)

waves_by : (j : ℕ) (g : Gauge) (ps : List Row) → g.crossings ≡ pos (length ps) → waves g ≡ pos (length (but_last ps))
unfolding waves met but_last
waves_by j g [] e = rw e refl
waves_by j g (p ∷ ps) e =
    let m : suc (length ps) - 1 ≡ length (but_last (p ∷ ps)) = omega (arith, length_but_last p ps) in
    rw (e, lt-ltb 0 (suc (length ps)) (omega arith)) (ring (num (suc (length ps)) ⊖ num 1) (num (length (but_last (p ∷ ps)))) (omega (arith, m)))

pub read_record : (j : ℕ) (r : Row) → reading (gauge_of (pos j) r) ≡ pos j ∷ pos (length r) ∷ pos (length (begun r)) ∷ pos (wave_count r) ∷ largest_height r ∷ sum_of_heights r ∷ []
unfolding reading gauge_of wave_count waves_in
read_record j r = ap (λ w. pos j ∷ pos (length r) ∷ pos (length (begun r)) ∷ w ∷ largest_height r ∷ sum_of_heights r ∷ []) (waves_by j (gauge_of (pos j) r) (begun r) refl)

-- a record stays proper
cell_height : (e : Row) (i : ℕ) → all height e ≡ true → i < length e → height (cell e i) ≡ true
unfolding all
cell_height [] i t h = absurd (omega arith)
cell_height (x ∷ e) zero t h = (both (height x) (all height e) t).0
cell_height (x ∷ e) (suc i) t h = cell_height e i (both (height x) (all height e) t).1 (omega arith)

proper_longer : (e : Row) (k : ℕ) → all height e ≡ true → (s : Staff) → Proper s × Takes (length e) (suc k) s → Proper (longer e s)
unfolding longer all
proper_longer e k t free p = tt
proper_longer e k t (staff j r) p =
    let x = cell e (j - 1) in
    let a = p.0 in
    (a.0, (a.1.0, (omega (arith, length-append r (x ∷ []), p.1.1), all_append height r (x ∷ []) a.1.1.1 (and_yes (height x) true (cell_height e (j - 1) t (omega (arith, a.0, p.1.0))) refl))))

pub takes_longer : (e : Row) (n k : ℕ) (s : Staff) → Takes n (suc k) s → Takes n k (longer e s)
unfolding longer
takes_longer e n k free p = tt
takes_longer e n k (staff j r) p = (p.0, omega (arith, length-append r (cell e (j - 1) ∷ []), p.1))

-- the heights of channels of n cells
abbrev pub Rows : ℕ → List Row → Type 0
Rows n es = Each (λ (e : Row). (length e ≡ n) × (all height e ≡ true)) es

each_both : (P Q : Staff → Type 0) (ss : List Staff) → Each P ss → Each Q ss → Each (λ s. P s × Q s) ss
each_both P Q [] a b = tt
each_both P Q (s ∷ ss) a b = ((a.0, b.0), each_both P Q ss a.1 b.1)

pub map_followed : (e : Row) (es : List Row) (ss : List Staff) → map (followed es) (map (longer e) ss) ≡ map (followed (e ∷ es)) ss
unfolding map followed
map_followed e es [] = refl
map_followed e es (s ∷ ss) = ap (λ t. followed es (longer e s) ∷ t) (map_followed e es ss)

pub map_none : (ss : List Staff) → map (followed []) ss ≡ ss
unfolding map followed
map_none [] = refl
map_none (s ∷ ss) = ap (λ t. s ∷ t) (map_none ss)

-- staffs that are fed stay as they can be
pub fed_proper : (e : Row) (k : ℕ) (ss : List Staff) → all height e ≡ true → Each Proper ss → Each (Takes (length e) (suc k)) ss → Each Proper (map (longer e) ss)
fed_proper e k ss t proper takes =
    each_map (longer e) (λ s. Proper s × Takes (length e) (suc k) s) Proper (proper_longer e k t) ss (each_both Proper (Takes (length e) (suc k)) ss proper takes)

-- one row of heights after the other
pub feeds_staffs : (n : ℕ) (es : List Row) (ss : List Staff) → Rows n es → length ss ≡ 8 → Each Proper ss → Each (Takes n (length es)) ss → feeds es (state_for ss) ≡ done (state_for (map (followed es) ss))
unfolding feeds
feeds_staffs n [] ss rows long proper takes = ap (λ t. done (state_for t)) (sym (map_none ss))
feeds_staffs n (e ∷ es) ss rows long proper takes =
    let is = rows.0.0 in
    let here : Each (Takes (length e) (suc (length es))) ss = rw is takes in
    after_done (fed e (state_for ss)) (state_for (map (longer e) ss)) _ (fed_staffs ss long proper e (length es) here)
    ∙ feeds_staffs n es (map (longer e) ss) rows.1 (length-map (longer e) ss ∙ long)
    (fed_proper e (length es) ss rows.0.1 proper here)
    (each_map (longer e) (Takes n (suc (length es))) (Takes n (length es)) (takes_longer e n (length es)) ss takes)
    ∙ ap (λ t. done (state_for t)) (map_followed e es ss)

-- a staff's record then has the heights at its cell, in their order
pub followed_is : (es : List Row) (j : ℕ) (r : Row) → followed es (staff j r) ≡ staff j (r ++ map (λ e. cell e (j - 1)) es)
unfolding followed longer map
followed_is [] j r = ap (staff j) (sym (append-nil r))
followed_is (e ∷ es) j r = followed_is es j (r ++ (cell e (j - 1) ∷ [])) ∙ ap (staff j) (append_assoc r (cell e (j - 1) ∷ []) _)

-- two runs that go on from each other, of any state
pub two_runs : (es fs : List Row) (s : List ℕ) → feeds (es ++ fs) s ≡ (feeds es s >>= λ t. feeds fs t)
unfolding feeds ◌>>=◌
two_runs [] fs s = refl
two_runs (e ∷ es) fs s = ap (λ (f : List ℕ → Outcome (List ℕ)). fed e s >>= f) (λ i t. two_runs es fs t i) ∙ regroup (fed e s) (λ t. feeds es t) (λ t. feeds fs t)
