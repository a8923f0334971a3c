-- "Gauges": the running numbers are those of the whole record. One height more makes of the gauge that was fed r the gauge that was
-- fed r and that height; a record fed in two parts is that fed in one. Assumes nothing.
use Rattle.std.specs.Prelude.{ℕ, suc, ◌+◌, ◌≡◌, Bool, true, false, cond, length, ℤ, ◌+ℤ◌}
use Rattle.std.proofs.Common.{arith, ◌∙◌, length-append}
use borrow.Author.Tests.{lt-ltb}
use Rattle.std.proofs.Math.Path.{refl, sym, ap}
use mathlib.Core.List.{List, [], ◌∷◌, ◌++◌, append_assoc, append-nil}
use Rattle.std.proofs.Math.IntN.{pos, +ℤ_assoc, +ℤ_idl, +ℤ_idr}
use Rattle.rule.specs.Rows.{Row, map, sum}
use Rattle.gauge.specs.declared.Gauge.{Gauge}
use Rattle.gauge.specs.Waves.{upward, Cut, cut_before, cut_after, begun, but_last, waves_in, higher, lower, highest_from, lowest_from, highest, lowest, height_of, heights, largest_height, sum_of_heights}
use Rattle.gauge.specs.Gauge.{last_of, last_piece, since, gauge_of, met, wave_of, ended, crossed, widened, passed, grown, fed_all}

-- a height more at the end: it begins a piece, or is put to the last one
abbrev added : ℤ → Cut → Cut
added x c = record { early = c.early; begun = c.begun ++ ((x ∷ []) ∷ []) }

abbrev extend : ℤ → List Row → List Row
extend x [] = []
extend x (p ∷ []) = (p ++ (x ∷ [])) ∷ []
extend x (p ∷ q ∷ ps) = p ∷ extend x (q ∷ ps)

abbrev earlier : ℤ → Row → List Row → Row
earlier x p [] = p ++ (x ∷ [])
earlier x p (q ∷ ps) = p

abbrev put : ℤ → Cut → Cut
put x c = record { early = earlier x c.early c.begun; begun = extend x c.begun }

abbrev cut : Row → List Row → Cut
cut early begun = record { early = early; begun = begun }

-- that at the front, and that at the end
front_end : (w u : Bool) (y x : ℤ) (early : Row) (ps : List Row) → cut_before w y (cond u (added x (cut early ps)) (put x (cut early ps))) ≡ cond u (added x (cut_before w y (cut early ps))) (put x (cut_before w y (cut early ps)))
unfolding cut_before
front_end true true y x early ps = refl
front_end true false y x early [] = refl
front_end true false y x early (p ∷ ps) = refl
front_end false true y x early ps = refl
front_end false false y x early [] = refl
front_end false false y x early (p ∷ ps) = refl

first_cut : (u : Bool) (x : ℤ) → cut_before u x (cut [] []) ≡ cond u (added x (cut [] [])) (put x (cut [] []))
unfolding cut_before
first_cut true x = refl
first_cut false x = refl

cut_snoc : (before : ℤ) (r : Row) (x : ℤ) → cut_after before (r ++ (x ∷ [])) ≡ cond (upward (last_of before r) x) (added x (cut_after before r)) (put x (cut_after before r))
unfolding cut_after last_of
cut_snoc before [] x = first_cut (upward before x) x
cut_snoc before (y ∷ r) x =
    let c = cut_after y r in
    ap (cut_before (upward before y) y) (cut_snoc y r x)
    ∙ front_end (upward before y) (upward (last_of y r) x) y x c.early c.begun

begun_of : (u : Bool) (x : ℤ) (c : Cut) → (cond u (added x c) (put x c)).begun ≡ cond u (c.begun ++ ((x ∷ []) ∷ [])) (extend x c.begun)
begun_of true x c = refl
begun_of false x c = refl

begun_snoc : (r : Row) (x : ℤ) → begun (r ++ (x ∷ [])) ≡ cond (upward (last_of (pos 0) r) x) (begun r ++ ((x ∷ []) ∷ [])) (extend x (begun r))
unfolding begun
begun_snoc r x = ap (λ (c : Cut). c.begun) (cut_snoc (pos 0) r x) ∙ begun_of (upward (last_of (pos 0) r) x) x (cut_after (pos 0) r)

last_snoc : (before : ℤ) (r : Row) (x : ℤ) → last_of before (r ++ (x ∷ [])) ≡ x
unfolding last_of
last_snoc before [] x = refl
last_snoc before (y ∷ r) x = last_snoc y r x

-- the last piece of a list, and the rest
but_last_snoc : (ps : List Row) (p : Row) → but_last (ps ++ (p ∷ [])) ≡ ps
unfolding but_last
but_last_snoc [] p = refl
but_last_snoc (q ∷ []) p = refl
but_last_snoc (q ∷ q' ∷ ps) p = ap (λ l. q ∷ l) (but_last_snoc (q' ∷ ps) p)

last_piece_snoc : (ps : List Row) (p : Row) → last_piece (ps ++ (p ∷ [])) ≡ p
unfolding last_piece
last_piece_snoc [] p = refl
last_piece_snoc (q ∷ []) p = refl
last_piece_snoc (q ∷ q' ∷ ps) p = last_piece_snoc (q' ∷ ps) p

but_last_extend : (x : ℤ) (ps : List Row) → but_last (extend x ps) ≡ but_last ps
unfolding but_last
but_last_extend x [] = refl
but_last_extend x (p ∷ []) = refl
but_last_extend x (p ∷ q ∷ []) = refl
but_last_extend x (p ∷ q ∷ q' ∷ ps) = ap (λ l. p ∷ l) (but_last_extend x (q ∷ q' ∷ ps))

last_piece_extend : (x : ℤ) (p : Row) (ps : List Row) → last_piece (extend x (p ∷ ps)) ≡ last_piece (p ∷ ps) ++ (x ∷ [])
unfolding last_piece
last_piece_extend x p [] = refl
last_piece_extend x p (q ∷ []) = refl
last_piece_extend x p (q ∷ q' ∷ ps) = last_piece_extend x q (q' ∷ ps)

length_extend : (x : ℤ) (ps : List Row) → length (extend x ps) ≡ length ps
length_extend x [] = refl
length_extend x (p ∷ []) = refl
length_extend x (p ∷ q ∷ ps) = ap suc (length_extend x (q ∷ ps))

split_last : (p : Row) (ps : List Row) → p ∷ ps ≡ but_last (p ∷ ps) ++ (last_piece (p ∷ ps) ∷ [])
unfolding but_last last_piece
split_last p [] = refl
split_last p (q ∷ ps) = ap (λ l. p ∷ l) (split_last q ps)

-- every piece begins with its crossing
abbrev Some : Row → Type 0
Some [] = ⊥
Some (x ∷ r) = Unit {0}

abbrev Each : List Row → Type 0
Each [] = Unit {0}
Each (p ∷ ps) = Some p × Each ps

each_before : (w : Bool) (y : ℤ) (c : Cut) → Each c.begun → Each (cut_before w y c).begun
unfolding cut_before
each_before true y c h = (tt, h)
each_before false y c h = h

each_begun : (before : ℤ) (r : Row) → Each (cut_after before r).begun
unfolding cut_after
each_begun before [] = tt
each_begun before (x ∷ r) = each_before (upward before x) x (cut_after x r) (each_begun x r)

some_last : (p : Row) (ps : List Row) → Each (p ∷ ps) → Some (last_piece (p ∷ ps))
unfolding last_piece
some_last p [] h = h.0
some_last p (q ∷ ps) h = some_last q ps h.1

-- highest, lowest and sum with an entry more
highest_from_snoc : (top : ℤ) (r : Row) (x : ℤ) → highest_from top (r ++ (x ∷ [])) ≡ higher (highest_from top r) x
unfolding highest_from
highest_from_snoc top [] x = refl
highest_from_snoc top (y ∷ r) x = highest_from_snoc (higher top y) r x

lowest_from_snoc : (low : ℤ) (r : Row) (x : ℤ) → lowest_from low (r ++ (x ∷ [])) ≡ lower (lowest_from low r) x
unfolding lowest_from
lowest_from_snoc low [] x = refl
lowest_from_snoc low (y ∷ r) x = lowest_from_snoc (lower low y) r x

highest_snoc : (r : Row) (x : ℤ) → Some r → highest (r ++ (x ∷ [])) ≡ higher (highest r) x
unfolding highest
highest_snoc [] x h = absurd h
highest_snoc (y ∷ r) x h = highest_from_snoc y r x

lowest_snoc : (r : Row) (x : ℤ) → Some r → lowest (r ++ (x ∷ [])) ≡ lower (lowest r) x
unfolding lowest
lowest_snoc [] x h = absurd h
lowest_snoc (y ∷ r) x h = lowest_from_snoc y r x

highest_one : (x : ℤ) → highest (x ∷ []) ≡ x
unfolding highest highest_from
highest_one x = refl

lowest_one : (x : ℤ) → lowest (x ∷ []) ≡ x
unfolding lowest lowest_from
lowest_one x = refl

map_snoc : (ps : List Row) (p : Row) → map height_of (ps ++ (p ∷ [])) ≡ map height_of ps ++ (height_of p ∷ [])
unfolding map
map_snoc [] p = refl
map_snoc (q ∷ ps) p = ap (λ l. height_of q ∷ l) (map_snoc ps p)

sum_snoc : (r : Row) (x : ℤ) → sum (r ++ (x ∷ [])) ≡ sum r +ℤ x
unfolding sum
sum_snoc [] x = +ℤ_idr x ∙ sym (+ℤ_idl x)
sum_snoc (y ∷ r) x = ap (λ z. y +ℤ z) (sum_snoc r x) ∙ sym (+ℤ_assoc y (sum r) x)

-- the gauge, by the pieces alone
abbrev by_pieces : ℤ → ℕ → ℤ → List Row → Gauge
by_pieces cell n last ps =
    record {
      cell = cell;
      fed = pos n;
      last = last;
      crossings = pos (length ps);
      highest = highest (last_piece ps);
      lowest = lowest (last_piece ps);
      largest = highest_from (pos 0) (map height_of (but_last ps));
      sum = sum (map height_of (but_last ps));
    }

of_record : (cell : ℤ) (r : Row) → gauge_of cell r ≡ by_pieces cell (length r) (last_of (pos 0) r) (begun r)
unfolding gauge_of since largest_height sum_of_heights heights waves_in
of_record cell r = refl

module _ (cell : ℤ) (n : ℕ) (last x : ℤ) where
  met_some : (p : Row) (ps : List Row) → met (by_pieces cell n last (p ∷ ps)) ≡ true
  unfolding met
  met_some p ps = lt-ltb 0 (suc (length ps)) (omega arith)

  ended_some : (p : Row) (ps : List Row) → ended (by_pieces cell n last (p ∷ ps)) ≡ height_of (last_piece (p ∷ ps))
  unfolding ended wave_of height_of
  ended_some p ps = rw (lt-ltb 0 (suc (length ps)) (omega arith)) refl

  first_crossing : crossed (by_pieces cell n last []) x ≡ by_pieces cell (n + 1) x ((x ∷ []) ∷ [])
  unfolding crossed ended wave_of but_last last_piece map sum highest_from highest lowest lowest_from higher
  first_crossing = refl

  -- a crossing: the piece before is a whole wave
  crossed_pieces : (ps : List Row) → crossed (by_pieces cell n last ps) x ≡ by_pieces cell (n + 1) x (ps ++ ((x ∷ []) ∷ []))
  unfolding crossed
  crossed_pieces [] = first_crossing
  crossed_pieces (p ∷ ps) =
      let l : List Row = p ∷ ps in
      let w = last_piece l in
      let hs : map height_of l ≡ map height_of (but_last l) ++ (height_of w ∷ []) = ap (map height_of) (split_last p ps) ∙ map_snoc (but_last l) w in
      let b : map height_of l ≡ map height_of (but_last (l ++ ((x ∷ []) ∷ []))) = ap (map height_of) (sym (but_last_snoc l (x ∷ []))) in
      let e : x ∷ [] ≡ last_piece (l ++ ((x ∷ []) ∷ [])) = sym (last_piece_snoc l (x ∷ [])) in
      (λ i. record {
        cell = cell;
        fed = pos (n + 1);
        last = x;
        crossings = pos (sym (length-append l ((x ∷ []) ∷ [])) i);
        highest = (sym (highest_one x) ∙ ap highest e) i;
        lowest = (sym (lowest_one x) ∙ ap lowest e) i;
        largest = (ap (higher (highest_from (pos 0) (map height_of (but_last l)))) (ended_some p ps) ∙ sym (highest_from_snoc (pos 0) (map height_of (but_last l)) (height_of w)) ∙ ap (highest_from (pos 0)) (sym hs ∙ b)) i;
        sum = (ap (λ z. sum (map height_of (but_last l)) +ℤ z) (ended_some p ps) ∙ sym (sum_snoc (map height_of (but_last l)) (height_of w)) ∙ ap sum (sym hs ∙ b)) i;
      })

  -- none
  widened_pieces : (p : Row) (ps : List Row) → Each (p ∷ ps) → widened (by_pieces cell n last (p ∷ ps)) x ≡ by_pieces cell (n + 1) x (extend x (p ∷ ps))
  unfolding widened
  widened_pieces p ps h =
      let l : List Row = p ∷ ps in
      let s = some_last p ps h in
      let e = last_piece_extend x p ps in
      let b = but_last_extend x l in
      (λ i. record {
        cell = cell;
        fed = pos (n + 1);
        last = x;
        crossings = pos (sym (length_extend x l) i);
        highest = (sym (highest_snoc (last_piece l) x s) ∙ ap highest (sym e)) i;
        lowest = (sym (lowest_snoc (last_piece l) x s) ∙ ap lowest (sym e)) i;
        largest = highest_from (pos 0) (map height_of (sym b i));
        sum = sum (map height_of (sym b i));
      })

  -- before the first crossing
  passed_none : grown (by_pieces cell n last []) x ≡ cond (upward last x) (crossed (by_pieces cell n last []) x) (by_pieces cell (n + 1) x [])
  unfolding grown met passed
  passed_none = refl

  grown_some : (p : Row) (ps : List Row) → grown (by_pieces cell n last (p ∷ ps)) x ≡ cond (upward last x) (crossed (by_pieces cell n last (p ∷ ps)) x) (widened (by_pieces cell n last (p ∷ ps)) x)
  unfolding grown
  grown_some p ps = rw (met_some p ps) refl

  by_test : (u : Bool) (a b c d : Gauge) → a ≡ c → b ≡ d → cond u a b ≡ cond u c d
  by_test true a b c d p q = p
  by_test false a b c d p q = q

  grown_pieces : (ps : List Row) → Each ps → grown (by_pieces cell n last ps) x ≡ cond (upward last x) (by_pieces cell (n + 1) x (ps ++ ((x ∷ []) ∷ []))) (by_pieces cell (n + 1) x (extend x ps))
  grown_pieces [] h = passed_none ∙ by_test (upward last x) _ _ _ _ (crossed_pieces []) refl
  grown_pieces (p ∷ ps) h = grown_some p ps ∙ by_test (upward last x) _ _ _ _ (crossed_pieces (p ∷ ps)) (widened_pieces p ps h)

under_test : (u : Bool) (cell : ℤ) (n : ℕ) (x : ℤ) (ps qs : List Row) → cond u (by_pieces cell n x ps) (by_pieces cell n x qs) ≡ by_pieces cell n x (cond u ps qs)
under_test true cell n x ps qs = refl
under_test false cell n x ps qs = refl

-- one height more
pub grown_record : (cell : ℤ) (r : Row) (x : ℤ) → grown (gauge_of cell r) x ≡ gauge_of cell (r ++ (x ∷ []))
unfolding begun
grown_record cell r x =
    let last = last_of (pos 0) r in
    let u = upward last x in
    ap (λ (g : Gauge). grown g x) (of_record cell r)
    ∙ grown_pieces cell (length r) last x (begun r) (each_begun (pos 0) r)
    ∙ under_test u cell (length r + 1) x _ _
    ∙ (λ i. by_pieces cell (sym (length-append r (x ∷ [])) i) (sym (last_snoc (pos 0) r x) i) (sym (begun_snoc r x) i))
    ∙ sym (of_record cell (r ++ (x ∷ [])))

-- a record more: the counts of one fed in two parts that go on from each other are those of the whole
pub fed_record : (cell : ℤ) (r more : Row) → fed_all (gauge_of cell r) more ≡ gauge_of cell (r ++ more)
unfolding fed_all
fed_record cell r [] = ap (gauge_of cell) (sym (append-nil r))
fed_record cell r (x ∷ more) =
    ap (λ g. fed_all g more) (grown_record cell r x)
    ∙ fed_record cell (r ++ (x ∷ [])) more
    ∙ ap (gauge_of cell) (append_assoc r (x ∷ []) more)
