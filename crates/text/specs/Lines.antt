-- The channel file: the printed line by its parts, and how long it is. Assumes nothing.
use Rattle.std.specs.Prelude.{ℕ, ◌+◌, ◌*◌, ◌^◌, ◌≤◌, ◌<◌, ◌≡◌, refl, Bool, true, false, cond, List, [], ◌∷◌, ◌++◌, eqb, nat_abs, length}
use Rattle.std.proofs.Common.{arith, eq-eqb, ne_eqb, ap, ◌∙◌, append_assoc}
use Rattle.std.proofs.Math.ListN.{length-append}
use Rattle.whole.specs.Row.{Within}
use Rattle.rule.specs.Rows.{Row, sum}
use Rattle.rule.specs.Channel.{Channel}
use Rattle.rule.specs.Checks.{is_complete}
use Rattle.rule.specs.declared.Refusal.{Refusal}
use Rattle.rule.specs.Refusals.{refused, number}
use Rattle.rule.specs.Line.{decimal, signed_decimal, channel_line, line}
use Rattle.rule.specs.Ranges.{most_cells, most_height}
use Rattle.text.specs.Decimal.{length-decimal, length-signed}
use Rattle.text.specs.Sums.{sum-within}

-- a count, and a byte after it
unfoldable pub count_text : ℕ → ℕ → List ℕ
count_text n b = decimal n ++ (b ∷ [])

unfoldable pub counts_text : ℕ → ℕ → ℕ → List ℕ
counts_text n accepted wanted = count_text n 32 ++ (count_text accepted 32 ++ count_text wanted 32)

-- "done" and "open", and the two with a space after them
abbrev done_text : List ℕ
done_text = 100 ∷ 111 ∷ 110 ∷ 101 ∷ []

abbrev open_text : List ℕ
open_text = 111 ∷ 112 ∷ 101 ∷ 110 ∷ []

abbrev done_word : List ℕ
done_word = done_text ++ (32 ∷ [])

abbrev open_word : List ℕ
open_word = open_text ++ (32 ∷ [])

unfoldable pub state_text : ℕ → ℕ → List ℕ
state_text accepted wanted = cond (eqb accepted wanted) done_word open_word

unfoldable pub sum_text : Row → List ℕ
sum_text e = signed_decimal (sum e) ++ (10 ∷ [])

-- the line of a channel, from what it says of it
unfoldable pub line_of : ℕ → ℕ → ℕ → Row → List ℕ
line_of n accepted wanted e = counts_text n accepted wanted ++ (state_text accepted wanted ++ sum_text e)

unfoldable pub refused_of : ℕ → List ℕ
refused_of number = (114 ∷ 101 ∷ 102 ∷ 117 ∷ 115 ∷ 101 ∷ 100 ∷ 32 ∷ []) ++ count_text number 10

-- what a channel's line says, of a size as a file may hold it
pub record Printable (n accepted wanted : ℕ) (e : Row) : Type 0 where
  pub cells : n ≤ most_cells
  pub accepted_held : accepted < 256 ^ 4
  pub wanted_held : wanted < 256 ^ 4
  pub e_long : length e ≤ most_cells
  pub e_small : Within most_height (length e) e

-- how long they are
pub length_count : (n b : ℕ) → length (count_text n b) ≡ length (decimal n) + 1
unfolding count_text
length_count n b = length-append (decimal n) (b ∷ [])

pub length-counts : (n accepted wanted : ℕ) → length (counts_text n accepted wanted) ≡ length (count_text n 32) + (length (count_text accepted 32) + length (count_text wanted 32))
unfolding counts_text
length-counts n accepted wanted = simp length-append

pub counts_short : {n accepted wanted : ℕ} {e : Row} → Printable n accepted wanted e → length (counts_text n accepted wanted) ≤ 26
counts_short {n} {accepted} {wanted} p =
    omega (
      arith,
      length-counts n accepted wanted,
      length_count n 32,
      length_count accepted 32,
      length_count wanted 32,
      length-decimal 2 n (omega (arith, p.cells)),
      length-decimal 9 accepted (omega (arith, p.accepted_held)),
      length-decimal 9 wanted (omega (arith, p.wanted_held)),
    )

length-cond : (b : Bool) (x y : List ℕ) → length x ≡ 5 → length y ≡ 5 → length (cond b x y) ≡ 5
length-cond true x y h l = h
length-cond false x y h l = l

pub length_state : (accepted wanted : ℕ) → length (state_text accepted wanted) ≡ 5
unfolding state_text
length_state accepted wanted = length-cond (eqb accepted wanted) done_word open_word refl refl

-- heights as a file may hold them: their sum has at most ten digits
module _ (e : Row) (w : Within most_height (length e) e) (l : length e ≤ most_cells) where
  sum_most : nat_abs (sum e) ≤ most_cells * most_height
  sum_most = sum-within most_height most_cells e w l

  pub digits_short : length (signed_decimal (sum e)) ≤ 11
  digits_short = length-signed 9 (sum e) (omega (arith, sum_most))

  sum_short : length (sum_text e) ≤ 12
  unfolding sum_text
  sum_short = omega (arith, digits_short, length-append (signed_decimal (sum e)) (10 ∷ []))

pub line_short : {n accepted wanted : ℕ} {e : Row} → Printable n accepted wanted e → length (line_of n accepted wanted e) ≤ 64
unfolding line_of
line_short {n} {accepted} {wanted} {e} p =
    omega (
      arith,
      length-append (counts_text n accepted wanted) (state_text accepted wanted ++ sum_text e),
      length-append (state_text accepted wanted) (sum_text e),
      counts_short p,
      length_state accepted wanted,
      sum_short e p.e_small p.e_long,
    )

pub refused_short : (k : ℕ) → k ≤ 38 → length (refused_of k) ≤ 64
unfolding refused_of
refused_short k h = omega (arith, length_count k 10, length-decimal 1 k (omega arith))

-- the two words
pub is_done : (accepted wanted : ℕ) → accepted ≡ wanted → done_word ≡ state_text accepted wanted
unfolding state_text
is_done accepted wanted e = rw (eq-eqb accepted wanted e)

pub is_open : (accepted wanted : ℕ) → ¬ (accepted ≡ wanted) → open_word ≡ state_text accepted wanted
unfolding state_text
is_open accepted wanted e = rw (ne_eqb accepted wanted e)

-- these are the rule's lines
counts_join : (a b c s t : List ℕ) → ((a ++ s) ++ ((b ++ s) ++ (c ++ s))) ++ t ≡ a ++ (s ++ (b ++ (s ++ (c ++ (s ++ t)))))
counts_join a b c s t = simp append_assoc

state_join : (b : Bool) (t : List ℕ) → cond b done_word open_word ++ t ≡ cond b done_text open_text ++ ((32 ∷ []) ++ t)
state_join true t = refl
state_join false t = refl

pub channel_line_lem : (c : Channel) → line_of c.N c.accepted c.wanted c.e ≡ channel_line c
unfolding line_of counts_text count_text state_text sum_text channel_line is_complete
channel_line_lem c =
    let s : List ℕ = 32 ∷ [] in
    let t : List ℕ = signed_decimal (sum c.e) ++ (10 ∷ []) in
    ap (λ x. ((decimal c.N ++ s) ++ ((decimal c.accepted ++ s) ++ (decimal c.wanted ++ s))) ++ x) (state_join (eqb c.accepted c.wanted) t)
    ∙ counts_join (decimal c.N) (decimal c.accepted) (decimal c.wanted) s (cond (eqb c.accepted c.wanted) done_text open_text ++ (s ++ t))

pub refused_line : (r : Refusal) (k : ℕ) → refused_of (number r) ≡ line (refused r k)
unfolding refused_of count_text line
refused_line r k = refl
