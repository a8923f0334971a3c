-- The channel file's layout: what holds of each line of the rule's table holds of every edition. Assumes nothing.
use Rattle.std.specs.Prelude.{ℕ, ◌+◌, ◌*◌, ◌≡◌, refl, Bool, true, false, cond, List, [], ◌∷◌, eqb, length}
use Rattle.rule.specs.Channel.{lengths}
use Rattle.rule.specs.Layout.{counts_in, widths, head_length, starts, offsets}

-- edition 1, and edition 2
abbrev pub six : List ℕ
six = 4 ∷ 4 ∷ 4 ∷ 4 ∷ 8 ∷ 8 ∷ []

abbrev pub seven : List ℕ
seven = 4 ∷ 4 ∷ 4 ∷ 4 ∷ 8 ∷ 8 ∷ 4 ∷ []

each_by : (P : ℕ → List ℕ → Type 0) → P 6 six → P 6 seven → P 0 [] → (a b : Bool) → P (cond a 6 (cond b 6 0)) (cond a six (cond b seven []))
each_by P first second none true b = first
each_by P first second none false true = second
each_by P first second none false false = none

pub of_each : (P : ℕ → List ℕ → Type 0) → P 6 six → P 6 seven → P 0 [] → (edition : ℕ) → P (counts_in edition) (widths edition)
unfolding counts_in widths
of_each P first second none edition = each_by P first second none (eqb edition 1) (eqb edition 2)

-- each row has its offset
pub length-offsets : (edition n : ℕ) → length (offsets edition n) ≡ length (widths edition)
unfolding offsets head_length starts lengths
length-offsets edition n =
    of_each (λ c ws. length (starts (4 * (c + length ws)) ws (lengths n)) ≡ length ws) refl refl refl edition
