-- Refusal numbers, 37: the rows that a call pours, none or one. Assumes nothing.
use Rattle.std.specs.Borrow.{Bor}
use Rattle.std.specs.Prelude.{◌≡◌, refl, Bool, true, false, List, [], ◌∷◌, Option, None, Some, Ok, ℤ}
use Rattle.std.proofs.Common.{◌∙◌}
use Rattle.rule.specs.declared.Refusal.TheVariants.{PouredValue}
use Rattle.rule.specs.Rows.{Row, lowest}
use Rattle.rule.specs.Ranges.{within, most_poured}
use Rattle.rule.specs.Refusals.{Outcome, refused, done, met, ◌>>=◌}
use Rattle.rule.specs.Checks.{each, pourable}
use Rattle.places.specs.Lowest.{found}
use Rattle.places.specs.Met.{refusal_at, each_met}

abbrev pub poured_rows : Bool → Row → List Row
poured_rows true s = s ∷ []
poured_rows false s = []

-- as they are lent
abbrev pub lent_rows : Option (Bor (List ℤ)) → List Row
lent_rows (Some s) = s.now ∷ []
lent_rows None = []

-- a check that nothing follows
alone : (m : Outcome (Unit {0})) → met m ≡ met (m >>= λ _. done tt)
unfolding ◌>>=◌
alone (refused r k) = refl
alone (done a) = refl

pub pours_met : (s : Bor (List ℤ)) → refusal_at PouredValue (found (lowest (within most_poured) s.now)) ≡ met (pourable (s.now ∷ []))
unfolding pourable
pours_met s = each_met (within most_poured) s.now PouredValue ∙ alone (each (within most_poured) s.now PouredValue)

pub pours_none : Ok tt ≡ met (pourable [])
unfolding pourable met
pours_none = refl
