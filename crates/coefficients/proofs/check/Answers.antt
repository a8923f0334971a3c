-- `coefficients::check` meets its contract: `lowest` is the lowest place of the rows passed. Assumes nothing.
use Prim.Native.Nat.{ℕ}
use mathlib.Core.Path.{◌≡◌, sym, ◌∙◌, ap}
use native.Mathlib.Omega.{arith}
use Rattle.std.specs.Prelude.{Option}
use Rattle.whole.specs.Row.{tab}
use Rattle.rule.specs.declared.Refusal.TheVariants.{Dominance}
use Rattle.rule.specs.Rows.{Row, lowest}
use Rattle.rule.specs.Refusals.{met}
use Rattle.rule.specs.Checks.{each}
use Rattle.rule.specs.Coefficients.{coefficients, dominant}
use Rattle.places.specs.Lowest.{found, lower_place, found_before, found_more}
use Rattle.places.specs.Met.{refusal_at, each_met}
use Rattle.coefficients.specs.Rows.{sized}
use Rattle.coefficients.proofs.check.Goals as goal

-- past all of them
searched : (n x j : ℕ) (h : Row) (place : Option ℕ) → place ≡ found (lowest dominant (tab j (coefficients n x h))) → j ≡ n → refusal_at Dominance place ≡ met (each dominant (tab n (coefficients n x h)) Dominance)
searched n x j h place e k = ap (refusal_at Dominance) (e ∙ ap (λ i. found (lowest dominant (tab i (coefficients n x h)))) k) ∙ each_met dominant (tab n (coefficients n x h)) Dominance

pub loop-j-init : goal.loop-j-init
loop-j-init c = found_before dominant (coefficients c.args.n c.args.x c.args.h.now)

pub dominant-requires : goal.dominant-requires
dominant-requires c = rw c.coefficients.ensures (sized c.args.n c.args.x c.args.h.now c.loop-j.j c.requires c.loop-j-test.true)

pub loop-j-preserved : goal.loop-j-preserved
loop-j-preserved c =
    let l = c.loop-j in
    let test = c.dominant.ensures ∙ ap dominant c.coefficients.ensures in
    c.lower-lowest.ensures ∙ (λ i. lower_place (l.invariant i) (test i) l.j) ∙ found_more dominant (coefficients c.args.n c.args.x c.args.h.now) l.j

pub returns-in-Some : goal.returns-in-Some
returns-in-Some c = ap (refusal_at Dominance) (sym c.in-Some.is) ∙ searched c.args.n c.args.x c.loop-j.j c.args.h.now _ c.loop-j.invariant (omega arith)

pub returns : goal.returns
returns c = ap (refusal_at Dominance) (sym c.in_default.is) ∙ searched c.args.n c.args.x c.loop-j.j c.args.h.now _ c.loop-j.invariant (omega arith)
