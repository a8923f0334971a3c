-- `advance::advance` meets its contract: the corrections that are left, from the trial at hand, are those of the whole step. Assumes nothing.
use native.Mathlib.Omega.{arith}
use mathlib.Core.Path.{sym, ◌∙◌}
use Rattle.rule.specs.Counted.{lent}
use Rattle.places.specs.Met.{from_err}
use Rattle.advance.specs.Advance.{before_of, settles_asks, predicted, predicted_refused, corrected, corrected_refused, corrected_settled, corrected_not, unsettled}
use Rattle.advance.proofs.advance.Goals as goal

pub returns-in_err-step : goal.returns-in_err-step
returns-in_err-step c =
    let a = c.args in
    rw (from_err _ _ c.from_residual.ensures.1) (predicted_refused (lent a.c) a.s.now _ c.in_err-step.ensures)

pub loop-k-init : goal.loop-k-init
loop-k-init c =
    let a = c.args in
    predicted (lent a.c) a.s.now c.requires.least c.requires.most c.requires.narrow c.requires.damping_small c.in_ok-step.field-0 c.in_ok-step.ensures

pub correction-requires : goal.correction-requires
correction-requires c = (c.requires, before_of c.requires.most c.loop-k.invariant.kept)

pub returns-in-Err : goal.returns-in-Err
returns-in-Err c =
    let a = c.args in
    let l = c.loop-k in
    corrected_refused (lent a.c) a.s.now c.requires.least c.requires.most c.requires.narrow c.requires.damping_small l.k (omega (arith, c.loop-k-test.true)) l.step.trial l.invariant c.in-Err.refusal c.in-Err.ensures

pub settled-settled-requires : goal.settled-settled-requires
settled-settled-requires c =
    let a = c.args in
    let l = c.loop-k in
    let new = corrected (lent a.c) a.s.now c.requires.least c.requires.most c.requires.narrow c.requires.damping_small l.k (omega (arith, c.loop-k-test.true)) l.step.trial l.invariant c.in-Ok.new c.in-Ok.ensures in
    settles_asks c.requires.most c.in-Ok.new l.step.trial new.kept l.invariant.kept

pub returns-then-settled : goal.returns-then-settled
returns-then-settled c =
    let a = c.args in
    let l = c.loop-k in
    corrected_settled (lent a.c) a.s.now c.requires.least c.requires.most c.requires.narrow c.requires.damping_small l.k (omega (arith, c.loop-k-test.true)) l.step.trial l.invariant c.in-Ok.new c.in-Ok.ensures (sym c.settled-settled.ensures ∙ c.if-settled.true)

pub loop-k-preserved : goal.loop-k-preserved
loop-k-preserved c =
    let a = c.args in
    let l = c.loop-k in
    corrected_not (lent a.c) a.s.now c.requires.least c.requires.most c.requires.narrow c.requires.damping_small l.k (omega (arith, c.loop-k-test.true)) l.step.trial l.invariant c.in-Ok.new c.in-Ok.ensures (sym c.settled-settled.ensures ∙ c.if-settled.false)

pub returns : goal.returns
returns c =
    let a = c.args in
    unsettled (lent a.c) a.s.now c.loop-k.k c.loop-k.step.trial c.loop-k-test.false c.loop-k.invariant
