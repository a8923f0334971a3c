-- `solve::backward` meets its contract: at each turn the u of row j, stored with those after it. Assumes nothing.
use native.Mathlib.Omega.{arith}
use Rattle.places.specs.Met.{from_err}
use Rattle.solve.specs.Sweeps.{backed_none, backed_last, backed_stops, backed_up, backed_ends}
use Rattle.solve.proofs.backward.Goals as goal

pub returns-in_err-u : goal.returns-in_err-u
returns-in_err-u c =
    let s = c.args in
    rw (from_err _ _ c.from_residual.ensures.1) (backed_none s.n s.ratios.now s.sides.now s.answers.now _ (omega arith) c.requires.answers_long c.in_err-u.ensures)

pub loop-j-init : goal.loop-j-init
loop-j-init c =
    let s = c.args in
    backed_last s.n s.ratios.now s.sides.now c.in_ok-u.u s.answers.now (omega arith) c.requires.most c.requires.answers_long c.in_ok-u.ensures

pub returns-in_err-u-2 : goal.returns-in_err-u-2
returns-in_err-u-2 c =
    let s = c.args in
    rw (from_err _ _ c.from_residual-in_err-u-2.ensures.1) (backed_stops s.n s.ratios.now s.sides.now c.loop-j.invariant c.loop-j-test.true (omega arith) c.above.ensures c.in_err-u-2.ensures)

pub loop-j-preserved : goal.loop-j-preserved
loop-j-preserved c =
    let s = c.args in
    backed_up s.n s.ratios.now s.sides.now c.loop-j.invariant c.loop-j-test.true (omega arith) c.above.ensures c.requires.most c.in_ok-u-2.ensures

pub returns : goal.returns
returns c = let s = c.args in backed_ends s.n s.ratios.now s.sides.now c.loop-j.invariant c.loop-j-test.false
