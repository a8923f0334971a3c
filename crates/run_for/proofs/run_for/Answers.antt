-- `run_for::run_for` meets its contract: what is left of the run, from the rows at hand, is the whole run. Assumes nothing.
use mathlib.Core.Path.{◌≡◌, sym, ◌∙◌, ap, subst}
use native.Mathlib.Omega.{arith}
use Prim.Native.Nat.{◌+◌, ◌-◌}
use Rattle.rule.specs.Counted.{counted}
use Rattle.rule.specs.Calls.{step_call, ended}
use Rattle.answers.specs.Stages.{leaves}
use Rattle.answers.specs.Ends.{ending_of}
use Rattle.run_for.specs.Runs.{Running, nothing_poured, now, min_fewer, run_early, run_starts, run_room, run_stops, run_on_lem, run_ends}
use Rattle.run_for.proofs.run_for.Goals as goal

pub returns-in-Err : goal.returns-in-Err
returns-in-Err c =
    let s = c.args in
    let lent = counted s.c s.h.now s.e.now s.u.now s.v.now s.q.now s.f.now s.damping.now in
    ap (λ a. leaves a lent) c.refused.ensures ∙ run_early s.most lent _ c.in-Err.ensures

pub overflow_sub-c : goal.overflow_sub-c
overflow_sub-c c =
    let s = c.args in
    run_room (counted s.c s.h.now s.e.now s.u.now s.v.now s.q.now s.f.now s.damping.now) c.in_default.ensures

pub loop-count-init : goal.loop-count-init
loop-count-init c =
    let s = c.args in
    let lent = counted s.c s.h.now s.e.now s.u.now s.v.now s.q.now s.f.now s.damping.now in
    let steps = c.min-steps.ensures ∙ min_fewer s.most (s.c.wanted - s.c.accepted) in
    let all : c.min-steps.result ≡ c.min-steps.result - 0 = omega arith in
    subst (Running s.most lent s.c.accepted s.e.now s.u.now s.v.now s.q.now s.f.now 0) (sym steps ∙ all) (run_starts s.most lent c.in_default.ensures)

pub returns-then-r-ne0 : goal.returns-then-r-ne0
returns-then-r-ne0 c =
    let s = c.args in
    let lent = counted s.c s.h.now s.e.now s.u.now s.v.now s.q.now s.f.now s.damping.now in
    let l = c.loop-count in
    let r = c.step-r.result in
    let p = rw c.after.ensures at c.step-r.ensures ∙ ap (step_call (now s.most lent l.accepted l.e l.u l.v l.q l.f)) (nothing_poured lent.N l.invariant.few) in
    run_stops s.most lent l.invariant (omega (arith, c.loop-count-test.true)) r.answer r.accepted _ _ _ _ _ p c.if-r-ne0.true

pub loop-count-preserved : goal.loop-count-preserved
loop-count-preserved c =
    let s = c.args in
    let lent = counted s.c s.h.now s.e.now s.u.now s.v.now s.q.now s.f.now s.damping.now in
    let l = c.loop-count in
    let r = c.step-r.result in
    let w = c.step-r.auto in
    let n = c.step-r.new in
    let p = rw c.after.ensures at c.step-r.ensures ∙ ap (step_call (now s.most lent l.accepted l.e l.u l.v l.q l.f)) (nothing_poured lent.N l.invariant.few) in
    let left : c.min-steps.result - l.count - 1 ≡ c.min-steps.result - (l.count + 1) = omega arith in
    subst (Running s.most lent r.accepted n.e n.u n.v n.q n.f (l.count + 1)) left (run_on_lem s.most lent l.invariant (omega (arith, c.loop-count-test.true)) r.answer r.accepted _ _ _ _ _ p c.if-r-ne0.false w.e w.u w.v w.q w.f)

pub returns : goal.returns
returns c =
    let s = c.args in
    let lent = counted s.c s.h.now s.e.now s.u.now s.v.now s.q.now s.f.now s.damping.now in
    let l = c.loop-count in
    let all : c.min-steps.result ≡ l.count = omega arith in
    let at_end = c.at_end.ensures ∙ ap (λ n. ended n (ending_of l.accepted s.c.wanted)) all in
    ap (λ a. leaves a (now s.most lent l.accepted l.e l.u l.v l.q l.f)) at_end
    ∙ run_ends s.most lent l.invariant (omega arith)
