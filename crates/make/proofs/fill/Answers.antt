-- `make::fill` meets its contract: where it is refused all is left as it was, and what is made is stored. Assumes nothing.
use mathlib.Core.Path.{◌∙◌, ap}
use native.Mathlib.Omega.{arith}
use borrow.Author.Rules.{rules}
use Rattle.rule.specs.Channel.{moved}
use Rattle.rule.specs.Counted.{counted, left}
use Rattle.places.specs.Met.{from_err}
use Rattle.answers.specs.Stages.{leaves, acceptance}
use Rattle.make.specs.Left.{left_by, refused_by, storing}
use Rattle.make.proofs.fill.Goals as goal

pub renew-requires : goal.renew-requires
renew-requires c =
    let a = c.args in
    let k = storing (counted a.c a.h.now a.e.now a.u.now a.v.now a.q.now a.f.now a.damping.now) _ c.in_ok-made.ensures in
    (k.most, omega (arith, k.long.v_long), search rules)

pub overflow_sub-faces : goal.overflow_sub-faces
overflow_sub-faces c =
    let a = c.args in
    (storing (counted a.c a.h.now a.e.now a.u.now a.v.now a.q.now a.f.now a.damping.now) _ c.in_ok-made.ensures).least

pub fill-requires : goal.fill-requires
fill-requires c =
    let a = c.args in
    let k = storing (counted a.c a.h.now a.e.now a.u.now a.v.now a.q.now a.f.now a.damping.now) _ c.in_ok-made.ensures in
    (omega (arith, k.most), k.long.Q_long, search rules)

pub fill-requires-2 : goal.fill-requires-2
fill-requires-2 c =
    let a = c.args in
    let k = storing (counted a.c a.h.now a.e.now a.u.now a.v.now a.q.now a.f.now a.damping.now) _ c.in_ok-made.ensures in
    (k.most, k.long.F_long, search rules)

pub returns : goal.returns
returns c =
    let a = c.args in
    let l = counted a.c a.h.now a.e.now a.u.now a.v.now a.q.now a.f.now a.damping.now in
    let k = storing l _ c.in_ok-made.ensures in
    let v_left = c.renew.ensures in
    let Q_left = c.fill.ensures in
    let F_left = c.fill-2.ensures in
    (λ i. leaves (acceptance 0) (moved l 0 l.e l.u (v_left i) (Q_left i) (F_left i)))
    ∙ k.stored

pub returns-in_err-made : goal.returns-in_err-made
returns-in_err-made c =
    let a = c.args in
    let l = counted a.c a.h.now a.e.now a.u.now a.v.now a.q.now a.f.now a.damping.now in
    ap (λ r. left a.c (left_by a.c r) a.h.now a.e.now a.u.now a.v.now a.q.now a.f.now a.damping.now) (from_err _ _ c.from_residual.ensures.1)
    ∙ refused_by l _ c.in_err-made.ensures
