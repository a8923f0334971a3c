-- `read::read` meets its contract: its ways out are the rule's, and it stores after every test. Assumes nothing.
use mathlib.Core.Path.{◌∙◌}
use Rattle.rule.specs.Counted.{counted}
use Rattle.answers.specs.Stages.{leaves}
use Rattle.opened.specs.Opened.{taken_of}
use Rattle.read.specs.Left.{opens_lent, refused_by, stored}
use Rattle.read.proofs.read.Goals as goal

pub returns-in-Err-clause-damping_after : goal.returns-in-Err-clause-damping_after
returns-in-Err-clause-damping_after c =
    let a = c.args in
    let l = counted a.c a.h.now a.e.now a.u.now a.v.now a.q.now a.f.now a.damping.now in
    (λ i. leaves (c.refused.ensures i) l) ∙ refused_by l a.s.now _ c.in-Err.ensures

-- past the tests, in the channel that is lent
pub opened-counts-requires : goal.opened-counts-requires
opened-counts-requires c =
    let a = c.args in
    opens_lent (counted a.c a.h.now a.e.now a.u.now a.v.now a.q.now a.f.now a.damping.now) _ (taken_of _ _ _ c.in_default.ensures)

pub returns-clause-damping_after : goal.returns-clause-damping_after
returns-clause-damping_after c =
    let a = c.args in
    let l = counted a.c a.h.now a.e.now a.u.now a.v.now a.q.now a.f.now a.damping.now in
    (λ i. leaves (c.accepted.ensures i) (c.opened-counts.ensures i)) ∙ stored l a.s.now (taken_of _ _ _ c.in_default.ensures)
