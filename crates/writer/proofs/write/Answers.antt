-- `writer::write` meets its contract: its ways out are the rule's, and it stores after every test. Assumes nothing.
use mathlib.Core.Path.{◌∙◌, ap}
use mathlib.Core.List.{[]}
use Rattle.rule.specs.Counted.{counted}
use Rattle.answers.specs.Stages.{leaves_bytes}
use Rattle.put.specs.Asked.{writable_of}
use Rattle.writer.specs.Left.{fits_of, write_refused, write_fit}
use Rattle.writer.proofs.write.Goals as goal

pub returns-in-Err : goal.returns-in-Err
returns-in-Err c =
    let a = c.args in
    let g = counted a.c a.h.now a.e.now a.u.now a.v.now a.q.now a.f.now a.damping.now in
    ap (λ r. leaves_bytes r a.d.now) c.refused.ensures ∙ write_refused g a.d.now _ c.in-Err.ensures

pub put-requires : goal.put-requires
put-requires c =
    let a = c.args in
    let g = counted a.c a.h.now a.e.now a.u.now a.v.now a.q.now a.f.now a.damping.now in
    let w = fits_of g _ c.in_default.ensures in
    (w.sized, writable_of g [] w.checked_0)

pub returns : goal.returns
returns c =
    let a = c.args in
    let g = counted a.c a.h.now a.e.now a.u.now a.v.now a.q.now a.f.now a.damping.now in
    ap (λ r. leaves_bytes r c.put.new.d) c.accepted.ensures ∙ write_fit g a.d.now c.put.ensures (fits_of g _ c.in_default.ensures)
