-- `make_file::make_in` meets its contract: what make leaves in the rows is what is written. Assumes nothing.
use mathlib.Core.Path.{◌∙◌, ap}
use Rattle.rule.specs.Counted.{counted, after}
use Rattle.places.specs.Met.{from_err}
use Rattle.answers.specs.Stages.{leaves_bytes}
use Rattle.make.specs.Left.{answer_by}
use Rattle.make_file.specs.Left.{made_refused, made_writable, made_filed}
use Rattle.make_file.proofs.make_in.Goals as goal

pub returns-in_err-fill : goal.returns-in_err-fill
returns-in_err-fill c =
    let a = c.args in
    let l = c.fill.new in
    ap (λ r. leaves_bytes (answer_by r) a.file.now) (from_err _ _ c.from_residual.ensures.1)
    ∙ made_refused (counted a.c a.h.now a.e.now a.u.now a.v.now a.q.now a.f.now a.damping.now) _ a.file.now c.requires.1 _ c.in_err-fill.ensures

pub put-requires : goal.put-requires
put-requires c =
    let a = c.args in
    let l = c.fill.new in
    rw c.after.ensures
    (c.requires.0, made_writable (counted a.c a.h.now a.e.now a.u.now a.v.now a.q.now a.f.now a.damping.now) (counted (after a.c 0) a.h.now a.e.now a.u.now l.v l.q l.f a.damping.now) a.file.now c.requires.1 c.in_ok-fill.ensures)

pub returns : goal.returns
returns c =
    let a = c.args in
    let l = c.fill.new in
    let moved = c.after.ensures in
    made_filed (counted a.c a.h.now a.e.now a.u.now a.v.now a.q.now a.f.now a.damping.now) (counted (after a.c 0) a.h.now a.e.now a.u.now l.v l.q l.f a.damping.now) a.file.now c.requires.1 c.put.new.d c.in_ok-fill.ensures
    (rw moved at c.put.ensures)
