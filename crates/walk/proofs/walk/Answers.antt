-- `walk::walk` meets its contract: refused by the reader, or what the call leaves of the file's channel. Assumes nothing.
use mathlib.Core.Path.{◌∙◌, ap}
use Rattle.std.specs.Bool.{then_some}
use Rattle.rule.specs.declared.Counts.{Counts}
use Rattle.rule.specs.Refusals.{met_as}
use Rattle.answers.specs.Stages.{leaves_bytes}
use Rattle.opened.specs.Held.{cells_is}
use Rattle.opened.specs.Opened.{lent_read, taken_of}
use Rattle.call.specs.Walk.{Taken, pours_of, refused_by, takes_of, taken_by}
use Rattle.walk.proofs.walk.Goals as goal

pub returns-in-Err-clause-file_after : goal.returns-in-Err-clause-file_after
returns-in-Err-clause-file_after c =
    let a = c.args in
    let is = lent_read (pours_of a.call) a.poured a.file.now (c.then_some.ensures ∙ ap (λ b. then_some b a.poured) c.pours.ensures) in
    ap (λ r. leaves_bytes r a.file.now) c.refused.ensures
    ∙ refused_by a.call a.file.now a.poured.now _ (c.in-Err.ensures ∙ ap (met_as (λ _. tt)) is)

-- past its tests
pub counts-c-requires : goal.counts-c-requires
counts-c-requires c =
    let a = c.args in
    let is = lent_read (pours_of a.call) a.poured a.file.now (c.then_some.ensures ∙ ap (λ b. then_some b a.poured) c.pours.ensures) in
    let taken : Taken a.call a.file.now a.poured.now = taken_of _ _ _ (c.in_default.ensures ∙ ap (met_as (λ _. tt)) is) in
    taken.head

pub in_arrays-requires : goal.in_arrays-requires
in_arrays-requires c =
    let a = c.args in
    let is = lent_read (pours_of a.call) a.poured a.file.now (c.then_some.ensures ∙ ap (λ b. then_some b a.poured) c.pours.ensures) in
    let taken : Taken a.call a.file.now a.poured.now = taken_of _ _ _ (c.in_default.ensures ∙ ap (met_as (λ _. tt)) is) in
    takes_of a.call a.file.now a.poured.now taken _ (ap (λ (r : Counts). r.n) c.counts-c.ensures ∙ cells_is a.file.now)

pub returns-clause-file_after : goal.returns-clause-file_after
returns-clause-file_after c =
    let a = c.args in
    let is = lent_read (pours_of a.call) a.poured a.file.now (c.then_some.ensures ∙ ap (λ b. then_some b a.poured) c.pours.ensures) in
    let taken : Taken a.call a.file.now a.poured.now = taken_of _ _ _ (c.in_default.ensures ∙ ap (met_as (λ _. tt)) is) in
    taken_by a.call a.file.now a.poured.now taken c.in_arrays.ensures
