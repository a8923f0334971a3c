-- `checks::check_made` meets its contract: its tests are the rule's, in its order. Assumes nothing.
use mathlib.Core.Path.{◌≡◌, sym, ◌∙◌, ap}
use Rattle.std.specs.Result.{result_and}
use Rattle.rule.specs.Refusals.{met}
use Rattle.places.specs.Met.{refused_first, ok_then, both_met}
use Rattle.checks.specs.Facts.{counts_of, wet_asks}
use Rattle.checks.specs.Made.{made_pairs, made_formed, made_passed, made_values, cells_passed}
use Rattle.checks.proofs.check_made.Goals as goal

pub returns-in_err-formed : goal.returns-in_err-formed
returns-in_err-formed c =
    let a = c.args in
    let is = made_formed a.c.n a.c.x a.c.t a.c.wanted a.h.now a.e.now a.u.now a.damping.now _ _ c.make_shaped.ensures c.counts_allowed.ensures in
    refused_first _ _ _ (c.in_err-formed.ensures ∙ ap met is) _ c.from_residual.ensures.1
    ∙ ap met (made_pairs a.c.n a.c.x a.c.t a.c.wanted a.h.now a.e.now a.u.now a.damping.now)

pub returns-in_err-bed : goal.returns-in_err-bed
returns-in_err-bed c =
    let a = c.args in
    let is = made_formed a.c.n a.c.x a.c.t a.c.wanted a.h.now a.e.now a.u.now a.damping.now _ _ c.make_shaped.ensures c.counts_allowed.ensures in
    refused_first _ _ _ c.in_err-bed.ensures _ c.from_residual-in_err-bed.ensures.1
    ∙ ok_then _ _ _ (c.in_ok-formed.ensures ∙ ap met is)
    ∙ ap met (made_pairs a.c.n a.c.x a.c.t a.c.wanted a.h.now a.e.now a.u.now a.damping.now)

pub returns-in_err-and : goal.returns-in_err-and
returns-in_err-and c =
    let a = c.args in
    let is = made_formed a.c.n a.c.x a.c.t a.c.wanted a.h.now a.e.now a.u.now a.damping.now _ _ c.make_shaped.ensures c.counts_allowed.ensures in
    let reeds = (λ i. result_and (c.velocities.ensures i) (c.damping.ensures i)) ∙ both_met _ _ in
    refused_first _ _ _ (c.in_err-and.ensures ∙ reeds) _ c.from_residual-in_err-and.ensures.1
    ∙ ok_then _ _ _ c.in_ok-bed.ensures
    ∙ ok_then _ _ _ (c.in_ok-formed.ensures ∙ ap met is)
    ∙ ap met (made_pairs a.c.n a.c.x a.c.t a.c.wanted a.h.now a.e.now a.u.now a.damping.now)

pub wet-requires : goal.wet-requires
wet-requires c =
    let a = c.args in
    let is = made_formed a.c.n a.c.x a.c.t a.c.wanted a.h.now a.e.now a.u.now a.damping.now _ _ c.make_shaped.ensures c.counts_allowed.ensures in
    let reeds = (λ i. result_and (c.velocities.ensures i) (c.damping.ensures i)) ∙ both_met _ _ in
    let p = made_passed a.c.n a.c.x a.c.t a.c.wanted a.h.now a.e.now a.u.now a.damping.now _ (c.in_ok-formed.ensures ∙ ap met is) in
    let v = made_values a.h.now a.e.now a.u.now a.damping.now _ _ c.in_ok-bed.ensures (c.in_ok-and.ensures ∙ reeds) in
    wet_asks a.c.n a.c.x a.c.t a.c.wanted 0 a.h.now a.e.now a.u.now (counts_of a.c.x a.c.t a.c.wanted 0 p.1)
    (cells_passed a.c.n a.h.now a.e.now a.u.now a.damping.now p.0 v.0)

pub returns : goal.returns
returns c =
    let a = c.args in
    let is = made_formed a.c.n a.c.x a.c.t a.c.wanted a.h.now a.e.now a.u.now a.damping.now _ _ c.make_shaped.ensures c.counts_allowed.ensures in
    let reeds = (λ i. result_and (c.velocities.ensures i) (c.damping.ensures i)) ∙ both_met _ _ in
    c.wet.ensures
    ∙ ok_then _ _ _ (c.in_ok-and.ensures ∙ reeds)
    ∙ ok_then _ _ _ c.in_ok-bed.ensures
    ∙ ok_then _ _ _ (c.in_ok-formed.ensures ∙ ap met is)
    ∙ ap met (made_pairs a.c.n a.c.x a.c.t a.c.wanted a.h.now a.e.now a.u.now a.damping.now)
