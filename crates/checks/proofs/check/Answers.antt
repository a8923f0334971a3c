-- `checks::check` meets its contract: its tests are the rule's, in its order. Assumes nothing.
use mathlib.Core.Path.{◌≡◌, sym, ◌∙◌, ap}
use mathlib.Core.Bool.{true}
use native.Mathlib.Omega.{arith}
use Rattle.std.specs.Prelude.{Ok}
use Rattle.std.specs.Result.{result_and}
use Rattle.rule.specs.Counted.{lent}
use Rattle.rule.specs.Refusals.{met}
use Rattle.rule.specs.Checks.{shaped}
use Rattle.places.specs.Met.{refused_first, ok_then, both_met}
use Rattle.checks.specs.Facts.{cells_few, counts_of, wet_asks}
use Rattle.checks.specs.Order.{formed}
use Rattle.checks.specs.Allowed.{lent_rows, counts_pass, checked_pairs, formed_is, formed_passed, shape_lengths, pairs_passed, rows_passed}
use Rattle.checks.proofs.check.Goals as goal

pub returns-in_err-formed : goal.returns-in_err-formed
returns-in_err-formed c =
    let g = lent c.args.c in
    let p = lent_rows c.args.poured in
    let is = formed_is g p _ _ _ c.shaped.ensures c.poured_shaped.ensures c.counts_allowed.ensures in
    refused_first _ _ _ (c.in_err-formed.ensures ∙ ap met is) _ c.from_residual.ensures.1
    ∙ ap met (checked_pairs g p)

pub returns-in_err-bed : goal.returns-in_err-bed
returns-in_err-bed c =
    let g = lent c.args.c in
    let p = lent_rows c.args.poured in
    let is = formed_is g p _ _ _ c.shaped.ensures c.poured_shaped.ensures c.counts_allowed.ensures in
    refused_first _ _ _ c.in_err-bed.ensures _ c.from_residual-in_err-bed.ensures.1
    ∙ ok_then _ _ _ (c.in_ok-formed.ensures ∙ ap met is)
    ∙ ap met (checked_pairs g p)

pub returns-in_err-speeds : goal.returns-in_err-speeds
returns-in_err-speeds c =
    let g = lent c.args.c in
    let p = lent_rows c.args.poured in
    let is = formed_is g p _ _ _ c.shaped.ensures c.poured_shaped.ensures c.counts_allowed.ensures in
    refused_first _ _ _ c.in_err-speeds.ensures _ c.from_residual-in_err-speeds.ensures.1
    ∙ ok_then _ _ _ c.in_ok-bed.ensures
    ∙ ok_then _ _ _ (c.in_ok-formed.ensures ∙ ap met is)
    ∙ ap met (checked_pairs g p)

pub levels-requires : goal.levels-requires
levels-requires c =
    let g = lent c.args.c in
    let p = lent_rows c.args.poured in
    let is = formed_is g p _ _ _ c.shaped.ensures c.poured_shaped.ensures c.counts_allowed.ensures in
    let k = shape_lengths g p (formed_passed g p _ (c.in_ok-formed.ensures ∙ ap met is)).0 in
    (omega (arith, (cells_few g.N k.0).0), (k.1.Q_long, k.1.F_long))

pub returns-in_err-levels : goal.returns-in_err-levels
returns-in_err-levels c =
    let g = lent c.args.c in
    let p = lent_rows c.args.poured in
    let is = formed_is g p _ _ _ c.shaped.ensures c.poured_shaped.ensures c.counts_allowed.ensures in
    refused_first _ _ _ c.in_err-levels.ensures _ c.from_residual-in_err-levels.ensures.1
    ∙ ok_then _ _ _ c.in_ok-speeds.ensures
    ∙ ok_then _ _ _ c.in_ok-bed.ensures
    ∙ ok_then _ _ _ (c.in_ok-formed.ensures ∙ ap met is)
    ∙ ap met (checked_pairs g p)

pub returns-in_err-and : goal.returns-in_err-and
returns-in_err-and c =
    let g = lent c.args.c in
    let p = lent_rows c.args.poured in
    let is = formed_is g p _ _ _ c.shaped.ensures c.poured_shaped.ensures c.counts_allowed.ensures in
    let reeds = (λ i. result_and (c.damping.ensures i) (c.poured.ensures i)) ∙ both_met _ _ in
    refused_first _ _ _ (c.in_err-and.ensures ∙ reeds) _ c.from_residual-in_err-and.ensures.1
    ∙ ok_then _ _ _ c.in_ok-levels.ensures
    ∙ ok_then _ _ _ c.in_ok-speeds.ensures
    ∙ ok_then _ _ _ c.in_ok-bed.ensures
    ∙ ok_then _ _ _ (c.in_ok-formed.ensures ∙ ap met is)
    ∙ ap met (checked_pairs g p)

pub wet-requires : goal.wet-requires
wet-requires c =
    let g = lent c.args.c in
    let p = lent_rows c.args.poured in
    let is = formed_is g p _ _ _ c.shaped.ensures c.poured_shaped.ensures c.counts_allowed.ensures in
    let k = c.args.c.counts in
    let reeds = (λ i. result_and (c.damping.ensures i) (c.poured.ensures i)) ∙ both_met _ _ in
    let f = formed_passed g p _ (c.in_ok-formed.ensures ∙ ap met is) in
    let v = pairs_passed g p f.0 _ _ _ _ c.in_ok-bed.ensures c.in_ok-speeds.ensures c.in_ok-levels.ensures (c.in_ok-and.ensures ∙ reeds) in
    wet_asks k.n k.x k.t k.wanted k.accepted g.h g.e g.u (counts_of k.x k.t k.wanted k.accepted f.1) (rows_passed g p f.0 v).0

pub returns : goal.returns
returns c =
    let g = lent c.args.c in
    let p = lent_rows c.args.poured in
    let is = formed_is g p _ _ _ c.shaped.ensures c.poured_shaped.ensures c.counts_allowed.ensures in
    let reeds = (λ i. result_and (c.damping.ensures i) (c.poured.ensures i)) ∙ both_met _ _ in
    c.wet.ensures
    ∙ ok_then _ _ _ (c.in_ok-and.ensures ∙ reeds)
    ∙ ok_then _ _ _ c.in_ok-levels.ensures
    ∙ ok_then _ _ _ c.in_ok-speeds.ensures
    ∙ ok_then _ _ _ c.in_ok-bed.ensures
    ∙ ok_then _ _ _ (c.in_ok-formed.ensures ∙ ap met is)
    ∙ ap met (checked_pairs g p)
