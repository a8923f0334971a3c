-- `filter::filter` meets its contract: a refused call leaves all as it was, and what a pass works out is stored. Assumes nothing.
use mathlib.Core.Path.{◌∙◌}
use native.Mathlib.Omega.{arith}
use Rattle.rule.specs.Channel.{moved}
use Rattle.rule.specs.Counted.{counted}
use Rattle.answers.specs.Stages.{leaves}
use Rattle.filter.specs.Filtered.{not_passed, storing}
use Rattle.filter.proofs.filter.Goals as goal

pub keep_cells-requires : goal.keep_cells-requires
keep_cells-requires c =
    let a = c.args in
    let k = storing (counted a.c a.h.now a.e.now a.u.now a.v.now a.q.now a.f.now a.damping.now) _ c.in-Ok.ensures in
    let full = k.kept in
    record {
      most = k.allowed.cells.most;
      e_long = k.allowed.cells.e_long;
      u_long = k.allowed.cells.u_long;
      v_long = k.allowed.levels.v_long;
      e_full = full.e_full;
      u_full = full.u_full;
      v_full = full.v_full;
    }

pub renew_levels-requires : goal.renew_levels-requires
renew_levels-requires c =
    let a = c.args in
    let k = storing (counted a.c a.h.now a.e.now a.u.now a.v.now a.q.now a.f.now a.damping.now) _ c.in-Ok.ensures in
    record {
      least = omega (arith, k.allowed.cells.least);
      most = k.allowed.cells.most;
      Q_long = k.allowed.levels.Q_long;
      F_long = k.allowed.levels.F_long;
      Q_full = k.kept.q_full;
      F_full = k.kept.f_full;
    }

pub returns-in-Ok : goal.returns-in-Ok
returns-in-Ok c =
    let a = c.args in
    let l = counted a.c a.h.now a.e.now a.u.now a.v.now a.q.now a.f.now a.damping.now in
    let k = storing l _ c.in-Ok.ensures in
    let new = c.keep_cells.ensures in
    let levels = c.renew_levels.ensures in
    (λ i. leaves (c.accepted.ensures i) (moved l l.accepted (new.0 i) (new.1 i) (new.2 i) (levels.0 i) (levels.1 i)))
    ∙ k.stored

pub returns-in-Err : goal.returns-in-Err
returns-in-Err c =
    let a = c.args in
    let l = counted a.c a.h.now a.e.now a.u.now a.v.now a.q.now a.f.now a.damping.now in
    (λ i. leaves (c.refused.ensures i) l) ∙ not_passed l _ c.in-Err.ensures
