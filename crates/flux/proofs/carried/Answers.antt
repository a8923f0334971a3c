-- `flux::carried` meets its contract. Assumes nothing.
use Prim.Native.Nat.{ℕ, ◌<◌}
use mathlib.Core.Path.{sym, ◌∙◌, ap}
use lib.IntN.{pos}
use Rattle.rule.specs.Ranges.{most_depth, most_height, most_velocity}
use Rattle.whole.specs.Expr.{E, var, lit, add, mul, need, rd_is}
use Rattle.whole.specs.Row.{filled_start, filled_step, zeros, padded, fill_zeros}
use Rattle.rows.specs.Firsts.{firsts_lt, filled_firsts}
use Rattle.rule.specs.Rows.{Row, cell}
use Rattle.dispersion.specs.Asked.{Carrying}
use Rattle.dispersion.specs.Sizes.{carried_is}
use Rattle.flux.proofs.carried.Goals as goal

-- a cell: its bottom, its depth and what it carries
module _ {n : ℕ} {h e u : Row} (p : Carrying n h e u) (j : ℕ) (l : j < n) where
  abbrev bed : E
  bed = mul (lit (pos 1000)) (var (cell h j) most_depth (p.depths.small.at j l))

  abbrev depth : E
  depth = add bed (var (cell e j) most_height (p.heights.small.at j l))

  abbrev value : E
  value = mul depth (var (cell u j) most_velocity (p.velocities.small.at j l))

pub loop-j-init : goal.loop-j-init
loop-j-init c = filled_start _ _

pub overflow_mul-p : goal.overflow_mul-p
overflow_mul-p c = need (bed c.requires c.loop-j.j (firsts_lt _ c.loop-j-test.true)) tt

pub overflow_add-p : goal.overflow_add-p
overflow_add-p c = need (depth c.requires c.loop-j.j (firsts_lt _ c.loop-j-test.true)) tt

pub overflow_mul-p-in-loop-j : goal.overflow_mul-p-in-loop-j
overflow_mul-p-in-loop-j c = need (value c.requires c.loop-j.j (firsts_lt _ c.loop-j-test.true)) tt

pub loop-j-preserved : goal.loop-j-preserved
loop-j-preserved c = filled_step c.loop-j.invariant (rd_is (value c.requires c.loop-j.j (firsts_lt _ c.loop-j-test.true)) tt) c.loop-j-test.true

pub returns : goal.returns
unfolding zeros
returns c =
    let a = c.args in
    filled_firsts _ c.loop-j.invariant c.requires.depths.most c.loop-j.auto.j-end c.loop-j-test.false
    ∙ fill_zeros _ _
    ∙ ap (padded a.n) (sym (carried_is a.n a.h.now a.e.now a.u.now))
