-- `flux::fluxes` meets its contract: the arrays hold the rows of the rule. Assumes nothing.
use Prim.Native.Nat.{ℕ, ◌-◌}
use mathlib.Core.Path.{◌∙◌, ap}
use native.Mathlib.Omega.{arith}
use Rattle.whole.specs.Row.{zeros, padded}
use Rattle.rule.specs.Rows.{Row}
use Rattle.rule.specs.Refusals.{met_as}
use Rattle.dispersion.specs.Asked.{Carrying, Ready}
use Rattle.flux.specs.Faces.{arrays_is}
use Rattle.dispersion.specs.Sizes.{level_cells, carried_cells}
use Rattle.flux.proofs.fluxes.Goals as goal

-- what is carried over a level surface, and over the water's
module _ {n x : ℕ} {h e u : Row} (r : Ready n x h e u) where
  level : Carrying n h zeros u
  level = record { depths = r.depths; heights = level_cells r.depths; velocities = r.moving.velocities }

  moving : Carrying n h e u
  moving = record { depths = r.depths; heights = r.moving.heights; velocities = r.moving.velocities }

pub carried-requires : goal.carried-requires
carried-requires c = moving c.requires

pub carried-requires-2 : goal.carried-requires-2
unfolding zeros
carried-requires-2 c = level c.requires

pub cell_values-requires : goal.cell_values-requires
unfolding zeros
cell_values-requires c =
    let r = c.requires in
    record { wide = r.moving.wide; depths = r.depths; velocities = r.moving.velocities; products = carried_cells c.carried-2.ensures (level r) }

pub faces-requires : goal.faces-requires
faces-requires c = (carried_cells c.carried.ensures (moving c.requires), omega (arith, c.requires.depths.most))

pub returns : goal.returns
unfolding zeros
returns c =
    let s = c.args in
    c.faces.ensures
    ∙ ap (met_as (padded (s.n - 1)))
    (arrays_is s.n s.x s.h.now s.e.now s.u.now c.carried-2.result c.carried.result c.cell_values.result (omega (arith, c.requires.depths.least)) c.requires.depths.most c.carried-2.ensures c.cell_values.ensures c.carried.ensures)
