-- `dispersion::cell_values` meets its contract. Assumes nothing.
use Rattle.std.proofs.Common.{◌≡◌, ℕ, ◌*◌, ◌<◌, ℤ, pos, ◌*ℤ◌, take, sym, ap, ◌∙◌, arith}
use Rattle.whole.specs.Expr.{E, var, lit, res, mul, rd, rd_is}
use Rattle.whole.specs.Row.{filled_start, filled_step}
use Rattle.rule.specs.Rows.{Row, cell}
use Rattle.rule.specs.Flux.{second, M}
use Rattle.rule.specs.Ranges.{most_velocity, most_depth}
use Rattle.rows.specs.Firsts.{firsts_lt, filled_firsts}
use Rattle.dispersion.specs.Asked.{Bed}
use Rattle.dispersion.specs.Agree.{Ms_bottom}
use Rattle.dispersion.specs.Sizes.{second_within}
use Rattle.dispersion.proofs.Laws.{read_small, take_fill}
use Rattle.dispersion.proofs.cell_values.Goals as goal

module _ {n x : ℕ} {h u hu : Row} (p : Bed n x h u hu) (j : ℕ) (l : j < n) where
  abbrev H : E
  H = mul (lit (pos 1000)) (var (cell h j) most_depth (p.depths.small.at j l))

  abbrev A : {z : ℤ} → z ≡ second n u j → E
  A e = res 80_000_000 e (second_within most_velocity n u p.velocities.small (omega (arith, p.velocities.least)) j l)

  abbrev B : {z : ℤ} → z ≡ second n hu j → E
  B e = res 4_000_000_000_000_000 e (second_within 1_000_000_000_000_000 n hu p.products.small (omega (arith, p.products.least)) j l)

  -- M of what is read back
  M_is : {y z : ℤ} (e : y ≡ second n u j) (f : z ≡ second n hu j) → M (rd H) (1000 * x) (rd (A e)) (rd (B f)) ≡ M (pos 1000 *ℤ cell h j) (1000 * x) (second n u j) (second n hu j)
  M_is e f = (λ t. M (rd_is H tt t) (1000 * x) (rd_is (A e) tt t) (rd_is (B f) tt t))

pub loop-j-init : goal.loop-j-init
loop-j-init c = filled_start _ _

pub cell_value-requires : goal.cell_value-requires
cell_value-requires c =
    let p = c.requires in
    let l = firsts_lt _ c.loop-j-test.true in
    record {
      deep = read_small (H p c.loop-j.j l) tt;
      wide = omega (arith, p.wide);
      bent = read_small (A p c.loop-j.j l c.second.ensures) tt;
      carried = read_small (B p c.loop-j.j l c.second-in-loop-j.ensures) tt;
    }

pub loop-j-preserved : goal.loop-j-preserved
loop-j-preserved c =
    let p = c.requires in
    let l = firsts_lt _ c.loop-j-test.true in
    filled_step c.loop-j.invariant (c.cell_value.ensures ∙ M_is p c.loop-j.j l c.second.ensures c.second-in-loop-j.ensures) c.loop-j-test.true

pub returns : goal.returns
returns c =
    ap (take c.args.n) (filled_firsts _ c.loop-j.invariant c.requires.depths.most c.loop-j.auto.j-end c.loop-j-test.false) ∙ take_fill _ _ _
    ∙ sym (Ms_bottom c.args.n c.args.x c.args.h.now c.args.u.now c.args.hu.now)
