-- `motion::raised` meets its contract: what leaves a cell over its right face enters the next over its left one, and no sum wraps.
-- Assumes nothing.
use Rattle.std.specs.Prelude.{ℕ, suc, ◌*◌, ◌-◌, ◌<◌, ◌≤◌, ◌≡◌, refl, ℤ, nat_abs}
use Rattle.std.proofs.Common.{sym, ◌∙◌, ap, le_trans, add-one, arith, lit≤}
use Rattle.whole.specs.Expr.{E, var, held, res, add, sub, need, rd_is, abs≤}
use Rattle.whole.specs.Row.{filled_start, filled_step, filled_end, zeros, fill_zeros}
use Rattle.rule.specs.Rounded.{rounded}
use Rattle.rule.specs.Rows.{Row, cell}
use Rattle.rule.specs.Step.{weighted, face_divisor, moves, raised}
use Rattle.rule.specs.Ranges.{most_height, most_flux, most_poured}
use Rattle.motion.specs.Weights.{weights_of, over_of, levels_of, four_of, carried, carried_is}
use Rattle.motion.specs.Walled.{inner, inner_same, crossed}
use Rattle.motion.specs.Moved.{Ws, crossing_within, Ws_within, divisor_some, divisor_most}
use Rattle.motion.proofs.raised.Goals as goal
use Rattle.motion.proofs.raised.Goals.{After-crossing-a, After-rounded-w}

-- what crosses each face between two cells, not yet divided
abbrev flow : After-crossing-a → ℕ → ℤ
flow c = let a = c.args in weighted a.t (weights_of a.stage a.accepted) (a.n - 1) (levels_of a.stage (a.n - 1) a.trial.now a.levels.now)

crossing_is : (c : After-crossing-a) → c.crossing-a.result ≡ inner (c.args.n - 1) (flow c) c.loop-j.j
crossing_is c =
    let a = c.args in
    c.crossing-a.ensures
    ∙ ap (λ table. inner (a.n - 1) (carried table a.t (a.n - 1) a.trial.now a.levels.now) c.loop-j.j) c.weights-table.ensures
    ∙ inner_same (a.n - 1) _ _ (λ j h. carried_is most_flux (a.n - 1) a.trial.now a.levels.now c.requires.fluxes j h a.stage a.accepted a.t) c.loop-j.j

abbrev crosses : After-crossing-a → E
crosses c =
    let a = c.args in
    res 4_400_000_000_000_000_000 (crossing_is c) (crossing_within a.stage a.accepted a.n a.x a.t a.e.now a.s.now a.trial.now a.levels.now c.requires c.loop-j.j)

some : (c : After-crossing-a) → 0 < 1000 * (1000 * c.args.x) * over_of c.args.stage
some c = divisor_some c.args.stage c.args.x c.requires.narrow

-- W of each face, from wall to wall
abbrev faces : After-rounded-w → Row
faces c = let a = c.args in Ws a.stage a.accepted a.n a.x a.t a.e.now a.s.now a.trial.now a.levels.now

small : (c : After-rounded-w) (j : ℕ) → j ≤ c.args.n → nat_abs (cell (faces c) j) ≤ 36_666_666_667
small c j h = let a = c.args in Ws_within a.stage a.accepted a.n a.x a.t a.e.now a.s.now a.trial.now a.levels.now c.requires j h

rounded_is : (c : After-rounded-w) → c.rounded-w.result ≡ cell (faces c) (suc c.loop-j.j)
rounded_is c =
    let a = c.args in
    c.rounded-w.ensures
    ∙ (λ z. rounded (rd_is (crosses c.before) tt z) (c.face_divisor-d.ensures z))
    ∙ crossed (a.n - 1) (flow c.before) (1000 * (1000 * a.x) * over_of a.stage) (some c.before) c.loop-j.j (omega arith)

-- over the right face of the cell at hand
abbrev right : After-rounded-w → E
right c = res 36_666_666_667 (rounded_is c) (small c (suc c.loop-j.j) (omega arith))

-- the height of the cell, with what enters over its left face, without what leaves over its right one, and with what is poured
abbrev entered : After-rounded-w → E
entered c =
    add (var (cell c.args.e.now c.loop-j.j) most_height (c.requires.e_small.at c.loop-j.j c.loop-j-test.true))
    (held 36_666_666_667 c.loop-j.auto.left c.loop-j.invariant.1 (small c c.loop-j.j (omega arith)))

abbrev passed : After-rounded-w → E
passed c = sub (entered c) (right c)

abbrev value : After-rounded-w → E
value c = add (passed c) (var (cell c.args.s.now c.loop-j.j) most_poured (c.requires.s_small.at c.loop-j.j c.loop-j-test.true))

pub loop-j-init : goal.loop-j-init
loop-j-init c = (filled_start _ _, refl)

pub crossing-a-requires : goal.crossing-a-requires
crossing-a-requires c =
    record {
      least = c.requires.least;
      table_four = rw c.weights-table.ensures (four_of c.args.stage c.args.accepted);
      brief = c.requires.brief;
      fluxes = c.requires.fluxes;
    }

pub rounded-w-requires : goal.rounded-w-requires
rounded-w-requires c =
    (rw (rd_is (crosses c) tt) (le_trans (abs≤ (crosses c)) (lit≤ tt)), (rw c.face_divisor-d.ensures (some c), rw c.face_divisor-d.ensures (divisor_most c.args.stage c.args.x c.requires.wide)))

pub overflow_add-row : goal.overflow_add-row
overflow_add-row c = need (entered c.before) tt

pub overflow_sub-row : goal.overflow_sub-row
overflow_sub-row c = need (passed c.before) tt

pub overflow_add-row-in-loop-j : goal.overflow_add-row-in-loop-j
overflow_add-row-in-loop-j c = need (value c.before.before) tt

pub loop-j-preserved : goal.loop-j-preserved
loop-j-preserved c =
    let d = c.before.before in
    (filled_step d.loop-j.invariant.0 (rd_is (value d) tt) (omega arith), rd_is (right d) tt ∙ ap (cell (faces d)) (sym (add-one d.loop-j.j)))

pub returns : goal.returns
unfolding zeros raised moves face_divisor
returns c = filled_end c.loop-j.invariant.0 (omega arith) c.loop-j-test.false ∙ fill_zeros _ _
