-- `motion::hastened` meets its contract: no sum wraps. Assumes nothing.
use Rattle.std.proofs.Common.{◌*◌, ◌≡◌, ◌∙◌, ap, arith, lit≤}
use Rattle.whole.specs.Expr.{E, var, res, add, need, rd_is}
use Rattle.whole.specs.Row.{filled_start, filled_step, filled_end, zeros, fill_zeros}
use Rattle.rule.specs.Rounded.{rounded}
use Rattle.rule.specs.Rows.{cell}
use Rattle.rule.specs.Step.{hastened}
use Rattle.rule.specs.Ranges.{most_reduced, most_acceleration}
use Rattle.motion.specs.Weights.{over_of, four_of, carried, carried_is, levels_more}
use Rattle.motion.specs.Moved.{over_some, over_most, gain, gain_within}
use Rattle.motion.proofs.hastened.Goals as goal
use Rattle.motion.proofs.hastened.Goals.{After-added}

-- what is added in the cell at hand
added_is : (c : After-added) → c.added.result ≡ gain c.args.stage c.args.accepted c.args.n c.args.t c.args.v.now c.args.trial.now c.args.levels.now c.loop-j.j
added_is c =
    let a = c.args in
    c.added.ensures
    ∙ (λ z. rounded (carried (c.weights-table.ensures z) a.t a.n a.trial.now a.levels.now c.loop-j.j) (1000 * c.over-d.ensures z))
    ∙ ap (λ z. rounded z (1000 * over_of a.stage)) (carried_is most_acceleration a.n a.trial.now a.levels.now c.requires.accelerations c.loop-j.j c.loop-j-test.true a.stage a.accepted a.t)

abbrev value : After-added → E
value c =
    let a = c.args in
    let j = c.loop-j.j in
    add (var (cell a.v.now j) most_reduced (c.requires.small.at j c.loop-j-test.true))
    (res 36_666_666_667 (added_is c) (gain_within a.stage a.accepted a.n a.t a.v.now a.trial.now a.levels.now c.requires j c.loop-j-test.true))

pub loop-j-init : goal.loop-j-init
loop-j-init c = filled_start _ _

pub added-requires : goal.added-requires
added-requires c =
    record {
      table_four = rw c.weights-table.ensures (four_of c.args.stage c.args.accepted);
      levels = levels_more (lit≤ tt) c.requires.accelerations;
      place = c.loop-j-test.true;
      brief = c.requires.brief;
      some = omega (arith, c.over-d.ensures, over_some c.args.stage);
      most = omega (arith, c.over-d.ensures, over_most c.args.stage);
    }

pub overflow_add-row : goal.overflow_add-row
overflow_add-row c = need (value c) tt

pub loop-j-preserved : goal.loop-j-preserved
loop-j-preserved c = filled_step c.loop-j.invariant (rd_is (value c) tt) (omega arith)

pub returns : goal.returns
unfolding zeros hastened
returns c = filled_end c.loop-j.invariant (omega arith) c.loop-j-test.false ∙ fill_zeros _ _
