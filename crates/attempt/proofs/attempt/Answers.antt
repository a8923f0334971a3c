-- `attempt::attempt` meets its contract: refused by the checks, complete, or as the stages end. Assumes nothing.
use Rattle.rule.specs.Counted.{lent}
use Rattle.places.specs.Met.{from_err}
use Rattle.attempt.specs.Attempt.{attempt_checked, attempt_complete, attempt_goes, stages_ask}
use Rattle.attempt.proofs.attempt.Goals as goal

pub returns-in_err-check : goal.returns-in_err-check
returns-in_err-check c = rw (from_err _ _ c.from_residual.ensures.1) (attempt_checked (lent c.args.c) c.args.s.now _ c.in_err-check.ensures)

pub returns-then-c : goal.returns-then-c
returns-then-c c = rw c.into.ensures (attempt_complete (lent c.args.c) c.args.s.now _ c.in_ok-check.ensures c.if-c.true)

pub advance-requires : goal.advance-requires
advance-requires c = stages_ask (lent c.args.c) c.args.s.now _ c.in_ok-check.ensures

pub returns : goal.returns
returns c = attempt_goes (lent c.args.c) c.args.s.now _ c.in_ok-check.ensures c.if-c.false c.advance.ensures
