-- `answers::at_end` meets its contract. Assumes nothing.
use mathlib.Core.Path.{◌∙◌}
use native.Mathlib.Omega.{arith}
use Rattle.answers.specs.Ends.{ends_whole, ends_paused}
use Rattle.answers.proofs.at_end.Goals as goal

pub returns-then-steps-wanted : goal.returns-then-steps-wanted
returns-then-steps-wanted c =
    let s = c.before.before in
    c.accepted.ensures ∙ ends_whole s.args.steps s.args.wanted s.args.count (omega (arith, c.before.if-steps-wanted.true))

pub returns : goal.returns
returns c =
    let s = c.before.before in
    c.paused.ensures ∙ ends_paused s.args.steps s.args.wanted s.args.count c.before.if-steps-wanted.false
