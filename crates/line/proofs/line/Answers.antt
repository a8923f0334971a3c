-- `line::line` meets its contract. The number of the reader's answer is at most 38, so outside 1 to 38 it is 0. Assumes nothing.
use mathlib.Core.Path.{ap, ◌∙◌}
use native.Mathlib.Omega.{arith}
use lib.ListN.{length}
use Rattle.little.specs.Written.{written}
use Rattle.line.specs.Held.{is_number, at_most, refused_is, held_is}
use Rattle.line.proofs.line.Goals as goal

pub held_line-requires : goal.held_line-requires
held_line-requires c =
    let s = c.args.s.now in
    (omega arith, omega (arith, is_number s _ c.answer-number.ensures, at_most s _ c.answer-number.ensures))

pub returns-in-1-to-38 : goal.returns-in-1-to-38
returns-in-1-to-38 c =
    let e = refused_is c.args.s.now _ c.answer-number.ensures (omega arith) in
    let q = c.refused_line.ensures in
    (q.0 ∙ ap length e, q.1 ∙ ap (written _ 0) e, q.2)

pub returns-in_default : goal.returns-in_default
returns-in_default c =
    let s = c.args.s.now in
    let e = held_is s (omega (arith, is_number s _ c.answer-number.ensures, at_most s _ c.answer-number.ensures)) in
    let q = c.held_line.ensures in
    (q.0 ∙ ap length e, q.1 ∙ ap (written _ 0) e, q.2)
