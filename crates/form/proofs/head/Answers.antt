-- `form::head` meets its contract. Assumes nothing.
use mathlib.Core.Path.{sym, ◌∙◌}
use native.Mathlib.Omega.{arith}
use Rattle.rule.specs.File.{count_of}
use Rattle.form.specs.Reader.{head_12, head_13, head_0}
use Rattle.form.proofs.head.Goals as goal

pub returns-then-s-lt-LEAST_LENGTH : goal.returns-then-s-lt-LEAST_LENGTH
returns-then-s-lt-LEAST_LENGTH c = head_12 c.args.s.now (omega arith)

pub returns-then-count_at-ne-EDITION : goal.returns-then-count_at-ne-EDITION
unfolding count_of
returns-then-count_at-ne-EDITION c = head_13 c.args.s.now (omega arith) (λ z. c.if-count_at-ne-EDITION.true (c.count_at.ensures.0 ∙ z))

pub returns : goal.returns
unfolding count_of
returns c = head_0 c.args.s.now (omega arith) (sym c.count_at.ensures.0 ∙ c.if-count_at-ne-EDITION.false)
