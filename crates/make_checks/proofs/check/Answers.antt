-- `make_checks::check` meets its contract: the input is refused before the buffer. Assumes nothing.
use mathlib.Core.Path.{◌∙◌}
use Rattle.std.specs.Result.{result_and}
use Rattle.make_checks.specs.Order.{tested_is}
use Rattle.make_checks.proofs.check.Goals as goal

pub returns : goal.returns
returns c =
    let a = c.args in
    c.and.ensures
    ∙ (λ i. result_and (c.check_made-input.ensures i) (c.check_buffer-length.ensures i))
    ∙ tested_is a.c.n a.c.x a.c.t a.c.wanted a.h.now a.e.now a.u.now a.damping.now a.room
