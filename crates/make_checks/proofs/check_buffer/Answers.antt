-- `make_checks::check_buffer` meets its contract. Assumes nothing.
use native.Mathlib.Omega.{arith}
use Rattle.make_checks.specs.Order.{buffer_15, buffer_0}
use Rattle.make_checks.proofs.check_buffer.Goals as goal

pub returns-then-room-length_of : goal.returns-then-room-length_of
returns-then-room-length_of c = buffer_15 c.args.n c.args.room (λ e. omega (arith, e, c.if-room-length_of.true, c.length_of.ensures))

pub returns : goal.returns
returns c = buffer_0 c.args.n c.args.room (omega (arith, c.if-room-length_of.false, c.length_of.ensures))
