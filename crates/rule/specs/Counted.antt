-- A channel by its counts and its rows, as the code has them: the one list of what a channel has.
use Rattle.std.specs.Prelude.{ℕ}
use Rattle.rule.specs.declared.Counts.{Counts}
use Rattle.rule.specs.declared.Left.{Left}
use Rattle.rule.specs.declared.Lent.{Lent}
use Rattle.rule.specs.Rows.{Row}
use Rattle.rule.specs.Channel.{Channel, channel}
use Rattle.rule.specs.Calls.{Called}

abbrev pub counted : Counts → Row → Row → Row → Row → Row → Row → Row → Channel
counted c h e u v Q F damping = channel c.n c.x c.t c.accepted c.wanted h e u v Q F damping

-- of rows that are lent to be read
abbrev pub lent : Lent → Channel
lent c = counted c.counts c.h.now c.e.now c.u.now c.v.now c.q.now c.f.now c.damping.now

-- the counts of a channel
abbrev pub counts_of : Channel → Counts
counts_of c = record { n = c.N; x = c.X; t = c.T; accepted = c.accepted; wanted = c.wanted }

-- with so many steps accepted
abbrev pub after : Counts → ℕ → Counts
after c accepted = record { n = c.n; x = c.x; t = c.t; accepted = accepted; wanted = c.wanted }

-- a call's answer, and the channel as it leaves it
abbrev pub left : Counts → Left → Row → Row → Row → Row → Row → Row → Row → Called Channel
left c r h e u v Q F damping = record { answer = r.answer; left = counted (after c r.accepted) h e u v Q F damping }

-- and back
abbrev pub left_of : Called Channel → Left
left_of k = record { answer = k.answer; accepted = k.left.accepted }
