-- A channel that is lent to a call: its counts by value, and its seven rows one after the other.
use Rattle.std.specs.Prelude.{Bool, true, false}
use Rattle.std.specs.Borrow.{Bor, MutBor}
use Rattle.rule.specs.declared.Counts.{Counts}
use Rattle.rule.specs.Rows.{Row}
use Rattle.rule.specs.Channel.{Channel}
use Rattle.rule.specs.Counted.{counted}

-- a row that is lent, to be changed or only to be read, and what it holds
abbrev pub Lends : Bool → Type 0
Lends true = MutBor Row
Lends false = Bor Row

abbrev pub held : (changed : Bool) → Lends changed → Row
held true r = r.now
held false r = r.now

-- before what else is lent: whether the depths and the damping may be changed, and whether the heights and the velocities
abbrev pub Rows : Bool → Bool → Type 0 → Type 0
Rows bed cells Rest = Lends bed × (Lends cells × (Lends cells × (MutBor Row × (MutBor Row × (MutBor Row × (Lends bed × Rest))))))

abbrev pub lent : (bed cells : Bool) → {Rest : Type 0} → Counts → Rows bed cells Rest → Channel
lent bed cells c r = counted c (held bed r.0) (held cells r.1.0) (held cells r.1.1.0) r.1.1.1.0.now r.1.1.1.1.0.now r.1.1.1.1.1.0.now (held bed r.1.1.1.1.1.1.0)

-- with the depths and the damping as they were
abbrev pub left : {Rest Rest' : Type 0} → Counts → Rows false true Rest → Rows false true Rest' → Channel
left c r x = counted c r.0.now x.1.0.now x.1.1.0.now x.1.1.1.0.now x.1.1.1.1.0.now x.1.1.1.1.1.0.now r.1.1.1.1.1.1.0.now

-- and with the heights and velocities too
abbrev pub made : {Rest Rest' : Type 0} → Counts → Rows false false Rest → Rows false false Rest' → Channel
made c r x = counted c r.0.now r.1.0.now r.1.1.0.now x.1.1.1.0.now x.1.1.1.1.0.now x.1.1.1.1.1.0.now r.1.1.1.1.1.1.0.now
