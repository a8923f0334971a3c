-- That histories of any calls exist: what such a history is, and the lent rows that it is made of.
use Rattle.std.specs.Prelude.{ℕ, Bool, true, false, zero, suc, ◌≡◌, List, []}
use contract.Lifetimes.{Lfts}
use Rattle.std.specs.Borrow.{Bor, MutBor}
use Rattle.rule.specs.declared.Answer.{Answer}
use Rattle.rule.specs.Rows.{Row}
use Rattle.rule.specs.Channel.{Channel}
use Rattle.water.specs.History.{Call}
use Rattle.history.specs.Lent.{Lends, Rows}
use Rattle.history.specs.History.{Link, History, calls}
use Rattle.history.specs.AnyCalls.{AnyCall, asked_by, asked, answers}

-- lifetimes that end never, and a reference to a value, to be read or to be changed
abbrev pub forever : (n : ℕ) → Lfts n
forever zero = tt
forever (suc n) = ([], forever n)

abbrev pub ref : {X : Type 0} → X → Bor X
ref v = record { ref_ptr = (0, 0); now = v }

abbrev pub mut : {X : Type 0} → X → MutBor X
mut v = record { ref_ptr = (0, 0); ghost_name = 0; now = v }

-- the rows of a channel, lent
abbrev pub row_of : (changed : Bool) → Row → Lends changed
row_of true r = mut r
row_of false r = ref r

abbrev pub rows : (bed cells : Bool) → {Rest : Type 0} → Channel → Rest → Rows bed cells Rest
rows bed cells c rest = (row_of bed c.h, (row_of cells c.e, (row_of cells c.u, (mut c.v, (mut c.Q, (mut c.F, (row_of bed c.damping, rest)))))))

-- one call, from c to d
pub record Linked (c d : Channel) (call : AnyCall) : Type 0 where
  pub link : Link c d
  pub asks : asked_by link ≡ call

-- a history from c to d of these calls, the rule's for them, which answer so
pub record Made (c d : Channel) (asking : List AnyCall) (ruled : List Call) (given : List Answer) : Type 0 where
  pub history : History c d
  pub asks : asked history ≡ asking
  pub calls : calls history ≡ ruled
  pub answers : answers history ≡ given

pub record RuleMade (c d : Channel) (ruled : List Call) : Type 0 where
  pub history : History c d
  pub calls : calls history ≡ ruled
