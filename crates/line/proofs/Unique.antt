-- The printed line: the contract of `line` settles its outcome. Two outcomes that it permits of one call have the same length,
-- and leave the same in the buffer. `Post` is the contract itself, as the check reads it. Assumes nothing.
use mathlib.Core.Path.{◌≡◌, sym, ◌∙◌}
use contract.Lifetimes.{Lfts}
use denote.Triple.Clauses.{AtExit}
use borrow.Fn.Kinds.{Dens, res_t, ended_of}
use Rattle.line.proofs.line.Kinds as kinds
use Rattle.line.proofs.line.Reads.{Post}

module _ (κs : Lfts 2) (a : Dens κs kinds.ps) (r r' : (res_t kinds.r κs).Denot) (x x' : AtExit (ended_of 2 kinds.ps kinds.r) κs) where
  -- in the length and in the buffer: the last of the two that line takes
  pub record Coincide : Type 0 where
    pub length : r ≡ r'
    pub buffer : x.1.0.now ≡ x'.1.0.now

  pub one_outcome : Post κs a r x → Post κs a r' x' → Coincide
  one_outcome p p' = record { length = p.0 ∙ sym p'.0; buffer = p.1 ∙ sym p'.1 }
