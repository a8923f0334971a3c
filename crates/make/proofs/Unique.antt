-- Making: the contract of `make` settles its outcome. Two outcomes that it permits of one call have the same answer, and leave
-- the same in every lent value. `Post` is the contract itself, as the check reads it. Assumes nothing.
use mathlib.Core.Path.{◌≡◌, sym, ◌∙◌, ap}
use contract.Lifetimes.{Lfts}
use denote.Triple.Clauses.{AtExit}
use borrow.Fn.Kinds.{Dens, res_t, ended_of}
use Rattle.rule.specs.Channel.{Channel}
use Rattle.rule.specs.Calls.{Called}
use Rattle.rule.specs.Counted.{left_of}
use Rattle.make.proofs.make.Kinds as kinds
use Rattle.make.proofs.make.Reads.{Post}

module _ (κs : Lfts 7) (a : Dens κs kinds.ps) (r r' : (res_t kinds.r κs).Denot) (x x' : AtExit (ended_of 7 kinds.ps kinds.r) κs) where
  -- in the answer with the count, and in each row that is lent to be filled: the places of v, q and f among the eight that make takes
  pub record Coincide : Type 0 where
    pub answer : r ≡ r'
    pub v : x.1.1.1.1.0.now ≡ x'.1.1.1.1.0.now
    pub q : x.1.1.1.1.1.0.now ≡ x'.1.1.1.1.1.0.now
    pub f : x.1.1.1.1.1.1.0.now ≡ x'.1.1.1.1.1.1.0.now

  pub one_outcome : Post κs a r x → Post κs a r' x' → Coincide
  one_outcome p p' =
      let same = p ∙ sym p' in
      record {
        answer = ap left_of same;
        v = ap (λ (c : Called Channel). c.left.v) same;
        q = ap (λ (c : Called Channel). c.left.Q) same;
        f = ap (λ (c : Called Channel). c.left.F) same;
      }
