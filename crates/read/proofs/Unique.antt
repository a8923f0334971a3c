-- Reading: the contract of `read` settles its outcome. Two outcomes that it permits of one call have the same answer, and leave
-- the same in every lent value. `Post` is the contract itself, as the check reads it. Assumes nothing.
use mathlib.Core.Path.{◌≡◌, sym, ◌∙◌, ap}
use borrow.Fn.Kinds.{Dens, res_t, ended_of}
use contract.Lifetimes.{Lfts}
use denote.Triple.Clauses.{AtExit}
use Rattle.rule.specs.Channel.{Channel}
use Rattle.rule.specs.Calls.{Called}
use Rattle.read.specs.Left.{read_of}
use Rattle.read.proofs.read.Kinds as kinds
use Rattle.read.proofs.read.Reads.{Post}

module _ (κs : Lfts 8) (a : Dens κs kinds.ps) (r r' : (res_t kinds.r κs).Denot) (y y' : AtExit (ended_of 8 kinds.ps kinds.r) κs) where
  -- in the answer with the counts, and in each row that is lent to be filled: the places after the first two of the nine that
  -- read takes
  pub record Coincide : Type 0 where
    pub answer : r ≡ r'
    pub h : y.1.1.0.now ≡ y'.1.1.0.now
    pub e : y.1.1.1.0.now ≡ y'.1.1.1.0.now
    pub u : y.1.1.1.1.0.now ≡ y'.1.1.1.1.0.now
    pub v : y.1.1.1.1.1.0.now ≡ y'.1.1.1.1.1.0.now
    pub q : y.1.1.1.1.1.1.0.now ≡ y'.1.1.1.1.1.1.0.now
    pub f : y.1.1.1.1.1.1.1.0.now ≡ y'.1.1.1.1.1.1.1.0.now
    pub damping : y.1.1.1.1.1.1.1.1.0.now ≡ y'.1.1.1.1.1.1.1.1.0.now

  pub one_outcome : Post κs a r y → Post κs a r' y' → Coincide
  one_outcome p p' =
      let same = p.0 ∙ sym p'.0 in
      record {
        answer = ap read_of same;
        h = ap (λ (c : Called Channel). c.left.h) same;
        e = ap (λ (c : Called Channel). c.left.e) same;
        u = ap (λ (c : Called Channel). c.left.u) same;
        v = ap (λ (c : Called Channel). c.left.v) same;
        q = ap (λ (c : Called Channel). c.left.Q) same;
        f = ap (λ (c : Called Channel). c.left.F) same;
        damping = ap (λ (c : Called Channel). c.left.damping) same;
      }
