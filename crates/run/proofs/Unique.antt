-- Running: the contracts of `run` and `run_for` settle their outcomes. Two outcomes that a contract permits of one call have
-- the same answer, and leave the same in every lent value. `Post` is the contract itself, as the check reads it. Assumes nothing.
use mathlib.Core.Path.{◌≡◌, sym, ◌∙◌, ap}
use contract.Lifetimes.{Lfts}
use denote.Triple.Clauses.{AtExit}
use borrow.Fn.Kinds.{Dens, res_t, ended_of}
use Rattle.rule.specs.declared.Left.{Left}
use Rattle.rule.specs.Counted.{left_of}
use Rattle.rule.specs.Rows.{Row}
use Rattle.rule.specs.Channel.{Channel}
use Rattle.rule.specs.Calls.{Called}
use Rattle.run.proofs.run.Kinds as run-kinds
use Rattle.run.proofs.run.Reads as run-reads
use Rattle.run_for.proofs.run_for.Kinds as run-for-kinds
use Rattle.run_for.proofs.run_for.Reads as run-for-reads

-- the values that are lent to be changed
pub record Lent : Type 0 where
  pub e : Row
  pub u : Row
  pub v : Row
  pub q : Row
  pub f : Row

-- in the answer and in each of them
pub record Coincide (r r' : Left) (x x' : Lent) : Type 0 where
  pub answer : r ≡ r'
  pub e : x.e ≡ x'.e
  pub u : x.u ≡ x'.u
  pub v : x.v ≡ x'.v
  pub q : x.q ≡ x'.q
  pub f : x.f ≡ x'.f

abbrev in_channel : Channel → Lent
in_channel c = record { e = c.e; u = c.u; v = c.v; q = c.Q; f = c.F }

coincide : (k k' : Called Channel) → k ≡ k' → Coincide (left_of k) (left_of k') (in_channel k.left) (in_channel k'.left)
coincide k k' same =
    record {
      answer = ap left_of same;
      e = ap (λ (k : Called Channel). k.left.e) same;
      u = ap (λ (k : Called Channel). k.left.u) same;
      v = ap (λ (k : Called Channel). k.left.v) same;
      q = ap (λ (k : Called Channel). k.left.Q) same;
      f = ap (λ (k : Called Channel). k.left.F) same;
    }

-- of the eight that run takes
module _ (κs : Lfts 7) where
  abbrev pub left : AtExit (ended_of 7 run-kinds.ps run-kinds.r) κs → Lent
  left x =
      record {
        e = x.1.1.0.now;
        u = x.1.1.1.0.now;
        v = x.1.1.1.1.0.now;
        q = x.1.1.1.1.1.0.now;
        f = x.1.1.1.1.1.1.0.now;
      }

  pub one_outcome : (a : Dens κs run-kinds.ps) (r r' : (res_t run-kinds.r κs).Denot) (x x' : AtExit (ended_of 7 run-kinds.ps run-kinds.r) κs) → run-reads.Post κs a r x → run-reads.Post κs a r' x' → Coincide r r' (left x) (left x')
  one_outcome a r r' x x' p p' = coincide _ _ (p ∙ sym p')

-- and of those after `most` that run_for takes
module _ (κs : Lfts 7) where
  abbrev pub left_for : AtExit (ended_of 7 run-for-kinds.ps run-for-kinds.r) κs → Lent
  left_for x = left κs x.1

  pub one_outcome_for : (a : Dens κs run-for-kinds.ps) (r r' : (res_t run-for-kinds.r κs).Denot) (x x' : AtExit (ended_of 7 run-for-kinds.ps run-for-kinds.r) κs) → run-for-reads.Post κs a r x → run-for-reads.Post κs a r' x' → Coincide r r' (left_for x) (left_for x')
  one_outcome_for a r r' x x' p p' = coincide _ _ (p ∙ sym p')
