-- Making over the bytes of a channel file: the contract of `make` settles its outcome. Two outcomes that it permits of one call
-- have the same answer, and leave the same in the buffer. `Post` is the contract itself, as the check reads it. Assumes nothing.
use Prim.Native.Nat.{ℕ}
use mathlib.Core.Path.{◌≡◌, sym, ◌∙◌, ap}
use mathlib.Core.List.{List}
use contract.Lifetimes.{Lfts}
use denote.Triple.Clauses.{AtExit}
use borrow.Fn.Kinds.{Dens, res_t, ended_of}
use Rattle.rule.specs.Calls.{Called}
use Rattle.make_file.proofs.make.Kinds as kinds
use Rattle.make_file.proofs.make.Reads.{Post}

module _ (κs : Lfts 5) (a : Dens κs kinds.ps) (r r' : (res_t kinds.r κs).Denot) (x x' : AtExit (ended_of 5 kinds.ps kinds.r) κs) where
  -- in the answer and in the buffer: the last of the nine that make takes
  pub record Coincide : Type 0 where
    pub answer : r ≡ r'
    pub file : x.1.1.1.1.1.1.1.1.0.now ≡ x'.1.1.1.1.1.1.1.1.0.now

  pub one_outcome : Post κs a r x → Post κs a r' x' → Coincide
  one_outcome p p' =
      let same = p ∙ sym p' in
      record { answer = ap (λ (c : Called (List ℕ)). c.answer) same; file = ap (λ (c : Called (List ℕ)). c.left) same }
