-- An outcome of a call: any that the contract of its function permits.
use Rattle.std.specs.Prelude.{ℕ, List}
use contract.Lifetimes.{Lfts}
use denote.Triple.Clauses.{AtExit}
use borrow.Fn.Kinds.{ParamKind, ResultKind, Dens, res_t, ended_of, Out}

-- of a function of n lifetimes with the parameters ps and the result R: the arguments a, the answer r and the values at exit x.
-- `Post` is the contract itself, as the check reads it
pub record Outcome (n : ℕ) (ps : List (ParamKind n)) (R : ResultKind n) (Post : Out n ps R) : Type 0 where
  pub κs : Lfts n
  pub a : Dens κs ps
  pub r : (res_t R κs).Denot
  pub x : AtExit (ended_of n ps R) κs
  pub permitted : Post κs a r x
