-- Any two outcomes that the contracts of the gauges' calls permit coincide: for all counts, rows and bytes that are lent, each answers
-- one answer and leaves one state, or one row of readings. `Post` is the contract itself, as the check reads it. Assumes nothing.
use mathlib.Core.Path.{◌≡◌, sym, ◌∙◌, ap}
use contract.Lifetimes.{Lfts}
use denote.Triple.Clauses.{AtExit}
use borrow.Fn.Kinds.{Dens, res_t, ended_of}
use Rattle.rule.specs.declared.Answer.{Answer}
use Rattle.rule.specs.Calls.{Called}
use Rattle.gauges.proofs.place.Kinds as place-kinds
use Rattle.gauges.proofs.place.Reads as place-reads
use Rattle.gauges.proofs.feed.Kinds as feed-kinds
use Rattle.gauges.proofs.feed.Reads as feed-reads
use Rattle.gauges.proofs.place_file.Kinds as place-file-kinds
use Rattle.gauges.proofs.place_file.Reads as place-file-reads
use Rattle.gauges.proofs.feed_file.Kinds as feed-file-kinds
use Rattle.gauges.proofs.feed_file.Reads as feed-file-reads
use Rattle.gauges.proofs.read.Kinds as read-kinds
use Rattle.gauges.proofs.read.Reads as read-reads

-- in what is answered and in what is left
pub record Coincide {A : Type 0} (r r' : Answer) (s s' : A) : Type 0 where
  pub answer : r ≡ r'
  pub left : s ≡ s'

coincide : {A : Type 0} (r r' : Answer) (s s' : A) → ◌≡◌ {A = Called A} (record { answer = r; left = s }) (record { answer = r'; left = s' }) → Coincide r r' s s'
coincide {A} r r' s s' same = record { answer = ap (λ (k : Called A). k.answer) same; left = ap (λ (k : Called A). k.left) same }

module _ (κs : Lfts 8) where
  pub one_outcome_place : (a : Dens κs place-kinds.ps) (r r' : (res_t place-kinds.r κs).Denot) (x x' : AtExit (ended_of 8 place-kinds.ps place-kinds.r) κs) → place-reads.Post κs a r x → place-reads.Post κs a r' x' → Coincide r r' x.1.1.1.1.1.1.1.1.1.0.now x'.1.1.1.1.1.1.1.1.1.0.now
  one_outcome_place a r r' x x' p p' = coincide r r' _ _ (p ∙ sym p')

  pub one_outcome_feed : (a : Dens κs feed-kinds.ps) (r r' : (res_t feed-kinds.r κs).Denot) (x x' : AtExit (ended_of 8 feed-kinds.ps feed-kinds.r) κs) → feed-reads.Post κs a r x → feed-reads.Post κs a r' x' → Coincide r r' x.1.1.1.1.1.1.1.1.0.now x'.1.1.1.1.1.1.1.1.0.now
  one_outcome_feed a r r' x x' p p' = coincide r r' _ _ (p ∙ sym p')

module _ (κs : Lfts 2) where
  pub one_outcome_place_file : (a : Dens κs place-file-kinds.ps) (r r' : (res_t place-file-kinds.r κs).Denot) (x x' : AtExit (ended_of 2 place-file-kinds.ps place-file-kinds.r) κs) → place-file-reads.Post κs a r x → place-file-reads.Post κs a r' x' → Coincide r r' x.1.1.0.now x'.1.1.0.now
  one_outcome_place_file a r r' x x' p p' = coincide r r' _ _ (p ∙ sym p')

  pub one_outcome_feed_file : (a : Dens κs feed-file-kinds.ps) (r r' : (res_t feed-file-kinds.r κs).Denot) (x x' : AtExit (ended_of 2 feed-file-kinds.ps feed-file-kinds.r) κs) → feed-file-reads.Post κs a r x → feed-file-reads.Post κs a r' x' → Coincide r r' x.1.0.now x'.1.0.now
  one_outcome_feed_file a r r' x x' p p' = coincide r r' _ _ (p ∙ sym p')

  pub one_outcome_read : (a : Dens κs read-kinds.ps) (r r' : (res_t read-kinds.r κs).Denot) (x x' : AtExit (ended_of 2 read-kinds.ps read-kinds.r) κs) → read-reads.Post κs a r x → read-reads.Post κs a r' x' → Coincide r r' x.1.0.now x'.1.0.now
  one_outcome_read a r r' x x' p p' = coincide r r' _ _ (p ∙ sym p')
