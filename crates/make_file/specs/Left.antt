-- Making over the bytes of a channel file: the channel that make leaves in lent rows is the one that is written. Assumes nothing.
use Rattle.std.specs.Prelude.{ℕ, ◌*◌, ◌≤◌, ◌≡◌, true, ◌&&◌, List, [], length, take}
use Rattle.std.proofs.Common.{sym, ◌∙◌, eq-eqb, eqb-true}
use Rattle.std.proofs.Math.Path.{ap}
use Rattle.whole.specs.Row.{padded}
use Rattle.rule.specs.declared.Refusal.{Refusal}
use Rattle.rule.specs.Rows.{Row}
use Rattle.rule.specs.Ranges.{cells_allowed, least_cells, most_cells}
use Rattle.rule.specs.Channel.{Channel, rows}
use Rattle.rule.specs.Refusals.{Outcome, refused, done, ◌>>=◌, require}
use Rattle.rule.specs.Make.{make}
use Rattle.rule.specs.Bytes.{row_at}
use Rattle.rule.specs.Layout.{length_of}
use Rattle.rule.specs.File.{edition, file_of}
use Rattle.rule.specs.Calls.{Called, called, plainly, fit, make_call, row_in, holds}
use Rattle.places.specs.Faults.{told}
use Rattle.checks.specs.Tests.{both}
use Rattle.checks.specs.Numbers.{number_not_0}
use Rattle.checks.specs.Facts.{cells_few, lengths_pass, LengthsOf}
use Rattle.checks.specs.Made.{Makeable}
use Rattle.answers.specs.Stages.{leaves, leaves_bytes, acceptance, early}
use Rattle.form.specs.Reader.{fits_in}
use Rattle.opened.specs.Held.{poured_is, four_cut}
use Rattle.water.specs.Starts.{make_passes}
use Rattle.put.specs.Asked.{writable_of, WritableOf}
use Rattle.make_checks.specs.Order.{filed}

-- n cells, their rows, and a buffer of their file's length
pub record Fitting (n : ℕ) (h e u damping : Row) (s : List ℕ) : Type 0 where
  pub least : least_cells ≤ n
  pub most : n ≤ most_cells
  pub h_long : length h ≡ n
  pub e_long : length e ≡ n
  pub u_long : length u ≡ n
  pub damping_long : length damping ≡ n
  pub sized : length s ≡ length_of edition n

pub fitting_of : (n X T wanted : ℕ) (h e u damping : Row) (s : List ℕ) → Makeable n X T wanted h e u damping × (length s ≡ length_of edition n) → Fitting n h e u damping s
fitting_of n X T wanted h e u damping s p =
    let c = p.0.cells in
    record { least = c.least; most = c.most; h_long = c.h_long; e_long = c.e_long; u_long = c.u_long; damping_long = p.0.damped.long; sized = p.1 }

-- lent rows of a channel's lengths are not refused
fits : (c : Channel) → LengthsOf c → fit c c.N ≡ true
unfolding fit rows
fits c l = lengths_pass c.N c.h c.e c.u c.v c.Q c.F c.damping l

-- an outcome m of a call on the lent channel, told by what is answered and by the channel c that it leaves
module _ (lent c : Channel) (s : List ℕ) where
  refuses : (m : Outcome Channel) (r : Refusal) → leaves (early (told r)) c ≡ plainly lent m → leaves_bytes (early (told r)) s ≡ filed s m
  unfolding plainly filed called
  refuses (refused why k) r p = ap (λ (t : Called Channel). leaves_bytes t.answer s) p
  refuses (done b) r p = absurd (number_not_0 r (ap (λ (t : Called Channel). t.answer.number) p))

  makes : (m : Outcome Channel) → leaves (acceptance 0) c ≡ plainly lent m → m ≡ done c
  unfolding plainly called
  makes (refused why k) p = absurd (number_not_0 why (sym (ap (λ (t : Called Channel). t.answer.number) p)))
  makes (done b) p = ap (λ (t : Called Channel). done t.left) (sym p)

  files : (m : Outcome Channel) (after : List ℕ) → m ≡ done c → after ≡ file_of c → leaves_bytes (acceptance 0) after ≡ filed s m
  unfolding filed called
  files m after p q = rw p (ap (leaves_bytes (acceptance 0)) q)

-- of make, on lent rows of the lengths that it asks
module _ (lent c : Channel) (s : List ℕ) (long : LengthsOf lent) where
  abbrev made : Outcome Channel
  made = make lent.N lent.X lent.T lent.wanted lent.h lent.e lent.u lent.damping

  call_is : make_call lent ≡ plainly lent made
  unfolding make_call require ◌>>=◌
  call_is = rw (fits lent long)

  pub made_refused : (r : Refusal) → leaves (early (told r)) c ≡ make_call lent → leaves_bytes (early (told r)) s ≡ filed s made
  made_refused r is = refuses lent c s made r (is ∙ call_is)

  pub made_writable : leaves (acceptance 0) c ≡ make_call lent → WritableOf c
  made_writable is = writable_of c [] (make_passes lent.N lent.X lent.T lent.wanted lent.h lent.e lent.u lent.damping c (makes lent c s made (is ∙ call_is)))

  pub made_filed : (after : List ℕ) → leaves (acceptance 0) c ≡ make_call lent → after ≡ file_of c → leaves_bytes (acceptance 0) after ≡ filed s made
  made_filed after is q = files lent c s made after (makes lent c s made (is ∙ call_is)) q

-- rows of n entries in bytes
pub record Held (n : ℕ) (h e u damping : List ℕ) : Type 0 where
  pub least : least_cells ≤ n
  pub most : n ≤ most_cells
  pub hold : holds h n && holds e n && holds u n && holds damping n ≡ true
  pub h_bytes : length h ≡ 4 * n
  pub e_bytes : length e ≡ 4 * n
  pub u_bytes : length u ≡ 4 * n
  pub damping_bytes : length damping ≡ 4 * n

pub held_of : (n : ℕ) (h e u damping : List ℕ) → cells_allowed n && (holds h n && holds e n && holds u n && holds damping n) ≡ true → Held n h e u damping
unfolding holds
held_of n h e u damping z =
    let p = both (cells_allowed n) (holds h n && holds e n && holds u n && holds damping n) z in
    let d = both (holds h n && holds e n && holds u n) (holds damping n) p.1 in
    let q = both (holds h n && holds e n) (holds u n) d.0 in
    let r = both (holds h n) (holds e n) q.0 in
    let few = cells_few n p.0 in
    record {
      least = few.0;
      most = few.1;
      hold = p.1;
      h_bytes = eqb-true (length h) (4 * n) r.0;
      e_bytes = eqb-true (length e) (4 * n) r.1;
      u_bytes = eqb-true (length u) (4 * n) q.1;
      damping_bytes = eqb-true (length damping) (4 * n) d.1;
    }

-- a row that was read into an array, cut to its length
pub row_read : (p : List ℕ) (n : ℕ) {array : Row} → length p ≡ 4 * n → array ≡ padded n (row_at 4 p 0 n) → take n array ≡ row_in p
unfolding fits_in holds
row_read p n e q = four_cut p 0 n q ∙ poured_is p n (eq-eqb (length p) (4 * n) e)
