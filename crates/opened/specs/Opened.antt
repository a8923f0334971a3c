-- The channel file: what the reader's fault says. At number 0 the file is right and holds a channel that passes the checks; any other is a refusal's, at stage 0. Assumes nothing.
use Rattle.std.specs.Borrow.{Bor}
use Rattle.std.specs.Bool.{then_some}
use Rattle.std.specs.Prelude.{ℕ, ◌≤◌, ◌≡◌, Bool, true, false, not, ◌&&◌, List, [], ◌∷◌, Ok, Option, None, ltb, eqb, length}
use Rattle.std.proofs.Math.Path.{refl, sym}
use Rattle.std.proofs.Common.{◌∙◌, ap, eqb-true, ltb-false}
use Rattle.std.proofs.lemmas.Bool.{not-true}
use Rattle.rule.specs.Refusals.{Fault}
use Rattle.rule.specs.Rows.{Row, same}
use Rattle.rule.specs.Ranges.{least_cells, most_cells, cells_allowed}
use Rattle.rule.specs.Channel.{Channel}
use Rattle.rule.specs.declared.Refusal.{Refusal}
use Rattle.rule.specs.declared.Refusal.TheVariants.{Shape, FileLength, FileEdition, FileOffsets}
use Rattle.rule.specs.Refusals.{Outcome, done, number_of, fault_of, met_as, number, ◌>>=◌, require}
use Rattle.rule.specs.Checks.{long, allowed, checked, shaped}
use Rattle.rule.specs.Layout.{offsets, length_of}
use Rattle.rule.specs.File.{edition, least_length, count_of, offsets_in, channel_of, read_with}
use Rattle.rule.specs.Calls.{read, row_in, holds}
use Rattle.checks.specs.Tests.{both, same_is}
use Rattle.checks.specs.Numbers.{both_done, number_of_done, passed, passed_last, passes, after_done, done_of, numbered, Outside, refuses_then, refuses_test, Refused, refused_of_lem, Early}
use Rattle.places.specs.Met.{as_done}
use Rattle.checks.specs.Met.{allowed_outside}
use Rattle.checks.specs.Allowed.{poured_rows}
use Rattle.checks.specs.Facts.{cells_few}
use Rattle.form.specs.Reader.{fits_in, fits_lent, rows_in, head_tests, form_tests, shape_passes, body_tests, read_is}
use Rattle.opened.specs.Held.{shaped_held}

-- 12, then 13
pub head_passed : (s : List ℕ) → number_of (head_tests s) ≡ 0 → (least_length ≤ length s) × (count_of s 0 ≡ edition)
unfolding head_tests
head_passed s z =
    let p = passed (not (ltb (length s) least_length)) FileLength (λ _. require (eqb (count_of s 0) edition) FileEdition) z in
    (ltb-false (length s) least_length (not-true (ltb (length s) least_length) p.0), eqb-true (count_of s 0) edition (passed_last (eqb (count_of s 0) edition) FileEdition p.1))

-- 12, then 14
pub form_passed : (n : ℕ) (s : List ℕ) → number_of (form_tests n s) ≡ 0 → (length s ≡ length_of edition n) × (offsets_in edition s ≡ offsets edition n)
unfolding form_tests
form_passed n s z =
    let p = passed (eqb (length s) (length_of edition n)) FileLength (λ _. require (same (offsets_in edition s) (offsets edition n)) FileOffsets) z in
    (eqb-true (length s) (length_of edition n) p.0, same_is (offsets_in edition s) (offsets edition n) (passed_last (same (offsets_in edition s) (offsets edition n)) FileOffsets p.1))

let_by : (b : Bool) (r : Refusal) → b ≡ true → require b r ≡ done tt
unfolding require
let_by b r e = rw e

-- with nothing poured, as the code has it
pub none_read : (s : List ℕ) → read_with (fits_lent None) (rows_in None) s ≡ read s
unfolding read
none_read s = refl

-- with nothing poured it is the reader that is lent no rows, and with a row poured the one of a step over the file's bytes
pub plain_read : (p s : List ℕ) → read_with (fits_in false p) [] s ≡ read s
unfolding fits_in read
plain_read p s = refl

pub poured_read : (p s : List ℕ) → read_with (fits_in true p) (row_in p ∷ []) s ≡ read_with (holds p) (row_in p ∷ []) s
unfolding fits_in
poured_read p s = refl

-- of a call that pours or not, as the code has it
pub lent_read : (pours : Bool) (p : Bor (List ℕ)) (s : List ℕ) {o : Option (Bor (List ℕ))} → o ≡ then_some pours p → read_with (fits_lent o) (rows_in o) s ≡ read_with (fits_in pours p.now) (poured_rows pours (row_in p.now)) s
unfolding fits_in
lent_read true p s e = rw e
lent_read false p s e = rw e

-- a file that the reader takes
pub record Opened (fits : ℕ → Bool) (poured : List Row) (s : List ℕ) : Type 0 where
  pub is : read_with fits poured s ≡ done (channel_of s)
  pub head : least_length ≤ length s
  pub first : count_of s 0 ≡ edition
  pub least : least_cells ≤ count_of s 1
  pub most : count_of s 1 ≤ most_cells
  pub sized : length s ≡ length_of edition (count_of s 1)
  pub placed : offsets_in edition s ≡ offsets edition (count_of s 1)
  pub fitting : fits (count_of s 1) ≡ true
  pub poured_long : long (count_of s 1) poured ≡ true
  pub checked_0 : number_of (checked (channel_of s) poured) ≡ 0

module _ (fits : ℕ → Bool) (poured : List Row) (s : List ℕ) where
  -- from the number 0
  pub opened_of : 0 ≡ number_of (read_with fits poured s) → Opened fits poured s
  unfolding shape_passes body_tests checked
  opened_of z =
      let n = count_of s 1 in
      let rest : Unit {0} → Outcome Channel = λ _. body_tests n poured s >>= λ _. done (channel_of s) in
      let after : Unit {0} → Outcome Channel = λ _. require (shape_passes fits poured n) Shape >>= rest in
      let e : number_of (head_tests s >>= after) ≡ 0 = sym (ap number_of (read_is fits poured s)) ∙ sym z in
      let h = both_done (head_tests s) after e in
      let t = passed (shape_passes fits poured n) Shape rest h.1 in
      let b = both_done (body_tests n poured s) (λ _. done (channel_of s)) t.1 in
      let f = both_done (form_tests n s) (λ _. allowed (channel_of s) poured) b.0 in
      let r = both (cells_allowed n && fits n) (long n poured) t.0 in
      let c = both (cells_allowed n) (fits n) r.0 in
      let few = cells_few n c.0 in
      let top = head_passed s h.0 in
      let form = form_passed n s f.0 in
      record {
        is =
            read_is fits poured s
            ∙ after_done (head_tests s) tt after (done_of (head_tests s) h.0)
            ∙ after_done (require (shape_passes fits poured n) Shape) tt rest (let_by (shape_passes fits poured n) Shape t.0)
            ∙ after_done (body_tests n poured s) tt (λ _. done (channel_of s)) (done_of (body_tests n poured s) b.0);
        head = top.0;
        first = top.1;
        least = few.0;
        most = few.1;
        sized = form.0;
        placed = form.1;
        fitting = c.1;
        poured_long = r.1;
        checked_0 = numbered (passes (shaped (channel_of s) poured) Shape (λ _. allowed (channel_of s) poured) (shaped_held s poured c.0 r.1)) ∙ f.1;
      }

  pub taken_of : {u : Unit {0}} → Ok u ≡ met_as (λ _. tt) (read_with fits poured s) → Opened fits poured s
  taken_of e = let d = as_done (λ _. tt) (read_with fits poured s) _ e in opened_of (sym (number_of_done _ d.result d.is))

  -- a refusal of a reader has stage 0
  pub read_outside : Outside (read_with fits poured s)
  unfolding read_with number
  read_outside =
      refuses_test Early _ FileLength _ refl
      (refuses_test Early _ FileEdition _ refl
      (refuses_test Early _ Shape _ refl
      (refuses_test Early _ FileLength _ refl
      (refuses_test Early _ FileOffsets _ refl
      (refuses_then Early (allowed (channel_of s) poured) _ (allowed_outside (channel_of s) poured) (λ _. tt))))))

  -- from any other
  pub read_refused : (f : Fault) → f ≡ fault_of (read_with fits poured s) → (f.number ≡ 0 → ⊥) → Refused Early f (read_with fits poured s)
  read_refused f e z = refused_of_lem Early f (read_with fits poured s) read_outside e z
