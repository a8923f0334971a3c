-- The channel file: what a file of n cells holds. Its rows are as long as those of n cells, and read into arrays. Assumes nothing.
use Rattle.std.specs.Borrow.{Bor}
use Rattle.std.specs.Bool.{then_some}
use Rattle.std.specs.Prelude.{ℕ, ◌*◌, ◌/◌, ◌≤◌, ◌≡◌, refl, Bool, true, false, ◌&&◌, List, [], ◌∷◌, Option, None, Some, length, take}
use Rattle.std.proofs.Common.{sym, ◌∙◌, ap, arith, le-leb, eq-eqb, eqb-true}
use Rattle.whole.specs.Row.{zeros, padded, take_padded}
use Rattle.rule.specs.Rows.{Row, all}
use Rattle.rule.specs.Ranges.{least_cells, most_cells, between, cells_allowed}
use Rattle.rule.specs.Channel.{lengths}
use Rattle.rule.specs.Checks.{long, shaped}
use Rattle.rule.specs.Bytes.{row_at}
use Rattle.rule.specs.Layout.{length_of}
use Rattle.rule.specs.File.{edition, least_length, count_of, channel_of}
use Rattle.rule.specs.Calls.{row_in, holds}
use Rattle.little.specs.Entries.{length-row_at}
use Rattle.checks.specs.Tests.{is_same}
use Rattle.layout.specs.Rows.{lengths_of_file}
use Rattle.checks.specs.Allowed.{poured_rows}
use Rattle.form.specs.Reader.{fits_in, fits_lent, rows_in, shape_passes}

-- N of the channel in a file
pub cells_is : (s : List ℕ) → (channel_of s).N ≡ count_of s 1
unfolding channel_of
cells_is s = refl

pub shaped_held : (s : List ℕ) (poured : List Row) → cells_allowed (count_of s 1) ≡ true → long (count_of s 1) poured ≡ true → shaped (channel_of s) poured ≡ true
unfolding shaped channel_of
shaped_held s poured p q = rw (lengths_of_file s, is_same (lengths (count_of s 1)), p, q)

-- a poured row of n entries: its bytes, and its length
pub poured_bytes : (p : List ℕ) (n : ℕ) → holds p n ≡ true → length p ≡ 4 * n
unfolding holds
poured_bytes p n e = eqb-true (length p) (4 * n) e

pub poured_is : (p : List ℕ) (n : ℕ) → holds p n ≡ true → row_at 4 p 0 n ≡ row_in p
unfolding row_in
poured_is p n e =
    let b = poured_bytes p n e in
    let d : n ≡ length p / 4 = omega arith in
    ap (row_at 4 p 0) d

row_long : (p : List ℕ) (n : ℕ) → holds p n ≡ true → length (row_in p) ≡ n
row_long p n e = ap length (sym (poured_is p n e)) ∙ length-row_at 4 p 0 n

pub poured_long : (poured : Option (Bor (List ℕ))) (n : ℕ) → fits_lent poured n ≡ true → long n (rows_in poured) ≡ true
unfolding long all
poured_long (Some p) n e = rw (eq-eqb (length (row_in p.now)) n (row_long p.now n e))
poured_long None n e = refl

-- the row in an array, and zeros where none is poured
unfoldable pub poured_array : Option (Bor (List ℕ)) → ℕ → Row
poured_array (Some p) n = padded n (row_in p.now)
poured_array None n = zeros

-- of a call that pours or not, and what it takes of the array
pub fits_poured : (pours : Bool) (p : Bor (List ℕ)) (n : ℕ) → fits_lent (then_some pours p) n ≡ fits_in pours p.now n
unfolding fits_in
fits_poured true p n = refl
fits_poured false p n = refl

pub poured_cut : (pours : Bool) (n : ℕ) (p : Bor (List ℕ)) {array : Row} → array ≡ poured_array (then_some pours p) n → fits_in pours p.now n ≡ true → poured_rows pours (take n array) ≡ poured_rows pours (row_in p.now)
unfolding poured_array fits_in
poured_cut true n p e z = ap (λ row. row ∷ []) (ap (take n) e ∙ take_padded n (row_in p.now) (row_long p.now n z))
poured_cut false n p e z = refl

implied : (a b c : Bool) → (b ≡ true → c ≡ true) → a && b ≡ a && b && c
implied false b c h = refl
implied true false c h = refl
implied true true c h = sym (h refl)

-- 1, as the code tests it
pub shape_is : (poured : Option (Bor (List ℕ))) (n : ℕ) → cells_allowed n && fits_lent poured n ≡ shape_passes (fits_lent poured) (rows_in poured) n
unfolding shape_passes
shape_is poured n = implied (cells_allowed n) (fits_lent poured n) (long n (rows_in poured)) (poured_long poured n)

-- what is asked of a file of n cells past its head and past 1, and of the row that is poured
pub record Begun (n : ℕ) (poured : Option (Bor (List ℕ))) (s : List ℕ) : Type 0 where
  pub head : least_length ≤ length s
  pub cells : count_of s 1 ≡ n
  pub least : least_cells ≤ n
  pub most : n ≤ most_cells
  pub fits : fits_lent poured n ≡ true

-- and of the file past its form
pub record Formed (n : ℕ) (s : List ℕ) : Type 0 where
  pub cells : count_of s 1 ≡ n
  pub least : least_cells ≤ n
  pub most : n ≤ most_cells
  pub long : length s ≡ length_of edition n

pub cells_allowed_lem : (n : ℕ) → least_cells ≤ n → n ≤ most_cells → cells_allowed n ≡ true
unfolding cells_allowed between
cells_allowed_lem n p q = rw (le-leb least_cells n p, le-leb n most_cells q)

pub begun_shaped : (n : ℕ) (poured : Option (Bor (List ℕ))) (s : List ℕ) → Begun n poured s → shaped (channel_of s) (rows_in poured) ≡ true
begun_shaped n poured s b =
    shaped_held s (rows_in poured) (rw b.cells (cells_allowed_lem n b.least b.most)) (rw b.cells (poured_long poured n b.fits))

-- a row in an array, cut to its length
pub four_cut : (s : List ℕ) (at n : ℕ) {array : Row} → array ≡ padded n (row_at 4 s at n) → take n array ≡ row_at 4 s at n
four_cut s at n q = ap (take n) q ∙ take_padded n (row_at 4 s at n) (length-row_at 4 s at n)

-- and so the row that is poured
pub read_cut : (p : List ℕ) (n : ℕ) {array : Row} → array ≡ padded n (row_at 4 p 0 n) → holds p n ≡ true → take n array ≡ row_in p
read_cut p n e z = four_cut p 0 n e ∙ poured_is p n z
