-- "Gauges": a row that is filled place by place, with m numbers for each. Assumes nothing.
use Prim.Native.Nat.{ℕ, zero, suc, ◌+◌, ◌*◌, ◌≤◌}
use Rattle.std.proofs.Math.Nat.{mul-suc}
use Rattle.std.proofs.Common.{mul-zero, add-one, arith, ◌∙◌, drop_of_length-le}
use Rattle.std.specs.Prelude.{◌≡◌}
use Rattle.std.proofs.Math.Path.{refl, sym, ap}
use mathlib.Core.List.{List, [], ◌∷◌, ◌++◌, append_assoc, append-nil}
use Rattle.std.proofs.Math.ListN.{length, length-append}
use Rattle.whole.specs.Row.{tab}
use Rattle.rule.specs.Rows.{Row, map}
use Rattle.rows.specs.All.{map_tab}
use Rattle.gauge.specs.declared.Gauge.{Gauge}
use Rattle.gauge.specs.State.{numbers, reading, gauge_at, gauges_in, flat, fed_from}
use Rattle.little.specs.Written.{written, written_then}

flat_snoc : (rows : List Row) (x : Row) → flat (rows ++ (x ∷ [])) ≡ flat rows ++ x
unfolding flat
flat_snoc [] x = append-nil x
flat_snoc (r ∷ rows) x = ap (λ t. r ++ t) (flat_snoc rows x) ∙ sym (append_assoc r (flat rows) x)

module _ (m : ℕ) (f : ℕ → Row) (long : (k : ℕ) → length (f k) ≡ m) where
  pub length-flat : (k : ℕ) → length (flat (tab k f)) ≡ m * k
  unfolding flat tab
  length-flat zero = sym (mul-zero m)
  length-flat (suc k) =
      let e : length (flat (tab k f)) ≡ m * k = length-flat k in
      let n : m * suc k ≡ m * k + m = mul-suc m k in
      ap length (flat_snoc (tab k f) (f k)) ∙ length-append (flat (tab k f)) (f k) ∙ omega (arith, long k)

  -- what a loop keeps that has filled the first k places, with `old` what the row was before
  pub record Chunked (old : Row) (k : ℕ) (out : Row) : Type 0 where
    pub is : out ≡ written old 0 (flat (tab k f))

  pub chunked_start : (old : Row) → Chunked old 0 old
  unfolding written flat tab
  chunked_start old = record { is = refl }

  pub chunked_more : (old out out' : Row) (k : ℕ) → Chunked old k out → out' ≡ written out (m * k) (f k) → Chunked old (k + 1) out'
  unfolding tab
  chunked_more old out out' k c e =
      record {
        is =
            e
            ∙ ap (λ t. written t (m * k) (f k)) c.is
            ∙ written_then old 0 (flat (tab k f)) (f k) (m * k) (omega (arith, length-flat k)) (omega arith)
            ∙ ap (written old 0) (sym (flat_snoc (tab k f) (f k)) ∙ ap (λ n. flat (tab n f)) (sym (add-one k)));
      }

  pub chunked_end : (old out : Row) (k : ℕ) → Chunked old k out → length old ≡ m * k → out ≡ flat (tab k f)
  unfolding written
  chunked_end old out k c h =
      let n : length old ≤ 0 + length (flat (tab k f)) = omega (arith, h, length-flat k) in
      c.is ∙ ap (λ t. flat (tab k f) ++ t) (drop_of_length-le old n) ∙ append-nil (flat (tab k f))

-- the numbers of the gauges of a row, each fed; and what is read of them
unfoldable pub fed_place : Row → Row → ℕ → Row
fed_place e row k = numbers (fed_from e (gauge_at row k))

pub long_numbers : (g : Gauge) → length (numbers g) ≡ 8
unfolding numbers
long_numbers g = refl

pub long_fed : (e row : Row) (k : ℕ) → length (fed_place e row k) ≡ 8
unfolding fed_place
long_fed e row k = long_numbers (fed_from e (gauge_at row k))

pub fed_all_lem : (e row : Row) → flat (tab 8 (fed_place e row)) ≡ flat (map numbers (map (fed_from e) (gauges_in row)))
unfolding gauges_in fed_place
fed_all_lem e row = ap flat (sym (ap (map numbers) (map_tab (fed_from e) 8 (gauge_at row)) ∙ map_tab numbers 8 (λ k. fed_from e (gauge_at row k))))

unfoldable pub read_place : Row → ℕ → Row
read_place row k = reading (gauge_at row k)

pub long_read : (row : Row) (k : ℕ) → length (read_place row k) ≡ 6
unfolding read_place reading
long_read row k = refl

pub read_all : (row : Row) → flat (tab 8 (read_place row)) ≡ flat (map reading (gauges_in row))
unfolding gauges_in read_place
read_all row = ap flat (sym (map_tab reading 8 (gauge_at row)))
