-- The channel file: runs of bytes stored one after the other are one run. Assumes nothing.
use Prim.Native.Nat.{ℕ, ◌+◌, ◌*◌, ◌≤◌}
use Rattle.std.proofs.Common.{arith, ◌∙◌}
use Rattle.std.specs.Prelude.{◌≡◌}
use Rattle.std.proofs.Math.Path.{refl, sym, ap}
use mathlib.Core.List.{List, [], ◌∷◌, ◌++◌, append_assoc, append-nil}
use Rattle.std.proofs.Math.ListN.{length}
use Rattle.rule.specs.Rows.{Row, map}
use Rattle.rule.specs.Channel.{Channel, channel, rows, lengths}
use Rattle.rule.specs.Bytes.{row_bytes}
use Rattle.rule.specs.Layout.{widths, head_length, span, start_of, length_of}
use Rattle.rule.specs.File.{edition, head_bytes, body_bytes, file_of}
use Rattle.little.specs.Written.{written, length_written, written_then, written_all}
use Rattle.layout.specs.Places.{start_is, stands, head_within}
use Rattle.layout.specs.Counts.{length_head, head_append}
use Rattle.files.specs.Parts.{length_body}
use Rattle.files.specs.Whole.{head_of, length_head_of, length-file_of}
use Rattle.put.specs.Asked.{Buffer, FourRows, Levels, Writable}

-- two runs
two_runs :
    (d e f : List ℕ) (at next : ℕ) (x y : List ℕ) → at ≤ length d → e ≡ written d at x → next ≡ at + length x →
    f ≡ written e next y → f ≡ written d at (x ++ y)
two_runs d e f at next x y h p l q = q ∙ ap (λ t. written t next y) p ∙ written_then d at x y next l h

-- counts, and more of them
pub more_counts :
    (d e f : List ℕ) (next : ℕ) (ms ns : List ℕ) → next ≡ 4 * length ms → e ≡ written d 0 (head_bytes ms) →
    f ≡ written e next (head_bytes ns) → f ≡ written d 0 (head_bytes (ms ++ ns))
more_counts d e f next ms ns l p q =
    let k : length (head_bytes ms) ≡ 4 * length ms = length_head ms in
    two_runs d e f 0 next (head_bytes ms) (head_bytes ns) (omega arith) p (omega arith) q
    ∙ ap (written d 0) (sym (head_append ms ns))

-- e is d with these rows from `at` on
record Put (d : List ℕ) (at : ℕ) (ks : List ℕ) (rs : List Row) (e : List ℕ) : Type 0 where
  pub is : e ≡ written d at (body_bytes ks rs)

-- a row, and more of them
one_row :
    (k : ℕ) (row : Row) (d : List ℕ) {e : List ℕ} {at next : ℕ} → at ≡ next → e ≡ written d at (row_bytes k row) →
    Put d next (k ∷ []) (row ∷ []) e
unfolding body_bytes
one_row k row d z p =
    record { is = p ∙ ap (λ t. written d t (row_bytes k row)) z ∙ ap (written d _) (sym (append-nil (row_bytes k row))) }

body_append :
    (ks ls : List ℕ) (rs ss : List Row) → length ks ≡ length rs →
    body_bytes (ks ++ ls) (rs ++ ss) ≡ body_bytes ks rs ++ body_bytes ls ss
unfolding body_bytes
body_append [] ls [] ss e = refl
body_append [] ls (row ∷ rs) ss e = absurd (omega arith)
body_append (k ∷ ks) ls [] ss e = absurd (omega arith)
body_append (k ∷ ks) ls (row ∷ rs) ss e =
    ap (λ t. row_bytes k row ++ t) (body_append ks ls rs ss (omega arith))
    ∙ sym (append_assoc (row_bytes k row) (body_bytes ks rs) (body_bytes ls ss))

more_rows :
    {ks ls : List ℕ} {rs ss : List Row} {d e f : List ℕ} {at next : ℕ} → Put d at ks rs e → Put e next ls ss f →
    length ks ≡ length rs → at ≤ length d → next ≡ at + span ks (map length rs) →
    Put d at (ks ++ ls) (rs ++ ss) f
more_rows {ks} {ls} {rs} {ss} {d} {e} {f} {at} {next} p q k h l =
    record {
      is =
          let ends = l ∙ ap (λ m. at + m) (sym (length_body ks rs)) in
          two_runs d e f at next (body_bytes ks rs) (body_bytes ls ss) h p.is ends q.is
          ∙ ap (written d at) (sym (body_append ks ls rs ss k));
    }

-- the rows of n cells, each where it starts
pub four_rows :
    (n : ℕ) (h e u v : Row) {d d₁ d₂ d₃ d₄ : List ℕ} {h-at e-at u-at v-at : ℕ} → Buffer n d → FourRows n h e u v →
    h-at ≡ start_of edition n 0 → e-at ≡ start_of edition n 1 → u-at ≡ start_of edition n 2 → v-at ≡ start_of edition n 3 →
    d₁ ≡ written d h-at (row_bytes 4 h) → d₂ ≡ written d₁ e-at (row_bytes 4 e) → d₃ ≡ written d₂ u-at (row_bytes 4 u) →
    d₄ ≡ written d₃ v-at (row_bytes 4 v) →
    d₄ ≡ written d (head_length edition) (body_bytes (4 ∷ 4 ∷ 4 ∷ 4 ∷ []) (h ∷ e ∷ u ∷ v ∷ []))
unfolding widths lengths span map
four_rows n h e u v {d} {d₁} {d₂} {d₃} b w hs es us vs p q r t =
    let l : head_length edition ≤ length d = omega (arith, b.sized, head_within edition n) in
    let at = start_is edition n in
    let one : Put d (head_length edition) (4 ∷ []) (h ∷ []) d₁ = one_row 4 h d (omega (arith, hs, at 0 (omega arith))) p in
    let two = more_rows one (one_row 4 e d₁ refl q) refl l (omega (arith, w.h_long, es, at 1 (omega arith))) in
    let three = more_rows two (one_row 4 u d₂ refl r) refl l (omega (arith, w.h_long, w.e_long, us, at 2 (omega arith))) in
    (more_rows three (one_row 4 v d₃ refl t) refl l (omega (arith, w.h_long, w.e_long, w.u_long, vs, at 3 (omega arith)))).is

pub three_rows :
    (n : ℕ) (q f damping : Row) {d d₁ d₂ d₃ : List ℕ} {q-at f-at damping-at : ℕ} → Buffer n d → Levels n q f damping →
    q-at ≡ start_of edition n 4 → f-at ≡ start_of edition n 5 → damping-at ≡ start_of edition n 6 →
    d₁ ≡ written d q-at (row_bytes 8 q) → d₂ ≡ written d₁ f-at (row_bytes 8 f) → d₃ ≡ written d₂ damping-at (row_bytes 4 damping) →
    d₃ ≡ written d (start_of edition n 4) (body_bytes (8 ∷ 8 ∷ 4 ∷ []) (q ∷ f ∷ damping ∷ []))
unfolding widths lengths span map
three_rows n q f damping {d} {d₁} {d₂} b w qs fs ds p r t =
    let at = start_is edition n in
    let l : start_of edition n 4 ≤ length d = omega (arith, b.sized, stands edition n 4 (omega arith)) in
    let two = more_rows (one_row 8 q d qs p) (one_row 8 f d₁ refl r) refl l (omega (arith, w.q_long, fs, at 4 (omega arith), at 5 (omega arith))) in
    (more_rows two (one_row 4 damping d₂ refl t) refl l (omega (arith, w.q_long, w.f_long, ds, at 4 (omega arith), at 6 (omega arith)))).is

-- the counts, the cells, the levels and the damping are the file
module _ (n X T accepted wanted : ℕ) (h e u v q f damping : Row) (w : Writable n h e u v q f damping) where
  abbrev given : Channel
  given = channel n X T accepted wanted h e u v q f damping

  long : map length (rows given) ≡ lengths n
  unfolding rows lengths map
  long =
      let k = w.cells in
      let l = w.levels in
      (λ i. k.h_long i ∷ k.e_long i ∷ k.u_long i ∷ k.v_long i ∷ l.q_long i ∷ l.f_long i ∷ l.damping_long i ∷ [])

  pub file_put :
      (d d₁ d₂ d₃ : List ℕ) → length d ≡ length_of edition n → d₁ ≡ written d 0 (head_bytes (head_of given)) →
      d₂ ≡ written d₁ (head_length edition) (body_bytes (4 ∷ 4 ∷ 4 ∷ 4 ∷ []) (h ∷ e ∷ u ∷ v ∷ [])) →
      d₃ ≡ written d₂ (start_of edition n 4) (body_bytes (8 ∷ 8 ∷ 4 ∷ []) (q ∷ f ∷ damping ∷ [])) → d₃ ≡ file_of given
  unfolding file_of rows widths lengths span map
  file_put d d₁ d₂ d₃ room a b c =
      let head : List ℕ = head_bytes (head_of given) in
      let i : length head ≡ head_length edition = length_head_of given in
      let l : length head ≤ length d = omega (arith, i, room, head_within edition n) in
      let same : length d₁ ≡ length d = ap length a ∙ length_written d 0 head (omega (arith, l)) in
      let k = w.cells in
      let at = start_is edition n 4 (omega arith) in
      let cells : Put d₁ (head_length edition) (4 ∷ 4 ∷ 4 ∷ 4 ∷ []) (h ∷ e ∷ u ∷ v ∷ []) d₂ = record { is = b } in
      let levels : Put d₂ (start_of edition n 4) (8 ∷ 8 ∷ 4 ∷ []) (q ∷ f ∷ damping ∷ []) d₃ = record { is = c } in
      let body = more_rows cells levels refl (omega (arith, i, l, same)) (omega (arith, k.h_long, k.e_long, k.u_long, k.v_long, at)) in
      two_runs d d₁ d₃ 0 (head_length edition) head _ (omega arith) a (omega (arith, i)) body.is ∙ written_all d (file_of given) (length-file_of given long ∙ sym room)
