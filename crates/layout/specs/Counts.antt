-- The channel file: a run of counts, tested and written one after the other. Assumes nothing.
use Rattle.std.specs.Prelude.{ℕ, zero, suc, ◌+◌, ◌*◌, ◌≤◌, ◌<◌, ◌≡◌, refl, Bool, true, false, ◌&&◌, List, [], ◌∷◌, ◌++◌, eqb, length, take, get_or}
use Rattle.std.proofs.Common.{arith, add-one, sym, ap, ◌∙◌, append_assoc, append-nil, length-append, take-suc, length-take-le}
use Rattle.whole.specs.Tests.{and_true}
use Rattle.rule.specs.Rows.{same}
use Rattle.rule.specs.Bytes.{bytes, count_at}
use Rattle.rule.specs.File.{head_bytes, counts_at}
use Rattle.little.specs.Numbers.{length-bytes}
use Rattle.little.specs.Written.{written, written_then}

pub length_head : (ns : List ℕ) → length (head_bytes ns) ≡ 4 * length ns
unfolding head_bytes
length_head [] = refl
length_head (n ∷ ns) =
    let e : length (head_bytes ns) ≡ 4 * length ns = length_head ns in
    let f : length (bytes 4 n) ≡ 4 = length-bytes 4 n in
    length-append (bytes 4 n) (head_bytes ns) ∙ omega arith

pub head_append : (ms ns : List ℕ) → head_bytes (ms ++ ns) ≡ head_bytes ms ++ head_bytes ns
unfolding head_bytes
head_append [] ns = refl
head_append (m ∷ ms) ns =
    ap (λ t. bytes 4 m ++ t) (head_append ms ns) ∙ sym (append_assoc (bytes 4 m) (head_bytes ms) (head_bytes ns))

-- the first counts, with one more
firsts_more : (ns : List ℕ) (i : ℕ) → i < length ns → take (i + 1) ns ≡ take i ns ++ (get_or ns i 0 ∷ [])
firsts_more ns i h = ap (λ k. take k ns) (add-one i) ∙ take-suc ns i 0 h

and_assoc : (a b c : Bool) → a && (b && c) ≡ (a && b) && c
and_assoc true b c = refl
and_assoc false b c = refl

-- the counts of s from `at` on are the first ones of ns, with one more
same_more :
    (ns s : List ℕ) (at i : ℕ) → i < length ns →
    same (counts_at i s at) (take i ns) && eqb (count_at 4 s (at + 4 * i)) (get_or ns i 0)
    ≡ same (counts_at (suc i) s at) (take (suc i) ns)
unfolding same counts_at
same_more [] s at i h = absurd (omega arith)
same_more (n ∷ ns) s at zero h =
    let e : at + 4 * 0 ≡ at = omega arith in
    ap (λ k. eqb (count_at 4 s k) n) e ∙ sym (and_true (eqb (count_at 4 s at) n))
same_more (n ∷ ns) s at (suc i) h =
    let e : at + 4 * suc i ≡ at + 4 + 4 * i = omega arith in
    let first : Bool = eqb (count_at 4 s at) n in
    ap (λ k. first && same (counts_at i s (at + 4)) (take i ns) && eqb (count_at 4 s k) (get_or ns i 0)) e
    ∙ sym (and_assoc first _ _)
    ∙ ap (λ t. first && t) (same_more ns s (at + 4) i (omega arith))

pub same_none : (s ns : List ℕ) (at : ℕ) → true ≡ same (counts_at 0 s at) (take 0 ns)
unfolding same counts_at
same_none s ns at = refl

pub same_firsts :
    (ns s : List ℕ) (at i x y : ℕ) {fine : Bool} → fine ≡ same (counts_at i s at) (take i ns) → i < length ns →
    x ≡ count_at 4 s (at + 4 * i) → y ≡ get_or ns i 0 →
    fine && eqb x y ≡ same (counts_at (i + 1) s at) (take (i + 1) ns)
same_firsts ns s at i x y p h q r =
    (λ j. p j && eqb (q j) (r j)) ∙ same_more ns s at i h
    ∙ sym (ap (λ k. same (counts_at k s at) (take k ns)) (add-one i))

-- the first counts of ns are written from `at` on
pub written_firsts :
    (ns d e f : List ℕ) (at i x next : ℕ) → e ≡ written d at (head_bytes (take i ns)) → at ≤ length d →
    i < length ns → next ≡ at + 4 * i → x ≡ get_or ns i 0 → f ≡ written e next (bytes 4 x) →
    f ≡ written d at (head_bytes (take (i + 1) ns))
unfolding head_bytes
written_firsts ns d e f at i x next p h l g z q =
    let k : length (take i ns) ≡ i = length-take-le i ns (omega arith) in
    let m : length (head_bytes (take i ns)) ≡ 4 * i = length_head (take i ns) ∙ ap (λ j. 4 * j) k in
    q
    ∙ ap (λ t. written t next (bytes 4 x)) p
    ∙ written_then d at (head_bytes (take i ns)) (bytes 4 x) next (omega arith) h
    ∙ ap (written d at)
    (ap (λ y. head_bytes (take i ns) ++ bytes 4 y) z
    ∙ ap (λ t. head_bytes (take i ns) ++ t) (sym (append-nil (bytes 4 (get_or ns i 0))))
    ∙ sym (head_append (take i ns) (get_or ns i 0 ∷ []))
    ∙ ap head_bytes (sym (firsts_more ns i l)))
