-- The channel file: text put into a buffer from left to right, by a pen. Assumes nothing.
use Rattle.std.specs.Prelude.{ℕ, ◌+◌, ◌≤◌, ◌≡◌, List, ◌++◌, length}
use Rattle.std.proofs.Common.{arith, ap, ◌∙◌, length-append}
use Rattle.little.specs.Written.{written, written_then}
use Rattle.text.specs.declared.Pen.{Pen}

-- a pen p puts the text x into its buffer, and is q after it
pub record Put (p : Pen) (x : List ℕ) (q : Pen) : Type 0 where
  pub is : q.d.now ≡ written p.d.now p.at x
  pub ends : q.at ≡ p.at + length x
  pub kept : length q.d.now ≡ length p.d.now
  pub same : q.d.ghost_name ≡ p.d.ghost_name

-- the same text in other words
pub put_as : {p q : Pen} {x : List ℕ} (y : List ℕ) → Put p x q → x ≡ y → Put p y q
put_as {p} y w e = record { is = w.is ∙ ap (written p.d.now p.at) e; ends = w.ends ∙ ap (λ t. p.at + length t) e; kept = w.kept; same = w.same }

-- one text after the other
pub put_then : {p q r : Pen} {x y : List ℕ} → Put p x q → Put q y r → p.at ≤ length p.d.now → Put p (x ++ y) r
put_then {p} {q} {r} {x} {y} v w h =
    record {
      is = w.is ∙ ap (λ t. written t q.at y) v.is ∙ written_then p.d.now p.at x y q.at v.ends h;
      ends = omega (arith, v.ends, w.ends, length-append x y);
      kept = w.kept ∙ v.kept;
      same = w.same ∙ v.same;
    }
