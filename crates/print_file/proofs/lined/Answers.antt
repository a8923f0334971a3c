-- The line stands at the start of its buffer.
use Rattle.std.proofs.Common.{◌≡◌, ℕ, List, length, take, sym, ap, ◌∙◌}
use lib.Seq.{take_at}
use Rattle.little.specs.Written.{written}
use Rattle.print_file.proofs.lined.Goals as goal

-- a line x put into d, and the first r bytes of that
at_start : (d e x : List ℕ) (r : ℕ) → r ≡ length x → e ≡ written d 0 x → take r e ≡ x
unfolding written
at_start d e x r p q = ap (take r) q ∙ take_at x _ r (sym p)

pub returns : goal.returns
returns c =
    let q = c.line-end.ensures in
    at_start _ _ _ c.line-end.result q.0 q.1
