-- `put::put_head` meets its contract: the counts, and the offsets after them. Assumes nothing.
use Prim.Native.Nat.{ℕ, ◌≤◌}
use mathlib.Core.Path.{refl}
use mathlib.Core.List.{List, [], ◌∷◌}
use native.Mathlib.Omega.{arith}
use borrow.Author.Rules.{rules}
use lib.ListN.{length}
use Rattle.rule.specs.Layout.{counts_in, widths, head_length, offsets}
use Rattle.rule.specs.File.{edition}
use Rattle.layout.specs.Places.{head_within}
use Rattle.put.specs.Runs.{more_counts}
use Rattle.put.proofs.put_head.Goals as goal

pub put_counts-requires : goal.put_counts-requires
unfolding head_length counts_in widths
put_counts-requires c = let f : head_length edition ≤ length c.args.d.now = omega (arith, c.requires.sized, head_within edition c.args.c.n) in search rules

pub put_offsets-requires : goal.put_offsets-requires
put_offsets-requires c = let f : head_length edition ≤ length c.args.d.now = omega (arith, c.requires.sized, head_within edition c.args.c.n) in search rules

pub returns : goal.returns
unfolding counts_in
returns c =
    let n = c.args.c in
    let counts : List ℕ = edition ∷ n.n ∷ n.x ∷ n.t ∷ n.accepted ∷ n.wanted ∷ [] in
    more_counts _ _ _ _ counts (offsets edition n.n) refl c.put_counts.ensures c.put_offsets.ensures
