-- `layout::length_of` meets its contract: the file ends where its last row does. Assumes nothing.
use Prim.Native.Nat.{◌+◌}
use mathlib.Core.Path.{sym, ap, ◌∙◌}
use lib.ListN.{take}
use Rattle.rule.specs.Channel.{lengths}
use Rattle.rule.specs.Layout.{widths, head_length, span}
use Rattle.layout.specs.Places.{length_is}
use Rattle.layout.proofs.length_of.Goals as goal

pub returns : goal.returns
returns c =
    let a = c.args in
    c.place.ensures
    ∙ ap (λ k. head_length a.edition + span (take k (widths a.edition)) (lengths a.n))
    c.rows_in.ensures.0
    ∙ sym (length_is a.edition a.n)
