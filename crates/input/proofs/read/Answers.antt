-- What was read into the part stands after the front, so that the two stand in one piece.
use Rattle.std.proofs.Common.{rules, ◌≡◌, ℕ, ◌≤◌, ◌+◌, ◌-◌, List, ◌++◌, length, take, drop, sym, ap, ◌∙◌, subst, le_refl, drop_at, length-take-le}
use Rattle.std.proofs.lemmas.List.{take-append-le}
use Rattle.std.proofs.lemmas.Slice.{take-put_mid_below}
use borrow.Rule.Slice.PartMut.{put_mid, post_of}
use lib.Seq.{take-add}
use Rattle.std.specs.Io.KnownBytes.{Consumes}
use Rattle.std.proofs.KnownBytes.{Consumes-trans}
use Rattle.input.proofs.read.Goals as goal

-- what a read of n bytes into the part from `at` on leaves in xs
joined : (at n : ℕ) (xs part : List ℕ) → at ≤ length xs → n ≤ length part → take at xs ++ take n part ≡ take (at + n) (put_mid at (length xs - at) xs part)
joined at n xs part within fits =
    let room = length xs - at in
    let all = put_mid at room xs part in
    let after = post_of at room xs in
    let front : take at all ≡ take at xs = take-put_mid_below _ _ _ _ _ (le_refl _) within in
    let back : take n (drop at all) ≡ take n part = ap (take n) (drop_at (take at xs) (part ++ after) at (length-take-le at xs within)) ∙ take-append-le n part after fits in
    sym (take-add at n all ∙ ap (λ l. l ++ take n (drop at all)) front ∙ ap (λ l. take at xs ++ l) back)

pub loop-end-preserved : goal.loop-end-preserved
loop-end-preserved g c =
    (search rules, search rules, subst (Consumes _ _) (joined c.loop-end.end c.in-Ok.more c.loop-end.buf c.read.new.buf c.loop-end.invariant.1 c.in-Ok.ensures.bound.0) (Consumes-trans _ _ _ _ _ c.loop-end.invariant.2 c.in-Ok.ensures.bytes.0))
