-- "Gauges": the state after all turns is that of the records with the heights after the accepted steps at their ends. Assumes nothing.
use Rattle.std.specs.Prelude.{ℕ, suc, ◌≤◌, ◌≡◌, refl, List, [], ◌∷◌, length}
use Rattle.std.proofs.Common.{sym, ◌∙◌, ap, arith}
use Rattle.rule.specs.Rows.{Row, map}
use Rattle.rule.specs.Channel.{Channel}
use Rattle.rule.specs.Refusals.{Outcome, refused, done}
use Rattle.rule.specs.Step.{Stepped, step}
use Rattle.rule.specs.Calls.{Called}
use Rattle.checks.specs.Allowed.{allowed_of}
use Rattle.rule.specs.Step.{accept}
use Rattle.water.specs.Calls.{step_accepted}
use Rattle.water.specs.Again.{step_passes}
use Rattle.staffs.specs.Staffs.{Staff, free, staff, state_for, longer, followed}
use Rattle.staffs.specs.Back.{Each, length-map, each_map}
use Rattle.staffs.specs.Fed.{Proper, Takes, each_of, fed_proper, takes_longer, map_followed, map_none}
use Rattle.staffs.specs.Heights.{heights_are, feed_call_lem}
use Rattle.staffs.specs.Turns.{turned, turns, heights_after}

-- fewer steps ask for less room
takes_less : (n k m : ℕ) → m ≤ k → (s : Staff) → Takes n k s → Takes n m s
takes_less n k m h free t = tt
takes_less n k m h (staff j r) t = (t.0, omega (arith, t.1))

same_cells : (c : Channel) (s : Row) (t : Stepped) → step c s ≡ done t → t.channel.N ≡ c.N
unfolding accept
same_cells c s t h = ap (λ (x : Channel). x.N) (step_accepted c s t h).is

-- the state after all turns is that of the records with those heights at their ends
turns_by : (rows : List Row) (c : Channel) (ss : List Staff) (s : Row) (m : Outcome Stepped) → step c s ≡ m → length ss ≡ 8 → Each Proper ss → Each (Takes c.N (suc (length rows))) ss → ((c' : Channel) (ss' : List Staff) → length ss' ≡ 8 → Each Proper ss' → Each (Takes c'.N (length rows)) ss' → (turns rows (record { channel = c'; state = state_for ss' })).state ≡ state_for (map (followed (heights_after rows c')) ss')) → (turns rows (turned (record { channel = c; state = state_for ss }) m)).state ≡ state_for (map (followed (elim m [ refused r k ↦ heights_after rows c | done t ↦ t.channel.e ∷ heights_after rows t.channel ])) ss)
unfolding turned
turns_by rows c ss s (refused r k) e long proper takes go = go c ss long proper (each_of (Takes c.N (suc (length rows))) _ (takes_less c.N (suc (length rows)) (length rows) (omega arith)) ss takes)
turns_by rows c ss s (done t) e long proper takes go =
    let d = t.channel in
    let z = step_passes c s t e in
    let n = same_cells c s t e in
    let here : Each (Takes d.N (suc (length rows))) ss = rw n takes in
    let e_long = (allowed_of d [] z).cells.e_long in
    let fits : Each (Takes (length d.e) (suc (length rows))) ss = rw e_long here in
    let ss' = map (longer d.e) ss in
    ap (λ (g : Called (List ℕ)). (turns rows (record { channel = d; state = g.left })).state) (feed_call_lem d ss (length rows) z long proper here)
    ∙ go d ss' (length-map (longer d.e) ss ∙ long) (fed_proper d.e (length rows) ss (heights_are d z) proper fits)
    (each_map (longer d.e) (Takes d.N (suc (length rows))) (Takes d.N (length rows)) (takes_longer d.e d.N (length rows)) ss here)
    ∙ ap state_for (map_followed d.e (heights_after rows d) ss)

pub turns_staffs : (rows : List Row) (c : Channel) (ss : List Staff) → length ss ≡ 8 → Each Proper ss → Each (Takes c.N (length rows)) ss → (turns rows (record { channel = c; state = state_for ss })).state ≡ state_for (map (followed (heights_after rows c)) ss)
unfolding turns heights_after
turns_staffs [] c ss long proper takes = ap state_for (sym (map_none ss))
turns_staffs (s ∷ rows) c ss long proper takes = turns_by rows c ss s (step c s) refl long proper takes (turns_staffs rows)
