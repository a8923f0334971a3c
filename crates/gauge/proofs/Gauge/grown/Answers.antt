-- `gauge::Gauge::grown` meets its contract. Assumes nothing.
use borrow.Author.Rules.{sfits_of}
use Rattle.std.proofs.Common.{◌≡◌, sym, ◌∙◌, ap, ℤ, pos, T, to_z, of_z, w64, rules, tests}
use Rattle.std.proofs.lemmas.Int.{to_z-of_z}
use Rattle.std.specs.Int.Signed.{lt_z}
use Rattle.std.specs.Int.{int_max, int_min}
use Rattle.whole.specs.Expr.{E, var, lit, res, add, back, need, rd, plain, ok, fits, rd_is}
use Rattle.gauge.specs.Waves.{upward, higher, lower}
use Rattle.gauge.specs.Gauge.{crossed, widened, passed}
use Rattle.gauge.specs.Laws.{ended_small, grown_crossed, grown_widened, grown_passed}
use Rattle.gauge.proofs.Gauge.grown.Goals as goal

-- the library's words
max_is : (a b : ℤ) → int_max a b ≡ higher a b
unfolding higher
max_is a b = search (rules, tests)

min_is : (a b : ℤ) → int_min a b ≡ lower a b
unfolding lower
min_is a b = search (rules, tests)

-- a number that is read back twice
twice : (e : E) → T (ok e) → to_z w64 (of_z w64 (rd e)) ≡ plain e
twice e t = ap (λ z. to_z w64 (of_z w64 z)) (rd_is e t) ∙ to_z-of_z w64 (plain e) (fits e t)

pub overflow_add-result-then-upward : goal.overflow_add-result-then-upward
overflow_add-result-then-upward c =
    let g = c.args.self in
    let p = c.requires.0 in
    need (add (var g.sum 19_999_460_001_000 p.sum) (res 40_000_000 c.ended-wave.ensures (ended_small g p))) tt

pub returns-then-upward : goal.returns-then-upward
unfolding crossed
returns-then-upward c =
    let g = c.args.self in
    let p = c.requires.0 in
    let height = back c.args.height 20_000_000 c.requires.1 tt in
    let wave = res 40_000_000 c.ended-wave.ensures (ended_small g p) in
    let fed = add (var g.fed 1_000_000 p.fed) (lit (pos 1)) in
    let crossings = add (var g.crossings 500_000 p.crossings) (lit (pos 1)) in
    let sum = add (var g.sum 19_999_460_001_000 p.sum) wave in
    let test = c.upward.ensures ∙ (λ i. upward (back g.last 20_000_000 p.last tt i) (height i)) in
    let largest =
    to_z-of_z w64 _ (sfits_of c.max.type_inv) ∙ c.max.ensures.value ∙ max_is _ _
    ∙ (λ i. higher (back g.largest 39_999_000 p.largest tt i) (rd_is wave tt i)) in
    (λ i. record {
      cell = twice (var g.cell 256 p.cell) tt i;
      fed = twice fed tt i;
      last = twice (var c.args.height 20_000_000 c.requires.1) tt i;
      crossings = rd_is crossings tt i;
      highest = height i;
      lowest = height i;
      largest = largest i;
      sum = rd_is sum tt i;
    })
    ∙ sym (grown_crossed g c.args.height (sym test ∙ c.if-upward.true))

pub returns-then-self-gt0 : goal.returns-then-self-gt0
unfolding widened
returns-then-self-gt0 c =
    let g = c.args.self in
    let p = c.requires.0 in
    let height = back c.args.height 20_000_000 c.requires.1 tt in
    let fed = add (var g.fed 1_000_000 p.fed) (lit (pos 1)) in
    let test = c.upward.ensures ∙ (λ i. upward (back g.last 20_000_000 p.last tt i) (height i)) in
    let begun = ap (lt_z (pos 0)) (back g.crossings 500_000 p.crossings tt) in
    let top =
    to_z-of_z w64 _ (sfits_of c.max-top.type_inv) ∙ c.max-top.ensures.value ∙ max_is _ _
    ∙ (λ i. higher (back g.highest 20_000_000 p.highest tt i) (height i)) in
    let low =
    to_z-of_z w64 _ (sfits_of c.min-low.type_inv) ∙ c.min-low.ensures.value ∙ min_is _ _
    ∙ (λ i. lower (back g.lowest 20_000_000 p.lowest tt i) (height i)) in
    (λ i. record {
      cell = twice (var g.cell 256 p.cell) tt i;
      fed = twice fed tt i;
      last = twice (var c.args.height 20_000_000 c.requires.1) tt i;
      crossings = twice (var g.crossings 500_000 p.crossings) tt i;
      highest = top i;
      lowest = low i;
      largest = twice (var g.largest 39_999_000 p.largest) tt i;
      sum = twice (var g.sum 19_999_460_001_000 p.sum) tt i;
    })
    ∙ sym (grown_widened g c.args.height (sym test ∙ c.if-upward.false) (sym begun ∙ c.if-self-gt0.true))

pub returns : goal.returns
unfolding passed
returns c =
    let g = c.args.self in
    let p = c.requires.0 in
    let height = back c.args.height 20_000_000 c.requires.1 tt in
    let fed = add (var g.fed 1_000_000 p.fed) (lit (pos 1)) in
    let test = c.upward.ensures ∙ (λ i. upward (back g.last 20_000_000 p.last tt i) (height i)) in
    let begun = ap (lt_z (pos 0)) (back g.crossings 500_000 p.crossings tt) in
    (λ i. record {
      cell = back g.cell 256 p.cell tt i;
      fed = rd_is fed tt i;
      last = height i;
      crossings = back g.crossings 500_000 p.crossings tt i;
      highest = back g.highest 20_000_000 p.highest tt i;
      lowest = back g.lowest 20_000_000 p.lowest tt i;
      largest = back g.largest 39_999_000 p.largest tt i;
      sum = back g.sum 19_999_460_001_000 p.sum tt i;
    })
    ∙ sym (grown_passed g c.args.height (sym test ∙ c.if-upward.false) (sym begun ∙ c.if-self-gt0.false))
