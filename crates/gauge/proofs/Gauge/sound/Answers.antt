-- `gauge::Gauge::sound` meets its contract. Assumes nothing.
use mathlib.Core.Path.{◌≡◌}
use mathlib.Core.Bool.{◌&&◌}
use lib.IntN.{ℤ, pos}
use lib.Signed.{le_z}
use Rattle.whole.specs.Expr.{E, var, lit, res, add, mul, back, need, rd_is}
use Rattle.gauge.specs.Gauge.{sound, below, waves}
use Rattle.gauge.specs.declared.Gauge.{Gauge}
use Rattle.gauge.specs.Small.{Small}
use Rattle.gauge.specs.Laws.{below_small, waves_small}
use Rattle.gauge.proofs.Gauge.sound.Goals as goal

-- the least heights for the crossings
abbrev doubled : (g : Gauge) → Small g → E
doubled g p = mul (lit (pos 2)) (var g.crossings 500_000 p.crossings)

abbrev least : (g : Gauge) → Small g → {z : ℤ} → z ≡ below g → E
least g p e = add (doubled g p) (res 1 e (below_small g))

-- the most that so many waves add up to
abbrev most : (g : Gauge) → Small g → {z : ℤ} → z ≡ waves g → E
most g p e = mul (lit (pos 39_999_000)) (res 500_001 e (waves_small g p))

pub overflow_mul-result : goal.overflow_mul-result
overflow_mul-result c = need (doubled c.args.self c.requires) tt

pub overflow_add-result : goal.overflow_add-result
overflow_add-result c = need (least c.args.self c.requires c.below.ensures) tt

pub overflow_mul-result-2 : goal.overflow_mul-result-2
overflow_mul-result-2 c = need (most c.args.self c.requires c.waves.ensures) tt

pub returns : goal.returns
unfolding sound
returns c =
    let g = c.args.self in
    let p = c.requires in
    let lowest = back g.lowest 20_000_000 p.lowest tt in
    let highest = back g.highest 20_000_000 p.highest tt in
    let fed = back g.fed 1_000_000 p.fed tt in
    let largest = back g.largest 39_999_000 p.largest tt in
    let sum = back g.sum 19_999_460_001_000 p.sum tt in
    let least_is = rd_is (least g p c.below.ensures) tt in
    let most_is = rd_is (most g p c.waves.ensures) tt in
    (λ i. le_z (lowest i) (highest i) && le_z (least_is i) (fed i) && le_z (largest i) (sum i) && le_z (sum i) (most_is i))
