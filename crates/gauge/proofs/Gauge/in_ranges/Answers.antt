-- `gauge::Gauge::in_ranges` meets its contract. Assumes nothing.
use mathlib.Core.Bool.{◌&&◌}
use Rattle.gauge.specs.Gauge.{in_ranges}
use Rattle.gauge.proofs.Ranges.{contains_is}
use Rattle.gauge.proofs.Gauge.in_ranges.Goals as goal

pub returns : goal.returns
unfolding in_ranges
returns c =
    let cell = contains_is _ _ _ _ _ _ _ c.contains.ensures.value c.new.ensures.start c.new.ensures.end c.new.ensures.exhausted in
    let fed = contains_is _ _ _ _ _ _ _ c.contains-2.ensures.value c.new-2.ensures.start c.new-2.ensures.end c.new-2.ensures.exhausted in
    let last = contains_is _ _ _ _ _ _ _ c.contains-3.ensures.value c.new-3.ensures.start c.new-3.ensures.end c.new-3.ensures.exhausted in
    let crossings = contains_is _ _ _ _ _ _ _ c.contains-4.ensures.value c.new-4.ensures.start c.new-4.ensures.end c.new-4.ensures.exhausted in
    let highest = contains_is _ _ _ _ _ _ _ c.contains-5.ensures.value c.new-5.ensures.start c.new-5.ensures.end c.new-5.ensures.exhausted in
    let lowest = contains_is _ _ _ _ _ _ _ c.contains-6.ensures.value c.new-6.ensures.start c.new-6.ensures.end c.new-6.ensures.exhausted in
    let largest = contains_is _ _ _ _ _ _ _ c.contains-7.ensures.value c.new-7.ensures.start c.new-7.ensures.end c.new-7.ensures.exhausted in
    let sum = contains_is _ _ _ _ _ _ _ c.contains-8.ensures.value c.new-8.ensures.start c.new-8.ensures.end c.new-8.ensures.exhausted in
    (λ i. cell i && fed i && last i && crossings i && highest i && lowest i && largest i && sum i)
