-- `opened::counts` meets its contract. Assumes nothing.
use Rattle.rule.specs.File.{count_of, channel_of}
use Rattle.opened.proofs.counts.Goals as goal

pub returns : goal.returns
unfolding channel_of count_of
returns c =
    let n = c.count_at-n.ensures.0 in
    let x = c.count_at-x.ensures.0 in
    let t = c.count_at-t.ensures.0 in
    let accepted = c.count_at-accepted.ensures.0 in
    let wanted = c.count_at-wanted.ensures.0 in
    (λ i. record { n = n i; x = x i; t = t i; accepted = accepted i; wanted = wanted i })
