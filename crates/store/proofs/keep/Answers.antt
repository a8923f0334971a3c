-- `store::keep` meets its contract: a row renewed whole. Assumes nothing.
use Rattle.std.proofs.Common.{◌∙◌}
use Rattle.rows.specs.Firsts.{firsts}
use Rattle.store.specs.Levels.{renewed_all}
use Rattle.store.proofs.keep.Goals as goal

pub returns : goal.returns
returns c = c.renew.ensures ∙ renewed_all c.args.n (firsts c.args.n c.args.new.now) c.args.row.now c.requires.1
