-- `smoothing::draining` meets its contract: by the test whether the face is between two cells. Assumes nothing.
use Rattle.std.proofs.Common.{w64, refl, ◌∙◌, lit≤, arith}
use Rattle.std.proofs.lemmas.Int.{to_z-of_z}
use borrow.Author.Rules.{sfits_of}
use borrow.Author.Tests.{lt-ltb, le-ltb}
use Rattle.rule.specs.Rows.{sizes}
use Rattle.motion.specs.Moved.{sum_asked}
use Rattle.smoothing.proofs.draining.Goals as goal

pub weigh-requires : goal.weigh-requires
unfolding sizes
weigh-requires c = sum_asked _ c.requires (lit≤ tt) (omega arith) (lit≤ tt)

pub returns-then-j-n : goal.returns-then-j-n
returns-then-j-n c = rw (lt-ltb _ _ c.if-j-n.true) (to_z-of_z w64 _ (sfits_of c.weigh.type_inv) ∙ c.weigh.ensures)

pub returns-else-j-n : goal.returns-else-j-n
returns-else-j-n c = rw (le-ltb _ _ c.if-j-n.false) refl
