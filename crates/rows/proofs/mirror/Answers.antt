-- `rows::mirror` meets its contract. Assumes nothing.
use mathlib.Core.Path.{sym}
use native.Mathlib.Omega.{arith}
use Rattle.rows.specs.Mirrored.{mirror_left, mirror_right, mirror_inner}
use Rattle.rows.proofs.mirror.Goals as goal

pub returns-then-k-lt4 : goal.returns-then-k-lt4
returns-then-k-lt4 c = (sym (mirror_left _ _ c.if-k-lt4.true), omega arith)

pub returns-then-k-n : goal.returns-then-k-n
returns-then-k-n c = (sym (mirror_right _ _ c.if-k-lt4.false c.if-k-n.true), omega arith)

pub returns-else-k-n : goal.returns-else-k-n
returns-else-k-n c = (sym (mirror_inner _ _ c.if-k-lt4.false c.if-k-n.false), omega arith)
