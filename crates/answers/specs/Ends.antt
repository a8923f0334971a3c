-- Refusal numbers: how a run ends whose steps were all accepted. Assumes nothing.
use Rattle.std.specs.Prelude.{ℕ, ◌≡◌, cond, eqb}
use Rattle.std.proofs.Common.{eq-eqb, ne_eqb}
use Rattle.rule.specs.Run.{Ending, whole, paused}
use Rattle.rule.specs.Calls.{ended}
use Rattle.answers.specs.Stages.{acceptance, pause}

-- complete exactly where all steps that are wanted are accepted
unfoldable pub ending_of : ℕ → ℕ → Ending
ending_of accepted wanted = cond (eqb accepted wanted) whole paused

-- complete, or paused
pub ends_whole : (accepted wanted count : ℕ) → accepted ≡ wanted → acceptance count ≡ ended count (ending_of accepted wanted)
unfolding ending_of ended
ends_whole accepted wanted count e = rw (eq-eqb accepted wanted e)

pub ends_paused : (accepted wanted count : ℕ) → (accepted ≡ wanted → ⊥) → pause count ≡ ended count (ending_of accepted wanted)
unfolding ending_of ended
ends_paused accepted wanted count z = rw (ne_eqb accepted wanted z)
