-- Running: each step of a run, by its outcome. Assumes nothing.
use Rattle.std.specs.Prelude.{ℕ, suc, ◌≡◌}
use Rattle.rule.specs.Channel.{Channel}
use Rattle.rule.specs.declared.Refusal.{Refusal}
use Rattle.rule.specs.Refusals.{refused, done}
use Rattle.rule.specs.Step.{Stepped, step}
use Rattle.rule.specs.Run.{open_by, run_on}
use Rattle.run_for.specs.Runs.{nothing}

module _ (left count : ℕ) (c : Channel) where
  pub took : (t : Stepped) → step c (nothing c.N) ≡ done t → run_on (suc left) count c ≡ run_on left (suc count) t.channel
  unfolding run_on
  took t p = rw (run_on, p)

  pub ceased : (r : Refusal) (stage : ℕ) → step c (nothing c.N) ≡ refused r stage → run_on (suc left) count c ≡ record { channel = c; count = count; ending = open_by r stage }
  unfolding run_on
  ceased r stage p = rw (run_on, p)
