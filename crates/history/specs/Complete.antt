-- Refusal numbers: what calls answer on a complete channel. Assumes nothing.
use Rattle.std.specs.Prelude.{ℕ, ◌-◌, ◌≡◌}
use Rattle.std.proofs.Common.{sym, ◌∙◌}
use mathlib.Core.List.{List, [], ◌∷◌}
use native.Mathlib.Omega.{arith}
use borrow.Author.Tests.{eq-eqb, le-ltb}
use Rattle.rule.specs.Rows.{Row}
use Rattle.rule.specs.Channel.{Channel}
use Rattle.rule.specs.declared.Refusal.TheVariants.{Complete}
use Rattle.rule.specs.Refusals.{refused, number_of, number, place, require, ◌>>=◌}
use Rattle.rule.specs.Checks.{checked, is_complete, ready}
use Rattle.rule.specs.Step.{step}
use Rattle.rule.specs.Filter.{filter}
use Rattle.rule.specs.Run.{run_on, run_for}
use Rattle.rule.specs.Calls.{called, plainly, ended, ran, step_call, filter_call, run_call, run_for_call}
use Rattle.places.specs.Faults.{plain}
use Rattle.answers.specs.Stages.{refusal, acceptance, leaves}
use Rattle.checks.specs.Numbers.{done_of}
use Rattle.run_for.specs.Runs.{run_is}

module _ (c : Channel) (e : c.accepted ≡ c.wanted) where
  not_ready : (rows : List Row) → number_of (checked c rows) ≡ 0 → ready c rows ≡ refused Complete 0
  unfolding ready ◌>>=◌ require is_complete
  not_ready rows z = rw (done_of (checked c rows) z, eq-eqb c.accepted c.wanted e)

  -- a step with a row that passes the checks, and a filter pass, are refused with 11
  pub step_complete : (s : Row) → number_of (checked c (s ∷ [])) ≡ 0 → step_call c s ≡ leaves (refusal (plain 11) 0) c
  unfolding step_call step called ◌>>=◌ number place
  step_complete s z = rw (not_ready (s ∷ []) z)

  pub filter_complete : number_of (checked c []) ≡ 0 → filter_call c ≡ leaves (refusal (plain 11) 0) c
  unfolding filter_call filter plainly called ◌>>=◌ number place
  filter_complete z = rw (not_ready [] z)

  -- a run takes no step, and is complete
  pub run_for_complete : (most : ℕ) → number_of (checked c []) ≡ 0 → run_for_call most c ≡ leaves (acceptance 0) c
  unfolding run_for_call run_for ran ◌>>=◌ run_on ended is_complete
  run_for_complete most z =
      let none : c.wanted - c.accepted ≡ 0 = omega arith in
      rw (done_of (checked c []) z, none, le-ltb most 0 (omega arith), eq-eqb c.accepted c.wanted e)

  pub run_complete : number_of (checked c []) ≡ 0 → run_call c ≡ leaves (acceptance 0) c
  run_complete z = sym (run_is c) ∙ run_for_complete c.wanted z
