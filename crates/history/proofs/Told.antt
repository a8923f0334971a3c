-- Water is kept: each call of the library as the rule's calls that it stands for. Assumes nothing.
use Rattle.std.specs.Prelude.{refl, ◌+ℤ◌}
use Rattle.std.proofs.Common.{sym, ◌∙◌, ap, subst, arith}
use Rattle.std.proofs.Math.IntN.{+ℤ_idr}
use Rattle.rule.specs.Channel.{Channel}
use Rattle.rule.specs.Calls.{Called}
use Rattle.water.specs.History as rule
use Rattle.water.specs.History.{after}
use Rattle.history.specs.Steps as steps
use Rattle.history.specs.Runs as runs
use Rattle.history.specs.History.{Link, step, filter, run, run_for, History, none, then, amount, one, poured_by, poured, accepted_by, accepted, calls_by, calls}
use Rattle.history.specs.Answers.{Taken}
use Rattle.history.proofs.Answers.{step_amount, step_one, after_append, poured_append, accepts_append, still_poured, run_for_taken, run_taken}
use Rattle.history.specs.Told.{Told, Whole}

abbrev left : Called Channel → Channel
left k = k.left

told : {c d : Channel} (l : Link c d) → Told l
unfolding calls_by poured_by accepted_by after rule.next rule.poured rule.accepts rule.poured_by rule.accepted_by
told (step o) =
    let c = steps.entry o in
    let s = steps.row o in
    record {
      is = ap left o.permitted;
      pours = +ℤ_idr _ ∙ step_amount c s ∙ ap (λ (k : Called Channel). amount k.answer s) (sym o.permitted);
      counts =
          let e = step_one c s ∙ ap (λ (k : Called Channel). one k.answer) (sym o.permitted) in
          omega (arith, e);
    }
told (filter o) = record { is = ap left o.permitted; pours = +ℤ_idr _; counts = refl }
told (run o) =
    let c = runs.entry o in
    let t = subst (λ (k : Called Channel). Taken c k.left k.answer.count) (sym o.permitted) (run_taken c) in
    record { is = t.is; pours = still_poured c c.N (runs.answer o).count; counts = t.all }
told (run_for o) =
    let c = runs.entry_for o in
    let t = subst (λ (k : Called Channel). Taken c k.left k.answer.count) (sym o.permitted) (run_for_taken (runs.most o) c) in
    record { is = t.is; pours = still_poured c c.N (runs.answer_for o).count; counts = t.all }

pub whole : {c d : Channel} (h : History c d) → Whole h
unfolding calls poured accepted after rule.poured rule.accepts
whole none = record { is = refl; pours = refl; counts = refl }
whole {c} (then {between} h l) =
    let a = whole h in
    let b = told l in
    record {
      is = b.is ∙ ap (λ x. after x (calls_by l)) a.is ∙ sym (after_append c (calls h) (calls_by l));
      pours =
          poured_append c (calls h) (calls_by l)
          ∙ ap (λ x. rule.poured c (calls h) +ℤ rule.poured x (calls_by l)) (sym a.is)
          ∙ ap (λ t. t +ℤ rule.poured between (calls_by l)) a.pours
          ∙ ap (λ t. poured h +ℤ t) b.pours;
      counts =
          let e = ap (λ x. rule.accepts x (calls_by l)) a.is in
          omega (arith, accepts_append c (calls h) (calls_by l), e, a.counts, b.counts);
    }
