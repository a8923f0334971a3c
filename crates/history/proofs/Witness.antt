-- Histories of any calls exist: from every channel each call has an outcome that the library's contract permits, with the rule's
-- answer and what the rule leaves. So the laws about histories are about something. Assumes nothing.
use Rattle.std.specs.Prelude.{ℕ, true, false, ◌≡◌, refl, List, [], ◌∷◌, ◌++◌, map}
use Rattle.std.proofs.Common.{◌∙◌, ap, subst, append_assoc, append-nil}
use Rattle.rule.specs.declared.Answer.{Answer}
use Rattle.rule.specs.Rows.{Row}
use Rattle.rule.specs.Channel.{Channel}
use Rattle.little.specs.Numbers.{AreBytes}
use Rattle.rule.specs.Calls.{Called, make_call, read_call, step_call, filter_call, run_call, run_for_call}
use Rattle.rule.specs.Counted.{counts_of, left_of}
use Rattle.answers.specs.Stages.{leaves}
use Rattle.read.specs.Left.{read_of}
use Rattle.water.specs.History as rule
use Rattle.water.specs.History.{Call, next, after}
use Rattle.history.specs.Makes as makes
use Rattle.history.specs.History as links
use Rattle.history.specs.History.{Start, Link, History, none, then, answer, ruled, still, calls_by, calls}
use Rattle.history.proofs.Answers.{run_taken, run_for_taken}
use Rattle.history.proofs.Kept.{answers_are_the_rule's}
use Rattle.history.specs.AnyCalls.{AnyCall, pour, smooth, run, run_for, on_channel, channel_after, answers_to, calls_of, all_calls, asked_by, asked, answers}
use Rattle.history.specs.Basin.{like, still_like, step_like, filter_like, is_like, made_like, make_like}
use Rattle.history.specs.Witness.{forever, ref, rows, Linked, Made, RuleMade}

-- what runs leave
run_like : (c : Channel) → like c (run_call c).left ≡ (run_call c).left
run_like c = is_like c (run_call c).left _ (run_taken c).is

run_for_like : (most : ℕ) (c : Channel) → like c (run_for_call most c).left ≡ (run_for_call most c).left
run_for_like most c = is_like c (run_for_call most c).left _ (run_for_taken most c).is

step_linked : (c : Channel) (s : Row) → Linked c (like c (step_call c s).left) (pour s)
unfolding asked_by
step_linked c s =
    let k = step_call c s in
    record {
      link =
          links.step
          (record {
            κs = forever 8;
            a = (counts_of c, rows false true c (ref s, tt));
            r = left_of k;
            x = (counts_of c, rows false true (like c k.left) (ref s, tt));
            permitted = ap (leaves k.answer) (step_like c s);
          });
      asks = refl;
    }

filter_linked : (c : Channel) → Linked c (still_like c (filter_call c).left) smooth
unfolding asked_by
filter_linked c =
    let k = filter_call c in
    record {
      link =
          links.filter
          (record {
            κs = forever 7;
            a = (counts_of c, rows false true c tt);
            r = k.answer;
            x = (counts_of c, rows false true (like c k.left) tt);
            permitted = ap (leaves k.answer) (filter_like c);
          });
      asks = refl;
    }

run_linked : (c : Channel) → Linked c (like c (run_call c).left) run
unfolding asked_by
run_linked c =
    let k = run_call c in
    record {
      link =
          links.run
          (record {
            κs = forever 7;
            a = (counts_of c, rows false true c tt);
            r = left_of k;
            x = (counts_of c, rows false true (like c k.left) tt);
            permitted = ap (leaves k.answer) (run_like c);
          });
      asks = refl;
    }

run_for_linked : (most : ℕ) (c : Channel) → Linked c (like c (run_for_call most c).left) (run_for most)
unfolding asked_by
run_for_linked most c =
    let k = run_for_call most c in
    record {
      link =
          links.run_for
          (record {
            κs = forever 7;
            a = (most, (counts_of c, rows false true c tt));
            r = left_of k;
            x = (most, (counts_of c, rows false true (like c k.left) tt));
            permitted = ap (leaves k.answer) (run_for_like most c);
          });
      asks = refl;
    }

-- from every channel, by every call, to what the rule leaves
pub any_link : (c : Channel) (call : AnyCall) → Linked c (on_channel c call).left call
unfolding on_channel
any_link c (pour s) = subst (λ d. Linked c d (pour s)) (step_like c s) (step_linked c s)
any_link c smooth = subst (λ d. Linked c d smooth) (filter_like c) (filter_linked c)
any_link c run = subst (λ d. Linked c d run) (run_like c) (run_linked c)
any_link c (run_for most) = subst (λ d. Linked c d (run_for most)) (run_for_like most c) (run_for_linked most c)

-- a link's answer is the rule's to its call
ruled_is : {c d : Channel} (l : Link c d) → ruled l ≡ on_channel c (asked_by l)
unfolding ruled on_channel asked_by
ruled_is (links.step o) = refl
ruled_is (links.filter o) = refl
ruled_is (links.run o) = refl
ruled_is (links.run_for o) = refl

answer_is : {c d : Channel} (l : Link c d) → answer l ≡ (on_channel c (asked_by l)).answer
answer_is l = ap (λ (k : Called Channel). k.answer) (answers_are_the_rule's l ∙ ruled_is l)

-- and it stands for the rule's calls
calls_are : {c d : Channel} (l : Link c d) → calls_by l ≡ calls_of c (asked_by l)
unfolding calls_by calls_of asked_by
calls_are (links.step o) = refl
calls_are (links.filter o) = refl
calls_are {c} (links.run o) = ap (λ (k : Called Channel). still c.N k.answer.count) o.permitted
calls_are {c} (links.run_for o) = ap (λ (k : Called Channel). still c.N k.answer.count) o.permitted

-- from every channel, by any calls one after the other, to what the rule leaves, with the rule's answers
goes_on : {c d : Channel} (before : List AnyCall) (ruled : List Call) (given : List Answer) → Made c d before ruled given → (asking : List AnyCall) → Made c (channel_after d asking) (before ++ asking) (ruled ++ all_calls d asking) (given ++ answers_to d asking)
unfolding channel_after all_calls answers_to asked calls answers
goes_on before ruled given m [] = rw (append-nil, append-nil, append-nil) m
goes_on {c} {d} before ruled given m (ask ∷ asking) =
    let w = any_link d ask in
    let k = on_channel d ask in
    let e : answer w.link ≡ k.answer = answer_is w.link ∙ ap (λ x. (on_channel d x).answer) w.asks in
    let r : calls_by w.link ≡ calls_of d ask = calls_are w.link ∙ ap (calls_of d) w.asks in
    let n : Made c k.left (before ++ (ask ∷ [])) (ruled ++ calls_of d ask) (given ++ (k.answer ∷ [])) =
    record { history = then m.history w.link; asks = rw (m.asks, w.asks); calls = rw (m.calls, r); answers = rw (m.answers, e) } in
    rw (append_assoc, append_assoc, append_assoc) at (goes_on {c = c} {d = k.left} (before ++ (ask ∷ [])) (ruled ++ calls_of d ask) (given ++ (k.answer ∷ [])) n asking)

pub any_history : (c : Channel) (asking : List AnyCall) → Made c (channel_after c asking) asking (all_calls c asking) (answers_to c asking)
unfolding asked calls answers
any_history c asking = goes_on [] [] [] (record { history = none; asks = refl; calls = refl; answers = refl }) asking

-- so too of the rule's calls, whatever they are
plain : Call → AnyCall
plain (rule.pour s) = pour s
plain rule.smooth = smooth

plain_after : (c : Channel) (calls : List Call) → channel_after c (map plain calls) ≡ after c calls
unfolding plain channel_after after on_channel next
plain_after c [] = refl
plain_after c (rule.pour s ∷ calls) = plain_after (step_call c s).left calls
plain_after c (rule.smooth ∷ calls) = plain_after (filter_call c).left calls

plain_calls : (c : Channel) (calls : List Call) → all_calls c (map plain calls) ≡ calls
unfolding plain all_calls calls_of on_channel
plain_calls c [] = refl
plain_calls c (rule.pour s ∷ calls) = ap (λ x. rule.pour s ∷ x) (plain_calls (step_call c s).left calls)
plain_calls c (rule.smooth ∷ calls) = ap (λ x. rule.smooth ∷ x) (plain_calls (filter_call c).left calls)

pub any_calls : (c : Channel) (ruled : List Call) → RuleMade c (after c ruled) ruled
any_calls c ruled =
    let m = any_history c (map plain ruled) in
    subst (λ d. RuleMade c d ruled) (plain_after c ruled) (record { history = m.history; calls = m.calls ∙ plain_calls c ruled })

-- and to start from: every channel that the rule makes or reads
pub make_start : (c : Channel) → (make_call c).answer.number ≡ 0 → Start (make_call c).left
make_start c z =
    let k = make_call c in
    let o : makes.Make =
    record {
      κs = forever 7;
      a = (counts_of c, rows false false c tt);
      r = left_of k;
      x = (counts_of c, rows false false (made_like c k.left) tt);
      permitted = ap (leaves k.answer) (make_like c);
    } in
    subst Start (make_like c) (links.made o z)

pub read_start : (c : Channel) (s : List ℕ) → AreBytes s → (read_call c s).answer.number ≡ 0 → Start (read_call c s).left
read_start c s b z =
    let k = read_call c s in
    links.read (record { κs = forever 8; a = (ref s, (counts_of c, rows true true c tt)); r = read_of k; x = (ref s, (counts_of c, rows true true k.left tt)); permitted = (refl, b) }) z
