-- Histories of any calls over bytes exist: from all bytes each call, of on_file, the running program's or from C, has an outcome
-- that its contract permits, with the rule's answer and the bytes that the rule leaves. Assumes nothing.
use Rattle.std.specs.Prelude.{ℕ, ◌≡◌, refl, List, [], ◌∷◌, ◌++◌, map, length, take}
use Rattle.std.proofs.Common.{◌∙◌, ap, subst, append_assoc, append-nil}
use Rattle.std.proofs.Math.Seq.{take-length}
use Rattle.rule.specs.declared.Answer.{Answer}
use Rattle.rule.specs.Calls.{Called, packed, check_file, make_file, step_file, filter_file, run_for_file, run_file}
use Rattle.little.specs.Numbers.{AreBytes}
use Rattle.on_file.specs.Ran.{in_buffer, run_leaves}
use Rattle.packing.specs.Packed.{make_unpacked, check_unpacked}
use Rattle.history.specs.Witness.{forever, ref, mut}
use Rattle.history.specs.FileRule as rule
use Rattle.history.specs.FileRule.{FileCall, pour, smooth, on_bytes, file_after}
use Rattle.history.proofs.FileOne.{bytes_stay}
use Rattle.history.specs.FileHistory as links
use Rattle.history.specs.FileHistory.{FileStart, FileLink, FileHistory, none, then, answer, ruled, call_by, calls}
use Rattle.history.proofs.FileKept.{file_answers_are_the_rule's}
use Rattle.history.specs.FileAnyCalls.{AnyFileCall, step, filter, run_for, run, c_step, c_filter, c_run, call_of, file_answers_to, asked_by, asked, answers}
use Rattle.history.specs.FileWitness.{Linked, FileMade, FileCalled}

-- the running program writes all of what it made
written : (s t : List ℕ) → take (length t) (in_buffer s t) ≡ t
unfolding in_buffer
written s [] = refl
written s (b ∷ t) = take-length (b ∷ t)

-- from all bytes, by every call, to what the rule leaves
pub any_file_link : (s : List ℕ) → AreBytes s → (call : AnyFileCall) → Linked s (on_bytes s (call_of call)).left call
unfolding on_bytes call_of asked_by
any_file_link s b (step p) =
    let k = step_file s p in
    record { link = links.step (record { κs = forever 2; a = (mut s, (ref p, tt)); r = k.answer; x = (mut k.left, (ref p, tt)); permitted = (refl, b) }); asks = refl }
any_file_link s b filter =
    let k = filter_file s in
    record { link = links.filter (record { κs = forever 1; a = (mut s, tt); r = k.answer; x = (mut k.left, tt); permitted = (refl, b) }); asks = refl }
any_file_link s b (run_for most) =
    let k = run_for_file most s in
    record { link = links.run_for (record { κs = forever 1; a = (most, (mut s, tt)); r = k.answer; x = (most, (mut k.left, tt)); permitted = (refl, b) }); asks = refl }
any_file_link s b run =
    let t = run_file s in
    subst (λ x. Linked s x run) (run_leaves s)
    (record { link = links.run (record { κs = forever 1; a = (mut s, tt); r = length t; x = (mut (in_buffer s t), tt); permitted = ((written s t, (refl, refl)), b) }); asks = refl })
any_file_link s b (c_step p) =
    let k = step_file s p in
    record { link = links.c_step (record { κs = forever 2; a = (mut s, (ref p, tt)); r = packed k.answer; x = (mut k.left, (ref p, tt)); permitted = ((refl, refl), b) }); asks = refl }
any_file_link s b c_filter =
    let k = filter_file s in
    record { link = links.c_filter (record { κs = forever 1; a = (mut s, tt); r = packed k.answer; x = (mut k.left, tt); permitted = ((refl, refl), b) }); asks = refl }
any_file_link s b (c_run most) =
    let k = run_for_file most s in
    record { link = links.c_run (record { κs = forever 1; a = (mut s, (most, tt)); r = packed k.answer; x = (mut k.left, (most, tt)); permitted = ((refl, refl), b) }); asks = refl }

-- a link stands for the rule's call of its function, and answers as the rule does
call_is : {s t : List ℕ} (l : FileLink s t) → call_by l ≡ call_of (asked_by l)
unfolding call_by call_of asked_by
call_is (links.step o) = refl
call_is (links.filter o) = refl
call_is (links.run_for o) = refl
call_is (links.run o) = refl
call_is (links.c_step o) = refl
call_is (links.c_filter o) = refl
call_is (links.c_run o) = refl

answer_is : {s t : List ℕ} (l : FileLink s t) → answer l ≡ (on_bytes s (call_by l)).answer
unfolding ruled
answer_is l = ap (λ (k : Called (List ℕ)). k.answer) (file_answers_are_the_rule's l)

-- from all bytes, by any calls one after the other, to what the rule leaves, with the rule's answers
goes_on : {s t : List ℕ} (before : List AnyFileCall) (ruled : List FileCall) (given : List Answer) → AreBytes t → FileMade s t before ruled given → (asks : List AnyFileCall) → let more = map call_of asks in FileMade s (file_after t more) (before ++ asks) (ruled ++ more) (given ++ file_answers_to t more)
unfolding file_after file_answers_to asked calls answers
goes_on before ruled given b m [] = rw (append-nil, append-nil, append-nil) m
goes_on {s} {t} before ruled given b m (ask ∷ asks) =
    let call = call_of ask in
    let w = any_file_link t b ask in
    let k = on_bytes t call in
    let c : call_by w.link ≡ call = call_is w.link ∙ ap call_of w.asks in
    let e : answer w.link ≡ k.answer = answer_is w.link ∙ ap (λ x. (on_bytes t x).answer) c in
    let n : FileMade s k.left (before ++ (ask ∷ [])) (ruled ++ (call ∷ [])) (given ++ (k.answer ∷ [])) =
    record { history = then m.history w.link; asks = rw (m.asks, w.asks); calls = rw (m.calls, c); answers = rw (m.answers, e) } in
    rw (append_assoc, append_assoc, append_assoc) at (goes_on {s = s} {t = k.left} (before ++ (ask ∷ [])) (ruled ++ (call ∷ [])) (given ++ (k.answer ∷ [])) (bytes_stay t call b) n asks)

pub any_file_history : (s : List ℕ) → AreBytes s → (asks : List AnyFileCall) → let ruled = map call_of asks in FileMade s (file_after s ruled) asks ruled (file_answers_to s ruled)
unfolding asked calls answers
any_file_history s b asks = goes_on [] [] [] b (record { history = none; asks = refl; calls = refl; answers = refl }) asks

-- so too of the rule's calls, whatever they are
plain : FileCall → AnyFileCall
plain (pour p) = step p
plain smooth = filter
plain (rule.run_for most) = run_for most

plain_is : (calls : List FileCall) → map call_of (map plain calls) ≡ calls
unfolding plain call_of
plain_is [] = refl
plain_is (pour p ∷ calls) = ap (λ x. pour p ∷ x) (plain_is calls)
plain_is (smooth ∷ calls) = ap (λ x. smooth ∷ x) (plain_is calls)
plain_is (rule.run_for most ∷ calls) = ap (λ x. rule.run_for most ∷ x) (plain_is calls)

pub any_file_calls : (s : List ℕ) → AreBytes s → (calls : List FileCall) → FileCalled s calls
any_file_calls s b calls =
    let m = any_file_history s b (map plain calls) in
    subst (FileCalled s) (plain_is calls) (record { history = m.history; calls = m.calls; answers = m.answers })

-- and to start from: all that the rule makes or the check takes, by the library's function and by C's
module _ (n X T wanted : ℕ) (h e u damping buffer : List ℕ) where
  abbrev made : Called (List ℕ)
  made = make_file n X T wanted h e u damping buffer

  pub make_file_start : made.answer.number ≡ 0 → FileStart made.left
  make_file_start z =
      links.made
      (record {
        κs = forever 5;
        a = (n, (X, (T, (wanted, (ref h, (ref e, (ref u, (ref damping, (mut buffer, tt)))))))));
        r = made.answer;
        x = (n, (X, (T, (wanted, (ref h, (ref e, (ref u, (ref damping, (mut made.left, tt)))))))));
        permitted = refl;
      })
      z

  pub c_make_start : made.answer.number ≡ 0 → FileStart made.left
  c_make_start z =
      links.c_made
      (record {
        κs = forever 5;
        a = (n, (X, (T, (wanted, (ref h, (ref e, (ref u, (ref damping, (mut buffer, tt)))))))));
        r = packed made.answer;
        x = (n, (X, (T, (wanted, (ref h, (ref e, (ref u, (ref damping, (mut made.left, tt)))))))));
        permitted = (refl, refl);
      })
      (ap (λ r. r.number) (make_unpacked n X T wanted h e u damping buffer refl) ∙ z)

module _ (s : List ℕ) (b : AreBytes s) where
  pub check_start : (check_file s).number ≡ 0 → FileStart s
  check_start z = links.checked (record { κs = forever 1; a = (ref s, tt); r = check_file s; x = (ref s, tt); permitted = (refl, b) }) z

  pub c_check_start : (check_file s).number ≡ 0 → FileStart s
  c_check_start z =
      links.c_checked (record { κs = forever 1; a = (ref s, tt); r = packed (check_file s); x = (ref s, tt); permitted = (refl, b) })
      (ap (λ r. r.number) (check_unpacked s refl) ∙ z)
