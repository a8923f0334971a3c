-- Calls of any kind on a channel, one after the other: what the rule answers and leaves, and which calls a history made.
use Rattle.std.specs.Prelude.{ℕ, List, [], ◌∷◌, ◌++◌}
use Rattle.rule.specs.declared.Answer.{Answer}
use Rattle.rule.specs.Rows.{Row}
use Rattle.rule.specs.Channel.{Channel}
use Rattle.rule.specs.Calls.{Called, step_call, filter_call, run_call, run_for_call}
use Rattle.water.specs.History as rule
use Rattle.water.specs.History.{Call}
use Rattle.history.specs.Steps as steps
use Rattle.history.specs.Runs as runs
use Rattle.history.specs.History as links
use Rattle.history.specs.History.{Link, History, none, then, answer, still}

-- a step that pours a row, legal or not, a filter pass, a run, or a run of at most so many steps
pub data AnyCall : Type 0 where
  pour : Row → AnyCall
  smooth : AnyCall
  run : AnyCall
  run_for : ℕ → AnyCall

-- on the channel c, by the rule
unfoldable pub on_channel : Channel → AnyCall → Called Channel
on_channel c (pour s) = step_call c s
on_channel c smooth = filter_call c
on_channel c run = run_call c
on_channel c (run_for most) = run_for_call most c

-- what calls leave one after the other, and what they answer
unfoldable pub channel_after : Channel → List AnyCall → Channel
channel_after c [] = c
channel_after c (call ∷ calls) = channel_after (on_channel c call).left calls

unfoldable pub answers_to : Channel → List AnyCall → List Answer
answers_to c [] = []
answers_to c (call ∷ calls) = (on_channel c call).answer ∷ answers_to (on_channel c call).left calls

-- the rule's calls that they stand for: of a run, as many steps with nothing poured as it accepts
unfoldable pub calls_of : Channel → AnyCall → List Call
calls_of c (pour s) = rule.pour s ∷ []
calls_of c smooth = rule.smooth ∷ []
calls_of c run = still c.N (run_call c).answer.count
calls_of c (run_for most) = still c.N (run_for_call most c).answer.count

unfoldable pub all_calls : Channel → List AnyCall → List Call
all_calls c [] = []
all_calls c (call ∷ calls) = calls_of c call ++ all_calls (on_channel c call).left calls

-- the calls of a history, and its answers
unfoldable pub asked_by : {c d : Channel} → Link c d → AnyCall
asked_by (links.step o) = pour (steps.row o)
asked_by (links.filter o) = smooth
asked_by (links.run o) = run
asked_by (links.run_for o) = run_for (runs.most o)

unfoldable pub asked : {c d : Channel} → History c d → List AnyCall
asked none = []
asked (then h l) = asked h ++ (asked_by l ∷ [])

unfoldable pub answers : {c d : Channel} → History c d → List Answer
answers none = []
answers (then h l) = answers h ++ (answer l ∷ [])
