-- The sessions as code keeps them until all lines are done: where each stands, and its replies.
use Rattle.std.specs.Prelude.{◌≡◌, ℕ, ◌+◌, ◌<◌, List, [], ◌∷◌, ◌++◌, length, get_or, map}
use Rattle.std.specs.List.{flat_map}
use Rattle.solid_base.specs.declared.replies.Reply.{Reply}
use Rattle.script_lines.specs.declared.commands.ScriptLine.{ScriptLine}
use Rattle.script_lines.specs.Grammar.{most_sessions}
use Rattle.solid_desk.specs.InOrder.{session_outcomes}
use Rattle.solid_desk.specs.Outcomes.{Outcome, reply_of, reply_text}
use Rattle.solid_desk.specs.Sessions.{Standing, at_start}
use Rattle.solid_top.specs.declared.sessions.Transcript.{Transcript}

-- no reply yet
abbrev pub no_replies : Transcript
no_replies = record { stands = at_start; count = 0; text = [] }

-- with one reply more, of this text, and where the session stands then
abbrev pub with_reply : Transcript → Standing → List ℕ → Transcript
with_reply kept stands text =
    record { stands = stands; count = kept.count + 1; text = kept.text ++ text }

-- these are the number and the text of the replies of one session
abbrev pub Keeps : Transcript → List Reply → Type 0
Keeps kept replies =
    (kept.count ≡ length replies) × (kept.text ≡ flat_map reply_text replies)

-- these are those of each session, one by one
abbrev pub KeepEach : List Transcript → List (List Reply) → Type 0
KeepEach [] [] = Unit {0}
KeepEach [] (replies ∷ others) = ⊥
KeepEach (kept ∷ more) [] = ⊥
KeepEach (kept ∷ more) (replies ∷ others) = Keeps kept replies × KeepEach more others

-- those of all sessions after these lines
pub record KeepAll (sessions : List Transcript) (lines : List ScriptLine)
    (outcomes : List Outcome) : Type 0 where
  pub size : length sessions ≡ most_sessions + 1
  pub each : (k : ℕ) → k < most_sessions + 1
      → Keeps (get_or sessions k no_replies) (map reply_of (session_outcomes lines outcomes k))
