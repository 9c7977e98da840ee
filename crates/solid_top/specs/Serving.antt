-- Sessions that are served side by side, as code keeps them: before they run, once they have run,
-- and with their replies. solidd's own.
use Rattle.std.specs.Prelude.{◌≡◌, ℕ, ◌+◌, ◌<◌, ◌^◌, List, [], ◌∷◌, ◌++◌, IfOk, length, map, Some}
use Rattle.std.specs.Prelude.{codes, decimal}
use Rattle.std.specs.List.{AllByRecursion}
use Rattle.solid_base.specs.declared.entities.Model.{Model}
use Rattle.solid_base.specs.declared.replies.Reply.{Reply}
use Rattle.script_lines.specs.declared.commands.SessionLines.{SessionLines}
use Rattle.script_lines.specs.Scripts.{IsLawfulCommand, HasRecordWithin}
use Rattle.edit_core.specs.Versions.{LogEntry}
use Rattle.turn_book.specs.Passes.{TurnFacts, IsPassOf, IsIdle}
use Rattle.solid_desk.specs.Outcomes.{Outcome, reply_of}
use Rattle.solid_desk.specs.SideBySide.{IsSessionBy, committed_count}
use Rattle.solid_top.specs.declared.serve.Job.{Job}
use Rattle.solid_top.specs.declared.serve.Done.{Done}
use Rattle.solid_top.specs.declared.transcripts.Served.{Served}
use Rattle.solid_top.specs.Output.{log_text, session_text}

-- ---- before

-- the commands of a session are in their ranges, and there are fewer than 2^32
pub record IsLawfulSession (s : SessionLines) : Type 0 where
  pub lawful : AllByRecursion IsLawfulCommand s.commands
  pub records_within : AllByRecursion (HasRecordWithin (2 ^ 25)) s.commands
  pub few : length s.commands < 2 ^ 32

-- a session may run under a turn: its pass is of it, with one part, and has made nothing
pub record IsReady (turn : TurnFacts Model) (job : Job) : Type 0 where
  pub of_turn : IsPassOf turn job.pass
  pub idle : IsIdle job.pass
  pub one_part : job.pass.parts ≡ 1
  pub nothing_made : job.pass.made ≡ 0
  pub lines : IsLawfulSession job.lines

-- ---- after

-- the lines of a session came to these replies, by a front of the log, and made so many commits
pub record IsServedBy (opening : Model) (front : List LogEntry) (seen : ℕ) (made : ℕ)
    (s : SessionLines) (replies : List Reply) : Type 0 where
  pub outcomes : List Outcome
  pub printed : replies ≡ map reply_of outcomes
  pub may : IsSessionBy opening front seen s.session s.commands outcomes
  pub count : made ≡ committed_count outcomes

-- a session has run under a turn: its pass came back, with one part, and what it knows and made is
-- what its lines came to
pub record HasRun (turn : TurnFacts Model) (done : Done) : Type 0 where
  pub of_turn : IsPassOf turn done.pass
  pub idle : IsIdle done.pass
  pub one_part : done.pass.parts ≡ 1
  pub served : IfOk done.replies (λ replies. (opening : Model) → turn.opening ≡ Some opening
      → IsServedBy opening done.pass.front done.pass.seen done.pass.made done.lines replies)

-- ---- all together

-- the lines of these sessions came to these replies, by a front of the log, and made so many
-- commits in all
abbrev pub AreServedBy
    : Model → List LogEntry → ℕ → ℕ → List SessionLines → List Served → Type 0
AreServedBy opening front seen made [] [] = made ≡ 0
AreServedBy opening front seen made [] (one ∷ more) = ⊥
AreServedBy opening front seen made (s ∷ sessions) [] = ⊥
AreServedBy opening front seen made (s ∷ sessions) (one ∷ more) =
    (first : ℕ) × (others : ℕ) × (made ≡ first + others) × (one.session ≡ s.session)
    × IsServedBy opening front seen first s one.replies
    × AreServedBy opening front seen others sessions more

-- ---- the text

-- the replies of these sessions, one after the other
abbrev pub served_text : List Served → List ℕ
served_text [] = []
served_text (one ∷ more) = session_text one.session one.replies ++ served_text more

-- the whole text of a run with these replies
abbrev pub whole_text : List LogEntry → List Served → List ℕ
whole_text log served =
    codes "LOG "
    ++ (decimal (length log)
    ++ (codes "\n" ++ (log_text 1 log ++ (served_text served ++ codes "END\n"))))
