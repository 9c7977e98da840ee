-- Sessions that run side by side: each knows its own lines and a front of the log. solidd's own.
use Rattle.std.specs.Prelude.{ℕ, ◌+◌, ◌<◌, ◌≤◌, List, [], ◌∷◌, length}
use mathlib.Core.List.{IsPrefix}
use Rattle.solid_base.specs.declared.entities.Model.{Model}
use Rattle.script_lines.specs.declared.commands.Command.{Command}
use Rattle.edit_core.specs.Versions.{LogEntry}
use Rattle.solid_desk.specs.Outcomes.{Outcome, bad_line, staged, committed, refused, answered}
use Rattle.solid_desk.specs.Outcomes.{cancelled, no_memory}
use Rattle.solid_desk.specs.Sessions.{Standing, at_start}
use Rattle.solid_desk.specs.Legal.{IsOutcome, IsSession}

-- ---- how many commits

-- solidd's own: how many versions a line made: 1 where its commit was made, and else 0
abbrev pub made_by : Outcome → ℕ
made_by (bad_line f) = 0
made_by (staged count) = 0
made_by (committed version) = 1
made_by (refused version f) = 0
made_by (answered version body) = 0
made_by (cancelled version later) = 0
made_by no_memory = 0

-- solidd's own: how many commits of a session were made
abbrev pub committed_count : List Outcome → ℕ
committed_count [] = 0
committed_count (outcome ∷ outcomes) = made_by outcome + committed_count outcomes

-- solidd's own: how many commits of all sessions were made
abbrev pub all_committed_count : List (List Outcome) → ℕ
all_committed_count [] = 0
all_committed_count (outcomes ∷ others) =
    committed_count outcomes + all_committed_count others

-- ---- what a session knows

-- solidd's own: a line may come to this by each log that goes on from a front and has at least as
-- many entries as were seen
abbrev pub IsOutcomeBy
    : Model → List LogEntry → ℕ → ℕ → Standing → Command → Outcome → Type 0
IsOutcomeBy opening front seen session at c outcome =
    (log : List LogEntry) → IsPrefix front log → seen ≤ length log →
    IsOutcome opening log session at c outcome

-- solidd's own: the lines of a session may come to this, whatever the other sessions add to the
-- log: by each log that goes on from its front and has at least as many entries as it has seen
abbrev pub IsSessionBy
    : Model → List LogEntry → ℕ → ℕ → List Command → List Outcome → Type 0
IsSessionBy opening front seen session commands outcomes =
    (log : List LogEntry) → IsPrefix front log → seen ≤ length log →
    IsSession opening log session at_start commands outcomes

-- solidd's own: a version that a line made is later than each version of the front
abbrev pub IsNewEntry : List LogEntry → Outcome → Type 0
IsNewEntry front (bad_line f) = Unit {0}
IsNewEntry front (staged count) = Unit {0}
IsNewEntry front (committed version) = length front < version
IsNewEntry front (refused version f) = Unit {0}
IsNewEntry front (answered version body) = Unit {0}
IsNewEntry front (cancelled version later) = Unit {0}
IsNewEntry front no_memory = Unit {0}
