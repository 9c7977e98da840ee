-- Runs in which no line commits. solidd's own.
use Rattle.std.specs.Prelude.{◌≡◌, ◌≢◌, ◌⊎◌, List, Some, None}
use Rattle.std.specs.List.{AllByRecursion}
use Rattle.solid_base.specs.declared.replies.Reply.{Reply}
use Rattle.script_lines.specs.declared.commands.Command.{Command}
use Rattle.script_lines.specs.declared.commands.Command.TheVariants as command
use Rattle.solid_desk.specs.Outcomes.{Outcome, named_version}

-- solidd's own: no line of the sessions is a commit
abbrev pub HaveNoCommit : List (List Command) → Type 0
HaveNoCommit sessions = AllByRecursion (AllByRecursion (λ c. c ≢ command.Commit)) sessions

-- solidd's own: what a line came to names no version but 0
abbrev pub NamesNoLaterVersion : Outcome → Type 0
NamesNoLaterVersion outcome = named_version outcome ≡ 0

-- solidd's own: a reply names version 0, or none
abbrev pub NamesOnlyTheOpening : Reply → Type 0
NamesOnlyTheOpening reply = (reply.version ≡ None) ⊎ (reply.version ≡ Some 0)
