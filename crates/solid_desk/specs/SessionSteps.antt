-- What one line of a session does that shares its book with others, and what its lines up to one
-- come to. solidd's own.
use Rattle.std.specs.Prelude.{◌≡◌, ℕ, suc, ◌+◌, ◌≤◌, List, ◌++◌}
use Rattle.solid_base.specs.declared.entities.Model.{Model}
use Rattle.solid_base.specs.declared.replies.Reply.{Reply}
use Rattle.script_lines.specs.declared.commands.Command.{Command}
use Rattle.edit_core.specs.Versions.{LogEntry}
use Rattle.turn_book.specs.Passes.{PassFacts}
use Rattle.solid_desk.specs.Outcomes.{Outcome, reply_of, named_version}
use Rattle.solid_desk.specs.Sessions.{Standing, at_start, standing_from, staged_after}
use Rattle.solid_desk.specs.SideBySide.{IsOutcomeBy, IsNewEntry, made_by}
use Rattle.solid_desk.specs.Turns.{IsHeard, IsServedOver}

-- solidd's own: a line of a session came to this, between two states of its pass, with this reply:
-- it may come to it wherever the session stands at its line with its batch, and was shown no
-- version later than the pass had seen, whatever is added to the log. Of where the session stands,
-- before and after the line, the number of the line and the batch are meant: the pass keeps what
-- was shown
pub record IsLineOver (old new : PassFacts Model LogEntry) (opening : Model) (session : ℕ)
    (at after : Standing) (c : Command) (reply : Reply) : Type 0 where
  pub outcome : Outcome
  pub printed : reply ≡ reply_of outcome
  pub may : (stands : Standing) → stands.line ≡ at.line → stands.batch ≡ at.batch
      → stands.shown ≤ old.seen
      → IsOutcomeBy opening new.front new.seen session stands c outcome
  pub line : after.line ≡ suc at.line
  pub batch : after.batch ≡ staged_after at.batch c outcome
  pub named : named_version outcome ≤ new.seen
  pub new_entry : IsNewEntry old.front outcome
  pub made : new.made ≡ old.made + made_by outcome
  pub more : List ℕ
  pub heard : new.heard ≡ old.heard ++ more
  pub by_heard : IsHeard more outcome

-- solidd's own: the first lines of a session came to these replies, between two states of its pass,
-- and the session stands there at its next line
pub record IsServedTo (old new : PassFacts Model LogEntry) (opening : Model) (session : ℕ)
    (commands : List Command) (replies : List Reply) (at : Standing) : Type 0 where
  pub over : IsServedOver old new opening session commands replies
  pub line : at.line ≡ (standing_from at_start commands over.outcomes).line
  pub batch : at.batch ≡ (standing_from at_start commands over.outcomes).batch
  pub shown : (standing_from at_start commands over.outcomes).shown ≤ new.seen
