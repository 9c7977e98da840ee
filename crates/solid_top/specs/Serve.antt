-- solidd's own: what serving the sessions of a script side by side answers.
use Rattle.std.specs.Prelude.{◌≡◌, ℕ, List}
use Rattle.solid_base.specs.declared.entities.Model.{Model}
use Rattle.solid_base.specs.declared.replies.Reply.{Reply}
use Rattle.script_lines.specs.declared.commands.ScriptLine.{ScriptLine}
use Rattle.edit_core.specs.Versions.{LogEntry}
use Rattle.solid_desk.specs.Legal.{IsLegal}
use Rattle.solid_desk.specs.Sessions.{sessions_of}
use Rattle.solid_top.specs.declared.statuses.Status.{Status}
use Rattle.solid_top.specs.Output.{output_text}
use Rattle.solid_top.specs.Replay.{IsReplay}
use Rattle.solid_top.specs.Statuses.{IsDoneOrRefused}
use Rattle.solid_top.specs.TopFaults.{IsRefusal}

-- the bytes are a file and a script, and the text is the output of a lawful outcome of its
-- sessions, from the file's model on: whatever order their turns fell in
pub record IsServeOutput (bytes text : List ℕ) : Type 0 where
  pub opening : Model
  pub lines : List ScriptLine
  pub log : List LogEntry
  pub transcripts : List (List Reply)
  pub input : IsReplay bytes opening lines
  pub lawful : IsLegal opening (sessions_of lines) log transcripts
  pub printed : text ≡ output_text log transcripts

-- Done comes only for a file and a script, with the output of a lawful outcome; Refused only for
-- bytes that are refused as a file, with their first fault
abbrev pub IsServed : List ℕ → Status → List ℕ → Type 0
IsServed bytes s text = IsDoneOrRefused (IsServeOutput bytes) (IsRefusal bytes) s text
