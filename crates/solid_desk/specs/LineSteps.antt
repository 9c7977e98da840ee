-- The steps of a line that is done over a book, as the code takes them. solidd's own.
use Rattle.std.specs.Prelude.{◌≡◌}
use Rattle.script_lines.specs.declared.commands.Command.{Command}
use Rattle.script_lines.specs.declared.commands.Command.TheVariants as command
use Rattle.edit_core.specs.Versions.{LogEntry}
use Rattle.ask_core.specs.Books.{BookFacts}
use Rattle.solid_desk.specs.InOrder.{IsDoneNow}
use Rattle.solid_desk.specs.Legal.{entry_at}
use Rattle.solid_desk.specs.Outcomes.{Outcome, no_memory}
use Rattle.solid_desk.specs.Sessions.{Standing, staged_after}

-- a commit came to this over a book, wherever a session stands that commits so
pub record IsCommitDone (old new : BookFacts) (entry : LogEntry) (outcome : Outcome) : Type 0 where
  pub done : (at : Standing) → entry ≡ entry_at entry.session at
      → IsDoneNow old.opening old.log entry.session at command.Commit outcome new.log
  pub opening : new.opening ≡ old.opening
  pub memo : new.memo ≡ old.memo

-- where a session stands at a line that lacked memory, before it is counted: a commit leaves
-- nothing staged
abbrev pub without_line : Standing → Command → Standing
without_line at c = record {
  line = at.line;
  batch = staged_after at.batch c no_memory;
  shown = at.shown;
}
