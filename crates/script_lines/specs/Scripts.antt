-- Scripts: the lines that aren't skipped, each with its session and its command. solidd's own.
use Rattle.std.specs.Prelude.{◌<◌, ◌≤◌, ℕ, List, [], ◌∷◌, length}
use Rattle.std.specs.List.{AllByRecursion}
use Rattle.solid_base.specs.Texts.{IsOneLine}
use Rattle.solid_questions.specs.Questions.{IsLawful}
use Rattle.script_lines.specs.declared.commands.Command.{Command}
use Rattle.script_lines.specs.declared.commands.Command.TheVariants as command
use Rattle.script_lines.specs.declared.commands.ScriptLine.{ScriptLine}
use Rattle.script_lines.specs.Grammar.{IsLine, most_sessions}
use Rattle.script_lines.specs.Lines.{kept_lines}

-- solidd's own: the numbers of a command are in their ranges
abbrev pub IsLawfulCommand : Command → Type 0
IsLawfulCommand (command.Ask q live) = IsLawful q
IsLawfulCommand (command.Replace de r) = 0 < de
IsLawfulCommand (command.Add de r) = 0 < de
IsLawfulCommand (command.Drop de) = 0 < de
IsLawfulCommand command.Commit = Unit {0}
IsLawfulCommand (command.Bad f) = Unit {0}

-- solidd's own: a command that keeps a text of its own: that of a row
abbrev pub TakesMemory : Command → Type 0
TakesMemory (command.Ask q live) = ⊥
TakesMemory (command.Replace de r) = Unit {0}
TakesMemory (command.Add de r) = Unit {0}
TakesMemory (command.Drop de) = ⊥
TakesMemory command.Commit = ⊥
TakesMemory (command.Bad f) = ⊥

-- solidd's own: a text is one line of at most so many bytes
abbrev pub IsLineWithin : ℕ → List ℕ → Type 0
IsLineWithin most text = IsOneLine text × (length text ≤ most)

-- solidd's own: the record of a command, where it has one, is one line of at most so many bytes
abbrev pub HasRecordWithin : ℕ → Command → Type 0
HasRecordWithin most (command.Ask q live) = Unit {0}
HasRecordWithin most (command.Replace de r) = IsLineWithin most r.text
HasRecordWithin most (command.Add de r) = IsLineWithin most r.text
HasRecordWithin most (command.Drop de) = Unit {0}
HasRecordWithin most command.Commit = Unit {0}
HasRecordWithin most (command.Bad f) = Unit {0}

-- solidd's own: each record of the lines is one line of at most so many bytes
abbrev pub HaveRecordsWithin : ℕ → List ScriptLine → Type 0
HaveRecordsWithin most lines = AllByRecursion (λ line. HasRecordWithin most line.command) lines

-- solidd's own: a line belongs to one of the sessions, and its numbers are in their ranges
abbrev pub IsLawfulLine : ScriptLine → Type 0
IsLawfulLine line = (line.session ≤ most_sessions) × IsLawfulCommand line.command

-- solidd's own: these lines have these sessions and commands, one each, in the same order
abbrev pub AreLines : List (List ℕ) → List ScriptLine → Type 0
AreLines [] [] = Unit {0}
AreLines [] (s ∷ script) = ⊥
AreLines (line ∷ lines) [] = ⊥
AreLines (line ∷ lines) (s ∷ script) = IsLine line s × AreLines lines script

-- solidd's own: the bytes are this script: the sessions and commands of the lines that aren't
-- skipped, in the order of the input
abbrev pub IsScript : List ℕ → List ScriptLine → Type 0
IsScript bytes script = AreLines (kept_lines bytes) script
