-- The sessions of a script: those that have a line, and the session of each line. solidd's own.
use Rattle.std.specs.Prelude.{ℕ, ◌+◌, List, [], ◌∷◌, ◌++◌, Bool, true, false, cond, ◌==◌, map}
use Rattle.std.specs.List.{filter, range_with_len}
use Rattle.script_lines.specs.declared.commands.Command.{Command}
use Rattle.script_lines.specs.declared.commands.ScriptLine.{ScriptLine}
use Rattle.script_lines.specs.declared.commands.SessionLines.{SessionLines}
use Rattle.script_lines.specs.Grammar.{most_sessions}

-- solidd's own: the commands of a session: those of its lines, in the order of the input
abbrev pub commands_of : List ScriptLine → ℕ → List Command
commands_of [] k = []
commands_of (line ∷ lines) k =
    cond (line.session == k) (line.command ∷ commands_of lines k) (commands_of lines k)

-- a session with its commands
abbrev pub session_by : List ScriptLine → ℕ → SessionLines
session_by lines k = record { session = k; commands = commands_of lines k }

-- all sessions, also those without a line, from 0 on
abbrev pub all_sessions : List ScriptLine → List SessionLines
all_sessions lines = map (session_by lines) (range_with_len 0 (most_sessions + 1))

abbrev pub has_some : List Command → Bool
has_some [] = false
has_some (c ∷ commands) = true

-- whether a session has a line
abbrev pub has_line : SessionLines → Bool
has_line s = has_some s.commands

-- solidd's own: the sessions that have a line, in ascending order, each with its commands
abbrev pub sessions_of : List ScriptLine → List SessionLines
sessions_of lines = filter has_line (all_sessions lines)

-- solidd's own: the session of each line, in the order of the input
abbrev pub order_of : List ScriptLine → List ℕ
order_of lines = map (λ line. line.session) lines

-- a session with one command more
abbrev pub with_command : SessionLines → Command → SessionLines
with_command s c = record { session = s.session; commands = s.commands ++ c ∷ [] }
