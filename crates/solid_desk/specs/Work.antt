-- How many evaluations of primitives the lines of a script take, where each question is answered
-- afresh. solidd's own.
use Rattle.std.specs.Prelude.{◌≡◌, ℕ, ◌+◌, List, [], ◌∷◌}
use Rattle.solid_base.specs.declared.entities.Model.{Model}
use Rattle.solid_questions.specs.declared.questions.Question.{Question}
use Rattle.script_lines.specs.declared.commands.Command.{Command}
use Rattle.script_lines.specs.declared.commands.Command.TheVariants as command
use Rattle.script_lines.specs.declared.commands.ScriptLine.{ScriptLine}
use Rattle.ask_core.specs.Answers.{Evaluates}
use Rattle.edit_core.specs.Versions.{LogEntry, IsVersion}
use Rattle.solid_desk.specs.Outcomes.{Outcome, bad_line, staged, committed, refused, answered}
use Rattle.solid_desk.specs.Outcomes.{cancelled, no_memory}

-- solidd's own: so many evaluations a question takes that came to this: those of its answer on the
-- model of its version
abbrev pub IsAskedWork : Model → List LogEntry → Question → Outcome → ℕ → Type 0
IsAskedWork opening log q (answered version body) count =
    (model : Model) × IsVersion opening log version model × Evaluates model.rows q count
IsAskedWork opening log q (cancelled version later) count = count ≡ 0
IsAskedWork opening log q no_memory count = count ≡ 0
IsAskedWork opening log q (bad_line f) count = count ≡ 0
IsAskedWork opening log q (staged n) count = count ≡ 0
IsAskedWork opening log q (committed version) count = count ≡ 0
IsAskedWork opening log q (refused version f) count = count ≡ 0

-- solidd's own: so many evaluations a line takes that came to this
abbrev pub IsWork : Model → List LogEntry → Command → Outcome → ℕ → Type 0
IsWork opening log (command.Ask q live) outcome count = IsAskedWork opening log q outcome count
IsWork opening log (command.Replace de r) outcome count = count ≡ 0
IsWork opening log (command.Add de r) outcome count = count ≡ 0
IsWork opening log (command.Drop de) outcome count = count ≡ 0
IsWork opening log command.Commit outcome count = count ≡ 0
IsWork opening log (command.Bad f) outcome count = count ≡ 0

-- solidd's own: so many evaluations the lines of a script take in all
abbrev pub AreWork : Model → List LogEntry → List ScriptLine → List Outcome → ℕ → Type 0
AreWork opening log [] outcomes count = count ≡ 0
AreWork opening log (line ∷ lines) [] count = count ≡ 0
AreWork opening log (line ∷ lines) (outcome ∷ outcomes) count =
    (first : ℕ) × (others : ℕ) × IsWork opening log line.command outcome first
    × AreWork opening log lines outcomes others × (count ≡ first + others)
