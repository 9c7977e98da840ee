-- What the calls of a session that share one book under a turn leave of its pass, and what they
-- come to. solidd's own.
use Rattle.std.specs.Prelude.{◌≡◌, ◌≢◌, ℕ, ◌+◌, ◌*◌, ◌≤◌, ◌<◌, List, [], ◌∷◌, ◌++◌, length, map}
use Rattle.std.specs.Prelude.{Bool, false, Contains}
use Rattle.std.specs.List.{AllByRecursion}
use mathlib.Core.List.{IsPrefix}
use Rattle.solid_base.specs.declared.entities.Model.{Model}
use Rattle.solid_base.specs.declared.replies.Reply.{Reply}
use Rattle.solid_questions.specs.declared.questions.Question.{Question}
use Rattle.script_lines.specs.declared.commands.Command.{Command}
use Rattle.script_lines.specs.declared.commands.Command.TheVariants as command
use Rattle.edit_core.specs.Versions.{LogEntry}
use Rattle.turn_book.specs.Passes.{TurnFacts, PassFacts, IsPassOf, IsIdle}
use Rattle.solid_desk.specs.Outcomes.{Outcome, bad_line, staged, committed, refused, answered}
use Rattle.solid_desk.specs.Outcomes.{cancelled, no_memory, reply_of, named_version}
use Rattle.solid_desk.specs.Sessions.{Standing}
use Rattle.solid_desk.specs.SideBySide.{IsOutcomeBy, IsSessionBy, IsNewEntry, made_by}
use Rattle.solid_desk.specs.SideBySide.{committed_count}

-- ---- passes

-- solidd's own: a call of a session leaves its pass of the turn and without it; the pass has been
-- shown and has heard what it had before, and has the same parts
pub record GoesOn (turn : TurnFacts Model) (old new : PassFacts Model LogEntry) : Type 0 where
  pub of_turn : IsPassOf turn new
  pub idle : IsIdle new
  pub front : IsPrefix old.front new.front
  pub seen : old.seen ≤ new.seen
  pub heard : IsPrefix old.heard new.heard
  pub parts : new.parts ≡ old.parts

-- ---- questions

-- solidd's own: what a question came to by the counts that it heard: it is answered where none of
-- them is later than its version, and given up for the first that is
abbrev pub IsByHeard : List ℕ → Outcome → Type 0
IsByHeard more (answered version body) = AllByRecursion (λ n. n ≤ version) more
IsByHeard more (cancelled version later) =
    (earlier : List ℕ) × (more ≡ earlier ++ later ∷ []) × (version < later)
    × AllByRecursion (λ n. n ≤ version) earlier
IsByHeard more (bad_line f) = ⊥
IsByHeard more (staged n) = ⊥
IsByHeard more (committed version) = ⊥
IsByHeard more (refused version f) = ⊥
IsByHeard more no_memory = ⊥

-- solidd's own: between two states of a pass the count of evaluations has risen by at most 64 for
-- each count that was heard
abbrev pub LooksOften : PassFacts Model LogEntry → PassFacts Model LogEntry → ℕ → ℕ → Type 0
LooksOften old new before count =
    count + 64 * length old.heard ≤ before + 64 * length new.heard

-- solidd's own: a session's question came to this, between two states of its pass: it may come to
-- it wherever the session was shown no version later than the pass had seen, whatever is added to
-- the log. A held question hears nothing
pub record IsAskedOver (old new : PassFacts Model LogEntry) (opening : Model) (session : ℕ)
    (q : Question) (live : Bool) (outcome : Outcome) : Type 0 where
  pub may : (at : Standing) → at.shown ≤ old.seen
      → IsOutcomeBy opening new.front new.seen session at (command.Ask q live) outcome
  pub named : named_version outcome ≤ new.seen
  pub more : List ℕ
  pub heard : new.heard ≡ old.heard ++ more
  pub held : live ≡ false → more ≡ []
  pub by_heard : IsByHeard more outcome

-- ---- commits

-- solidd's own: a session's commit came to this, between two states of its pass: it may come to it
-- wherever the session stands at its line with its batch, and was shown no version later than the
-- pass had seen, whatever is added to the log. Where it was made, its entry stands behind what the
-- pass had been shown
pub record IsEditedOver (old new : PassFacts Model LogEntry) (opening : Model) (entry : LogEntry)
    (outcome : Outcome) : Type 0 where
  pub may : (at : Standing) → at.line ≡ entry.line → at.batch ≡ entry.batch → at.shown ≤ old.seen
      → IsOutcomeBy opening new.front new.seen entry.session at command.Commit outcome
  pub known : outcome ≢ no_memory
  pub named : named_version outcome ≤ new.seen
  pub new_entry : IsNewEntry old.front outcome
  pub made : new.made ≡ old.made + made_by outcome

-- ---- sessions

-- solidd's own: the later version of a question that was given up is among the counts that were
-- heard
abbrev pub IsHeard : List ℕ → Outcome → Type 0
IsHeard more (cancelled version later) = Contains more later
IsHeard more (answered version body) = Unit {0}
IsHeard more (bad_line f) = Unit {0}
IsHeard more (staged n) = Unit {0}
IsHeard more (committed version) = Unit {0}
IsHeard more (refused version f) = Unit {0}
IsHeard more no_memory = Unit {0}

-- solidd's own: the lines of a session came to this, between two states of its pass, with these
-- replies: they may come to it whatever is added to the log; each commit that was made stands
-- behind what the pass had been shown, and the pass has made as many entries more; and each
-- question that was given up was given up for a count that was heard
pub record IsServedOver (old new : PassFacts Model LogEntry) (opening : Model) (session : ℕ)
    (commands : List Command) (replies : List Reply) : Type 0 where
  pub outcomes : List Outcome
  pub printed : replies ≡ map reply_of outcomes
  pub may : IsSessionBy opening new.front new.seen session commands outcomes
  pub new_entries : AllByRecursion (IsNewEntry old.front) outcomes
  pub made : new.made ≡ old.made + committed_count outcomes
  pub more : List ℕ
  pub heard : new.heard ≡ old.heard ++ more
  pub by_heard : AllByRecursion (IsHeard more) outcomes
