-- What a session does under one hold of the turn, and in one round of a question. solidd's own.
use Rattle.std.specs.Prelude.{◌≡◌, ℕ, ◌+◌, ◌≤◌, List, [], ◌∷◌, ◌++◌, length, Bool, true, false}
use Rattle.std.specs.Prelude.{Option, Some, None, Result, Ok, Err}
use Rattle.std.specs.List.{AllByRecursion}
use mathlib.Core.List.{IsPrefix}
use Rattle.solid_base.specs.declared.entities.Model.{Model}
use Rattle.solid_base.specs.declared.replies.Reply.{Reply}
use Rattle.solid_questions.specs.declared.questions.Question.{Question}
use Rattle.memo_graph.specs.Memos.{Entry}
use Rattle.edit_core.specs.declared.faults.EditFault.{EditFault}
use Rattle.edit_core.specs.EditFaults.{IsOfText, IsOuter}
use Rattle.edit_core.specs.Edits.{IsRefused}
use Rattle.edit_core.specs.Versions.{LogEntry, Version, IsNext}
use Rattle.ask_core.specs.Answers.{IsAnswer}
use Rattle.ask_core.specs.Begins.{IsBegun}
use Rattle.ask_core.specs.Books.{BookFacts, IsBook}
use Rattle.ask_core.specs.Runs.{RunFacts, IsTaken, left_in_cell, left_of, with_taken}
use Rattle.ask_core.specs.declared.books.Begun.{Begun}
use Rattle.turn_book.specs.Passes.{TurnFacts, PassFacts}
use Rattle.solid_desk.specs.Outcomes.{Outcome, bad_line, staged, committed, refused, answered}
use Rattle.solid_desk.specs.Outcomes.{cancelled, no_memory, reply_of}
use Rattle.solid_desk.specs.Turns.{IsByHeard}

-- ---- questions

-- solidd's own: a question begins on the book that was taken, whose log the pass is then shown
pub record IsBegunUnder (turn : TurnFacts Model) (pass : PassFacts Model LogEntry) (q : Question)
    (live : Bool) (begun : Begun) : Type 0 where
  pub book : BookFacts
  pub is_book : IsBook book
  pub opening : Some book.opening ≡ turn.opening
  pub log : book.log ≡ pass.front
  pub begins : IsBegun book q live begun

-- solidd's own: a run began on a book of the turn, with a log that the pass was shown
pub record IsRunUnder (turn : TurnFacts Model) (pass : PassFacts Model LogEntry) (run : RunFacts)
    : Type 0 where
  pub opening : Some run.opening ≡ turn.opening
  pub front : IsPrefix run.log pass.front

-- solidd's own: a run takes its next uses, by the entries that a memo held
pub record IsLook (old new : RunFacts) : Type 0 where
  pub uses : IsTaken old.table (left_in_cell old) new.taken
  pub entries : List Entry
  pub is : new ≡ with_taken old new.taken entries

-- solidd's own: it is the same run, of which no more uses are left
pub record IsSameRun (old new : RunFacts) : Type 0 where
  pub opening : new.opening ≡ old.opening
  pub log : new.log ≡ old.log
  pub table : new.table ≡ old.table
  pub question : new.question ≡ old.question
  pub live : new.live ≡ old.live
  pub left : left_of new ≤ left_of old

-- solidd's own: a live run hears one count and a held one none, and this is true of the counts
pub record IsHeardBy (old new : PassFacts Model LogEntry) (live : Bool) (True : List ℕ → Type 0)
    : Type 0 where
  pub more : List ℕ
  pub heard : new.heard ≡ old.heard ++ more
  pub held : live ≡ false → more ≡ []
  pub once : live ≡ true → length more ≡ 1
  pub then : True more

-- solidd's own: what a run's question may come to, where this is the greatest count that was seen
abbrev pub MayCome : RunFacts → ℕ → Outcome → Type 0
MayCome run seen (answered version body) =
    (version ≡ length run.log) × IsAnswer run.table.model run.question body
MayCome run seen (cancelled version later) =
    (version ≡ length run.log) × (run.live ≡ true) × (later ≤ seen)
MayCome run seen (bad_line f) = ⊥
MayCome run seen (staged count) = ⊥
MayCome run seen (committed version) = ⊥
MayCome run seen (refused version f) = ⊥
MayCome run seen no_memory = ⊥

-- solidd's own: whether a run has its reply, by the counts that were heard
abbrev pub IsReplyBy : RunFacts → ℕ → List ℕ → Option Reply → Type 0
IsReplyBy run seen more None = AllByRecursion (λ n. n ≤ length run.log) more
IsReplyBy run seen more (Some reply) =
    (outcome : Outcome) × (reply ≡ reply_of outcome) × MayCome run seen outcome
    × IsByHeard more outcome

-- ---- commits

-- solidd's own: a commit on a book is its last entry then, or has its first fault and isn't made
abbrev pub IsCommitOn : BookFacts → LogEntry → PassFacts Model LogEntry → PassFacts Model LogEntry
    → Result (Unit {0}) EditFault → Type 0
IsCommitOn book entry old new (Ok made) =
    (next : Version) × IsNext book.table entry.batch next
    × (new.front ≡ book.log ++ entry ∷ []) × (new.made ≡ old.made + 1)
IsCommitOn book entry old new (Err fault) =
    IsOuter fault
    × (IsOfText fault → IsRefused book.table.model (length book.log) entry.batch fault)
    × (new.front ≡ book.log) × (new.made ≡ old.made)

-- solidd's own: a commit is made, or not, on the book that was taken, whose log begins with what
-- the pass was shown
pub record IsCommitUnder (turn : TurnFacts Model) (old new : PassFacts Model LogEntry)
    (entry : LogEntry) (made : Result (Unit {0}) EditFault) : Type 0 where
  pub book : BookFacts
  pub is_book : IsBook book
  pub opening : Some book.opening ≡ turn.opening
  pub front : IsPrefix old.front book.log
  pub seen : old.seen ≤ length book.log
  pub comes : IsCommitOn book entry old new made
