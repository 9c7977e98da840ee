-- The book: the newest version of a model, the log that made it, and the memo that all questions
-- share. solidd's own.
use Rattle.std.specs.Prelude.{◌≡◌, ◌⊎◌, ℕ, ◌≤◌, List, length, Contains, None, IsSome}
use Rattle.solid_base.specs.declared.classes.Verdict.{Verdict}
use Rattle.solid_base.specs.declared.entities.Entity.{Entity}
use Rattle.solid_base.specs.declared.entities.Model.{Model}
use Rattle.solid_base.specs.References.{row_at}
use Rattle.fixed_enclosure.specs.Places.{spans_of}
use Rattle.entity_graph.specs.Opaque.{IsFirstOpaque}
use Rattle.iges_parameters.specs.Accepted.{IsAccepted}
use Rattle.solid_eval.specs.Solids.{solid_of, IsSolidRow}
use Rattle.solid_eval.specs.Written.{written}
use Rattle.solid_questions.specs.declared.questions.Question.{Question}
use Rattle.solid_questions.specs.declared.questions.Question.TheVariants as question
use Rattle.solid_questions.specs.Questions.{entity_of}
use Rattle.memo_graph.specs.declared.key.Key.{Key}
use Rattle.memo_graph.specs.Memos.{Entry, MemoFacts, IsMemo}
use Rattle.edit_core.specs.Versions.{LogEntry, IsVersion, IsStampIn, Version, IsVersionOf}
use Rattle.ask_core.specs.Answers.{refusal_on}

-- solidd's own: what contracts see of a book: the opening model, the log, the newest version, and
-- the memo
pub record BookFacts : Type 0 where
  pub opening : Model
  pub log : List LogEntry
  pub table : Version
  pub memo : MemoFacts

-- a book with these
abbrev pub book_of : Model → List LogEntry → Version → MemoFacts → BookFacts
book_of opening log table memo = record {
  opening = opening;
  log = log;
  table = table;
  memo = memo;
}

-- solidd's own: how many entries the memo of a book may hold
abbrev pub memo_capacity : ℕ
memo_capacity = 65536

-- solidd's own: the verdict on the entity of a key over its box
abbrev pub key_verdict : List Entity → Key → Verdict
key_verdict rows key = written (solid_of rows key.de) (spans_of key.at)

-- solidd's own: an entry of the memo is right by a log: its stamp is that of a version of the log,
-- and in each version in which its entity is a solid with that stamp, its verdict is that on the
-- entity over the box
pub record IsRight (opening : Model) (log : List LogEntry) (entry : Entry) : Type 0 where
  pub known : entry.0.stamp ≤ length log
  pub right : (v : ℕ) (model : Model) → IsVersion opening log v model
      → IsSolidRow (row_at model.rows entry.0.de)
      → IsStampIn opening log entry.0.de v entry.0.stamp
      → entry.1 ≡ key_verdict model.rows entry.0

-- solidd's own: what holds of each book: its table is the newest version of its log, and each entry
-- of its memo is right
pub record IsBook (book : BookFacts) : Type 0 where
  pub accepted : IsAccepted book.opening
  pub version : IsVersionOf book.opening book.log book.table
  pub memo : IsMemo book.memo
  pub capacity : book.memo.capacity ≡ memo_capacity
  pub entries : (entry : Entry) → Contains book.memo.entries entry
      → IsRight book.opening book.log entry

-- solidd's own: a question that asks about cells
abbrev pub AsksCells : Question → Type 0
AsksCells (question.Point e at) = Unit {0}
AsksCells (question.Cell e cube) = Unit {0}
AsksCells (question.Items e) = ⊥
AsksCells (question.Section e z x0 y0 step nx ny) = Unit {0}
AsksCells (question.Volume e cube depth) = Unit {0}
AsksCells (question.Bounds e cube depth) = Unit {0}
AsksCells question.Export = ⊥
AsksCells question.Newest = ⊥

-- solidd's own: a question is refused by the rows of a model
pub record IsRefusedOn (rows : List Entity) (q : Question) : Type 0 where
  pub unread : ℕ
  pub first : IsFirstOpaque rows (entity_of q) unread
  pub refusal : IsSome (refusal_on rows q unread)

-- solidd's own: a question isn't refused by the rows of a model
pub record IsNotRefused (rows : List Entity) (q : Question) : Type 0 where
  pub unread : ℕ
  pub first : IsFirstOpaque rows (entity_of q) unread
  pub none : refusal_on rows q unread ≡ None

-- solidd's own: a question is answered at once: it is refused, or asks about no cells
abbrev pub IsAtOnce : List Entity → Question → Type 0
IsAtOnce rows q = (¬ AsksCells q) ⊎ IsRefusedOn rows q
