-- Lines that are done one after the other over a book, on one thread, and how often they evaluate
-- primitives. solidd's own.
use Rattle.std.specs.Prelude.{◌≡◌, ◌≢◌, ℕ, ◌+◌, ◌≤◌, List, [], ◌∷◌, length}
use mathlib.Core.List.{IsPrefix}
use Rattle.solid_base.specs.declared.entities.Model.{Model}
use Rattle.solid_questions.specs.declared.questions.Question.{Question}
use Rattle.memo_graph.specs.declared.key.Key.{Key}
use Rattle.memo_graph.specs.Memos.{Entry}
use Rattle.script_lines.specs.declared.commands.Command.{Command}
use Rattle.script_lines.specs.declared.commands.Command.TheVariants as command
use Rattle.script_lines.specs.declared.commands.ScriptLine.{ScriptLine}
use Rattle.edit_core.specs.Versions.{LogEntry, Version, IsVersionOf}
use Rattle.ask_core.specs.Books.{BookFacts, memo_capacity}
use Rattle.ask_core.specs.Thrift.{HoldEntries, HoldBegunUses, EachIsKept}
use Rattle.solid_desk.specs.InOrder.{IsDone, HadMemory}
use Rattle.solid_desk.specs.Outcomes.{Outcome, bad_line, staged, committed, refused, answered}
use Rattle.solid_desk.specs.Outcomes.{cancelled, no_memory, reply_of, reply_text}
use Rattle.solid_desk.specs.Sessions.{Standing, standing_after}
use Rattle.solid_desk.specs.Work.{IsWork, AreWork}

-- ---- one line

-- solidd's own: the keys of all uses of primitives that a line takes in a version, where it asks a
-- question that is begun there, are among some keys
abbrev pub HoldLineUses : List Key → Version → Command → Type 0
HoldLineUses keys table (command.Ask q live) = HoldBegunUses keys table q
HoldLineUses keys table (command.Replace de r) = Unit {0}
HoldLineUses keys table (command.Add de r) = Unit {0}
HoldLineUses keys table (command.Drop de) = Unit {0}
HoldLineUses keys table command.Commit = Unit {0}
HoldLineUses keys table (command.Bad f) = Unit {0}

-- solidd's own: a line of a session was done over a book: what the book and the session are before
-- and after it, the text of its reply, and the counts of evaluations before and after it
pub record IsLineDone (old new : BookFacts) (session : ℕ) (at after : Standing) (c : Command)
    (text : List ℕ) (before count : ℕ) : Type 0 where
  pub outcome : Outcome
  pub done : IsDone old.opening old.log session at c outcome new.log
  pub opening : new.opening ≡ old.opening
  pub stands : after ≡ standing_after at c outcome
  pub reply : text ≡ reply_text (reply_of outcome)
  -- no more evaluations than an answer afresh takes
  pub most : outcome ≢ no_memory → (n : ℕ) → IsWork new.opening new.log c outcome n
      → count ≤ before + n
  -- no evaluation in vain: each leaves one entry more, where the memo has room for all keys
  pub thrifty : outcome ≢ no_memory → (keys : List Key) → length keys ≤ memo_capacity
      → HoldEntries keys old.memo.entries → HoldLineUses keys old.table c
      → EachIsKept keys old.memo.entries new.memo.entries before count

-- ---- all lines

-- solidd's own: the keys of all uses of primitives that a question takes which came to this, in the
-- version that its answer names, are among some keys
abbrev pub HoldAskedUses : Model → List LogEntry → List Key → Question → Outcome → Type 0
HoldAskedUses opening log keys q (answered version body) =
    (front : List LogEntry) (table : Version) → IsPrefix front log → length front ≡ version
    → IsVersionOf opening front table → HoldBegunUses keys table q
HoldAskedUses opening log keys q (cancelled version later) = Unit {0}
HoldAskedUses opening log keys q no_memory = Unit {0}
HoldAskedUses opening log keys q (bad_line f) = Unit {0}
HoldAskedUses opening log keys q (staged n) = Unit {0}
HoldAskedUses opening log keys q (committed version) = Unit {0}
HoldAskedUses opening log keys q (refused version f) = Unit {0}

-- solidd's own: those of a line that came to this
abbrev pub HoldCommandUses : Model → List LogEntry → List Key → Command → Outcome → Type 0
HoldCommandUses opening log keys (command.Ask q live) outcome =
    HoldAskedUses opening log keys q outcome
HoldCommandUses opening log keys (command.Replace de r) outcome = Unit {0}
HoldCommandUses opening log keys (command.Add de r) outcome = Unit {0}
HoldCommandUses opening log keys (command.Drop de) outcome = Unit {0}
HoldCommandUses opening log keys command.Commit outcome = Unit {0}
HoldCommandUses opening log keys (command.Bad f) outcome = Unit {0}

-- solidd's own: the keys of all uses of primitives that the questions of a script take which are
-- begun, each in the version that its answer names, are among some keys
abbrev pub HoldRunUses : Model → List LogEntry → List Key → List ScriptLine → List Outcome → Type 0
HoldRunUses opening log keys [] outcomes = Unit {0}
HoldRunUses opening log keys (line ∷ lines) [] = Unit {0}
HoldRunUses opening log keys (line ∷ lines) (outcome ∷ outcomes) =
    HoldCommandUses opening log keys line.command outcome
    × HoldRunUses opening log keys lines outcomes

-- solidd's own: the lines of a script were done one after the other over one book, whose memo was
-- empty at first, and came to this: the log and the entries of the memo then, and the counts of
-- evaluations before the first line and after the last
pub record AreCountedLines (opening : Model) (log : List LogEntry) (entries : List Entry)
    (lines : List ScriptLine) (outcomes : List Outcome) (old new : ℕ) : Type 0 where
  pub work : ℕ
  pub works : AreWork opening log lines outcomes work
  -- no more evaluations than answers afresh take
  pub most : HadMemory outcomes → new ≤ old + work
  -- no evaluation in vain: each left one entry, where the memo has room for all keys
  pub thrifty : HadMemory outcomes → (keys : List Key) → length keys ≤ memo_capacity
      → HoldRunUses opening log keys lines outcomes → EachIsKept keys [] entries old new
