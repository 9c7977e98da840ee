-- What an answer leaves in the memo, and how many primitives it evaluates. solidd's own.
use Rattle.std.specs.Prelude.{◌≡◌, ℕ, ◌+◌, ◌≤◌, List, length, Contains}
use Rattle.solid_eval.specs.Uses.{Use}
use Rattle.solid_questions.specs.declared.questions.Question.{Question}
use Rattle.memo_graph.specs.declared.key.Key.{Key}
use Rattle.memo_graph.specs.Memos.{Entry}
use Rattle.edit_core.specs.Versions.{Version}
use Rattle.ask_core.specs.Books.{memo_capacity, IsAtOnce}
use Rattle.ask_core.specs.Runs.{RunFacts, left_of, next_stage, question_uses, use_key}

-- solidd's own: the keys of all entries of a memo are among some keys
abbrev pub HoldEntries : List Key → List Entry → Type 0
HoldEntries keys entries = (entry : Entry) → Contains entries entry → Contains keys entry.0

-- solidd's own: the keys of all uses of primitives that a question takes in a version are among
-- some keys
abbrev pub HoldUses : List Key → Version → Question → Type 0
HoldUses keys table q =
    (u : Use) → Contains (question_uses table.model.rows q) u → Contains keys (use_key table u)

-- solidd's own: those of a question that is begun in a version: it isn't answered at once there
abbrev pub HoldBegunUses : List Key → Version → Question → Type 0
HoldBegunUses keys table q = ¬ IsAtOnce table.model.rows q → HoldUses keys table q

-- solidd's own: each evaluation left one entry more in the memo, none was dropped, and the keys of
-- all are among some keys still
pub record EachIsKept (keys : List Key) (old new : List Entry) (before after : ℕ) : Type 0 where
  pub held : HoldEntries keys new
  pub each : after + length old ≤ before + length new

-- solidd's own: no evaluation is made in vain: where a memo has room for all keys of its entries
-- and of the question's uses, each one leaves one entry more, and none is dropped
abbrev pub IsThrifty : Version → Question → List Entry → List Entry → ℕ → ℕ → Type 0
IsThrifty table q old new before after =
    (keys : List Key) → length keys ≤ memo_capacity → HoldEntries keys old
    → HoldBegunUses keys table q → EachIsKept keys old new before after

-- a run is further than it was: it is on the same version with the same question, and a look comes
-- next where uses are left
pub record IsFurther (old new : RunFacts) : Type 0 where
  pub opening : new.opening ≡ old.opening
  pub log : new.log ≡ old.log
  pub table : new.table ≡ old.table
  pub question : new.question ≡ old.question
  pub stage : new.stage ≡ next_stage (left_of new)
  pub left : left_of new ≤ left_of old
