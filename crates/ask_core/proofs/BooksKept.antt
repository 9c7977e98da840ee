-- What holds of each book holds of one at its beginning, and after a look, a fill and a commit.
use Rattle.std.proofs.Common.{◌≡◌, ℕ, Bool, false, IsTrue, ◌<◌, List, [], ◌∷◌, ◌++◌, length, take, Contains, Some, OnOk, OnErr, Ok, Err, sym, subst, ◌∙◌, arith}
use Rattle.std.specs.declared.result.Result.{Result}
use Rattle.solid_base.specs.declared.classes.Verdict.{Verdict}
use Rattle.solid_base.specs.declared.entities.Model.{Model}
use Rattle.iges_parameters.specs.Accepted.{IsAccepted}
use Rattle.solid_questions.specs.declared.questions.Question.{Question}
use Rattle.memo_graph.specs.Memos.{Entry, verdict_of, MemoFacts, IsMemo}
use Rattle.memo_graph.specs.declared.key.Key.{Key}
use Rattle.edit_core.specs.Versions.{LogEntry, Version, IsOpening, IsNext, IsVersionOf}
use Rattle.edit_core.proofs.StampsOfLogs.{opening_is_version, next_is_version}
use Rattle.ask_core.specs.Books.{BookFacts, IsAtOnce, IsBook, IsRight, key_verdict, book_of, memo_capacity}
use Rattle.ask_core.specs.Runs.{RunFacts, IsRunning, IsOwn, IsOwnKey, IsAtStage, GoesOnWith, looked, kept_all}
use Rattle.ask_core.specs.declared.runs.Stage.TheVariants as stage
use Rattle.ask_core.proofs.KeptEntries.{looked_old, kept_hold, taken_among}
use Rattle.ask_core.proofs.RightEntries.{right_later, own_right_later, found_right}

pub opening_book : (opening : Model) (log : List LogEntry) (first table : Version) (memo : MemoFacts) → IsAccepted opening → IsOpening opening first → log ≡ [] → table ≡ first
    → memo.entries ≡ [] → memo.capacity ≡ memo_capacity → IsMemo memo → IsBook (book_of opening log table memo)
opening_book opening log first table memo accepted is none same empty capacity valid = record {
  accepted = accepted;
  version = subst (λ l. IsVersionOf opening l table) (sym none) (subst (λ t. IsVersionOf opening [] t) (sym same) (opening_is_version opening first is));
  memo = valid;
  capacity = capacity;
  entries = λ entry h. absurd (let inside = (subst (λ es. Contains es entry) empty h).1 in omega (arith, inside));
}

-- with another memo, whose entries are right
pub other_memo : (opening : Model) (log : List LogEntry) (table : Version) (memo after : MemoFacts) → IsBook (book_of opening log table memo) → IsMemo after → after.capacity ≡ memo.capacity
    → ((entry : Entry) → Contains after.entries entry → IsRight opening log entry) → IsBook (book_of opening log table after)
other_memo opening log table memo after book valid capacity right = record {
  accepted = book.accepted;
  version = book.version;
  memo = valid;
  capacity = capacity ∙ book.capacity;
  entries = right;
}

pub looked_book : (opening : Model) (log : List LogEntry) (table : Version) (memo after : MemoFacts) (keys : List Key) → IsBook (book_of opening log table memo) → after.entries ≡ looked keys memo.entries
    → after.capacity ≡ memo.capacity → IsMemo after → IsBook (book_of opening log table after)
looked_book opening log table memo after keys book is capacity valid = other_memo opening log table memo after book valid capacity
    (λ entry h. book.entries entry (looked_old keys memo.entries entry (subst (λ es. Contains es entry) is h)))

-- what a run finds under its own keys is right
pub found_in_book : (opening : Model) (log : List LogEntry) (table : Version) (memo : MemoFacts) (run : RunFacts) (shown : BookFacts) → IsBook (book_of opening log table memo) → book_of opening log table memo ≡ shown → IsRunning run
    → GoesOnWith run shown → (key : Key) (verdict : Verdict) → IsOwnKey run key → verdict_of key memo.entries ≡ Some verdict → verdict ≡ key_verdict run.table.model.rows key
found_in_book opening log table memo run shown book view running goes_on =
    let front = subst (GoesOnWith run) (sym view) goes_on in
    found_right run running log memo.entries front.1 (λ entry h. subst (λ m. IsRight m log entry) (sym front.0) (book.entries entry h))

-- ---- where a question begins

pub not_at_once : (at_once : Bool) (lent table : Version) (shown : BookFacts) (q : Question) → at_once ≡ false → (IsAtOnce lent.model.rows q → IsTrue at_once) → lent ≡ table → table ≡ shown.table → ¬ IsAtOnce shown.table.model.rows q
not_at_once at_once lent table shown q is_false tells same view h =
    let t : IsTrue false = subst IsTrue is_false (tells (subst (λ (v : Version). IsAtOnce v.model.rows q) (sym (same ∙ view)) h)) in absurd (cc)

-- ---- a fill

-- so many of the entries are kept as come before one
abbrev pub KeptSome : List Entry → ℕ → List Entry → List Entry → Type 0
KeptSome fresh most entries after = (k : ℕ) × (k < length fresh) × (after ≡ kept_all most (take k fresh) entries)

pub kept_some : {E : Type 0} (result : Result (Unit {0}) E) (fresh others : List Entry) (size most : ℕ) (entries shown after : List Entry) → fresh ≡ others → size ≡ most → entries ≡ shown
    → OnErr result (KeptSome fresh size entries after) → OnErr result (KeptSome others most shown after)
kept_some result fresh others size most entries shown after same capacity old h =
    subst (λ es. OnErr result (KeptSome others most es after)) old (subst (λ n. OnErr result (KeptSome others n entries after)) capacity (subst (λ f. OnErr result (KeptSome f size entries after)) same h))

-- what a worked run keeps it has worked out
worked_own : (run : RunFacts) → IsRunning run → run.stage ≡ stage.Worked → (entry : Entry) → Contains run.fresh entry → IsOwn run entry
worked_own run running at = (subst (IsAtStage run) at running.at_stage).own

module _ (opening : Model) (log : List LogEntry) (table : Version) (memo after : MemoFacts) (run : RunFacts) (shown : BookFacts) (book : IsBook (book_of opening log table memo)) (view : book_of opening log table memo ≡ shown)
    (running : IsRunning run) (worked : run.stage ≡ stage.Worked) (goes_on : GoesOnWith run shown) where
  front : GoesOnWith run (book_of opening log table memo)
  front = subst (GoesOnWith run) (sym view) goes_on

  -- what the run worked out is right by the book's log
  fresh_right : (entry : Entry) → Contains run.fresh entry → IsRight opening log entry
  fresh_right entry h = subst (λ m. IsRight m log entry) front.0 (own_right_later run running log entry front.1 (worked_own run running worked entry h))

  kept_right : (more : List Entry) → ((entry : Entry) → Contains more entry → Contains run.fresh entry) → after.entries ≡ kept_all memo.capacity more memo.entries
      → (entry : Entry) → Contains after.entries entry → IsRight opening log entry
  kept_right more among is entry h = kept_hold (IsRight opening log) memo.capacity more memo.entries (λ x c. fresh_right x (among x c)) book.entries entry (subst (λ es. Contains es entry) is h)

  pub filled_book : {E : Type 0} (result : Result (Unit {0}) E) (fresh : List Entry) → fresh ≡ run.fresh → OnOk result (after.entries ≡ kept_all memo.capacity fresh memo.entries)
      → OnErr result (KeptSome fresh memo.capacity memo.entries after.entries) → after.capacity ≡ memo.capacity → IsMemo after → IsBook (book_of opening log table after)
  filled_book (Ok u) fresh same all some capacity valid = other_memo opening log table memo after book valid capacity (kept_right fresh (λ x c. subst (λ es. Contains es x) same c) all)
  filled_book (Err e) fresh same all some capacity valid = (let (k, inside, is) = some in
      other_memo opening log table memo after book valid capacity (kept_right (take k fresh) (λ x c. subst (λ es. Contains es x) same (taken_among k fresh x c)) is))

-- ---- a commit

pub committed_book : (opening : Model) (log longer : List LogEntry) (entry made : LogEntry) (table lent next after : Version) (memo : MemoFacts) → IsBook (book_of opening log table memo) → lent ≡ table → made ≡ entry
    → IsNext lent made.batch next → longer ≡ log ++ entry ∷ [] → after ≡ next → IsBook (book_of opening longer after memo)
committed_book opening log longer entry made table lent next after memo book same_table same_entry is more same = record {
  accepted = book.accepted;
  version = subst (λ l. IsVersionOf opening l after) (sym more) (subst (λ t. IsVersionOf opening (log ++ entry ∷ []) t) (sym same) (next_is_version opening log entry table next book.version then));
  memo = book.memo;
  capacity = book.capacity;
  entries = λ x h. subst (λ l. IsRight opening l x) (sym more) (right_later opening log (entry ∷ []) x (book.entries x h));
} where
  then : IsNext table entry.batch next
  then = subst (λ t. IsNext t entry.batch next) same_table (subst (λ (x : LogEntry). IsNext lent x.batch next) same_entry is)
