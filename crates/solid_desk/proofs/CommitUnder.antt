-- What a commit under one hold of the turn leaves of the pass and of the book's log.
use Rattle.std.proofs.Common.{◌≡◌, ℕ, ◌+◌, ◌≤◌, List, [], ◌∷◌, ◌++◌, length, Result, Ok, Err, OnOk, OnErr, IfOk, IfErr, Some, sym, ap, subst, ◌∙◌, arith}
use Rattle.std.proofs.lemmas.List.{length-append}
use mathlib.Core.List.{IsPrefix}
use Rattle.solid_base.specs.declared.entities.Model.{Model}
use Rattle.solid_base.proofs.Slices.{prefix_self, prefix_trans}
use Rattle.edit_core.specs.declared.faults.EditFault.{EditFault}
use Rattle.edit_core.specs.EditFaults.{IsOfText, IsOuter}
use Rattle.edit_core.specs.Edits.{IsRefused}
use Rattle.edit_core.specs.Versions.{LogEntry, IsNext}
use Rattle.ask_core.specs.Books.{BookFacts, IsBook}
use Rattle.turn_book.specs.Passes.{TurnFacts, PassFacts, IsPassOf, IsIdle}
use Rattle.solid_desk.specs.Holds.{IsCommitUnder}
use Rattle.solid_desk.specs.Turns.{GoesOn}

abbrev pub Pass : Type 0
Pass = PassFacts Model LogEntry

-- the log goes on, by the commit or by nothing
log_goes_on : (book after : BookFacts) (entry : LogEntry) (result : Result ℕ EditFault) → OnOk result (after.log ≡ book.log ++ entry ∷ []) → OnErr result (after ≡ book)
    → IsPrefix book.log after.log
log_goes_on book after entry (Ok version) logged kept = (entry ∷ [], sym logged)
log_goes_on book after entry (Err fault) logged kept = subst (IsPrefix book.log) (sym (ap (λ (b : BookFacts). b.log) kept)) (prefix_self book.log)

longer_front : (xs ys : List LogEntry) → IsPrefix xs ys → length xs ≤ length ys
longer_front xs ys goes = let size : length (xs ++ goes.0) ≡ length ys = ap (λ (l : List LogEntry). length l) goes.1 in omega (arith, size, length-append xs goes.0)

same_prefix : (xs ys : List ℕ) → ys ≡ xs → IsPrefix xs ys
same_prefix xs ys same = subst (IsPrefix xs) (sym same) (prefix_self xs)

pub commit_goes_on : (turn : TurnFacts Model) (old mid new : Pass) (book after : BookFacts) (entry : LogEntry) (result : Result ℕ EditFault) → IsPassOf turn new → IsIdle new → IsPrefix old.front book.log
    → old.seen ≤ length book.log → OnOk result (after.log ≡ book.log ++ entry ∷ []) → OnErr result (after ≡ book) → new.front ≡ after.log → new.seen ≡ length after.log → new.heard ≡ mid.heard → mid.heard ≡ old.heard
    → new.parts ≡ mid.parts → mid.parts ≡ old.parts → GoesOn turn old new
commit_goes_on turn old mid new book after entry result of_turn idle front seen logged kept left count heard heard_before parts parts_before =
    let goes = log_goes_on book after entry result logged kept in
    let longer = longer_front book.log after.log goes in
    record {
      of_turn = of_turn;
      idle = idle;
      front = subst (IsPrefix old.front) (sym left) (prefix_trans old.front book.log after.log front goes);
      seen = omega (arith, seen, count, longer);
      heard = same_prefix old.heard new.heard (heard ∙ heard_before);
      parts = parts ∙ parts_before;
    }

module _ (turn : TurnFacts Model) (old mid new : Pass) (book after : BookFacts) (entry : LogEntry) (result : Result ℕ EditFault) (made : Result (Unit {0}) EditFault) (is_book : IsBook book)
    (opening : Some book.opening ≡ turn.opening) (front : IsPrefix old.front book.log) (seen : old.seen ≤ length book.log) (taken : mid.taken ≡ book.log) (same : mid.made ≡ old.made)
    (left : new.front ≡ after.log) (count : new.made + length mid.taken ≡ mid.made + length after.log) where
  pub commit_made : (version : ℕ) (unit : Unit {0}) → result ≡ Ok version → made ≡ Ok unit → IfOk result (λ _. IsNext book.table entry.batch after.table)
      → OnOk result (after.log ≡ book.log ++ entry ∷ []) → IsCommitUnder turn old new entry made
  commit_made version unit is made_is next logged =
      let log : after.log ≡ book.log ++ entry ∷ [] = subst (λ (r : Result ℕ EditFault). OnOk r (after.log ≡ book.log ++ entry ∷ [])) is logged in
      let size : length after.log ≡ length (book.log ++ entry ∷ []) = ap (λ (l : List LogEntry). length l) log in
      let before : length mid.taken ≡ length book.log = ap (λ (l : List LogEntry). length l) taken in
      subst (IsCommitUnder turn old new entry) (sym made_is) (record {
        book = book;
        is_book = is_book;
        opening = opening;
        front = front;
        seen = seen;
        comes = (
          after.table,
          subst (λ (r : Result ℕ EditFault). IfOk r (λ _. IsNext book.table entry.batch after.table)) is next,
          left ∙ log,
          omega (arith, count, same, size, before, length-append book.log (entry ∷ [])),
        );
      })

  pub commit_refused : (fault : EditFault) → result ≡ Err fault → made ≡ Err fault → IfErr result IsOuter
      → IfErr result (λ f. IsOfText f → IsRefused book.table.model (length book.log) entry.batch f) → OnErr result (after ≡ book) → IsCommitUnder turn old new entry made
  commit_refused fault is made_is outer first kept =
      let unchanged : after ≡ book = subst (λ (r : Result ℕ EditFault). OnErr r (after ≡ book)) is kept in
      let log : after.log ≡ book.log = ap (λ (b : BookFacts). b.log) unchanged in
      let size : length after.log ≡ length book.log = ap (λ (l : List LogEntry). length l) log in
      let before : length mid.taken ≡ length book.log = ap (λ (l : List LogEntry). length l) taken in
      subst (IsCommitUnder turn old new entry) (sym made_is) (record {
        book = book;
        is_book = is_book;
        opening = opening;
        front = front;
        seen = seen;
        comes = (
          subst (λ (r : Result ℕ EditFault). IfErr r IsOuter) is outer,
          subst (λ (r : Result ℕ EditFault). IfErr r (λ f. IsOfText f → IsRefused book.table.model (length book.log) entry.batch f)) is first,
          left ∙ log,
          omega (arith, count, same, size, before),
        );
      })
