-- Worked runs of a short script: one in order, and for each rule one that isn't. Each question is
-- which version is the newest, so that nothing is evaluated.
use Rattle.std.proofs.Common.{◌≡◌, inl, inr, ℕ, Bool, List, [], ◌∷◌, ◌++◌, length, codes, true, false, refl, ap, ◌∙◌, arith}
use Rattle.std.proofs.lemmas.List.{length-append}
use Rattle.solid_base.specs.declared.entities.Model.{Model}
use Rattle.solid_base.specs.declared.entities.RowText.{RowText}
use Rattle.solid_questions.specs.declared.questions.Question.TheVariants as question
use Rattle.script_lines.specs.declared.commands.Command.TheVariants as command
use Rattle.script_lines.specs.declared.commands.ScriptLine.{ScriptLine}
use Rattle.edit_core.specs.declared.changes.Change.TheVariants as change
use Rattle.edit_core.specs.Edits.{IsEdited}
use Rattle.edit_core.specs.Versions.{LogEntry, opening_version, next_version}
use Rattle.solid_desk.specs.Outcomes.{Outcome, staged, committed, answered, cancelled, with_version, reply_of, named_version}
use Rattle.solid_desk.specs.Sessions.{Standing, at_start}
use Rattle.solid_desk.specs.Legal.{entry_at}
use Rattle.solid_desk.specs.InOrder.{IsRun, transcripts_of, IsDone}
use Rattle.solid_desk.proofs.Worked.{newest_afresh}

-- session 1 replaces a row and commits, and session 2 looks before and after it
abbrev lines : RowText → List ScriptLine
lines text =
    record { session = 1; command = command.Replace 1 text }
    ∷ record { session = 2; command = command.Ask question.Newest false }
    ∷ record { session = 1; command = command.Commit }
    ∷ record { session = 2; command = command.Ask question.Newest true } ∷ []

abbrev outcomes : ℕ → List Outcome
outcomes version = staged 1 ∷ answered 0 (codes "NEWEST") ∷ committed 1 ∷ answered version (codes "NEWEST") ∷ []

-- the commit is the second line of its session, and the third of the input
abbrev entry_of : RowText → ℕ → LogEntry
entry_of text line = record { session = 1; line = line; batch = (1, change.Replace text) ∷ [] }

abbrev first_line : List LogEntry → ℕ
first_line [] = 0
first_line (entry ∷ log) = entry.line

module _ (opening after : Model) (text : RowText) (edited : IsEdited opening 0 ((1, change.Replace text) ∷ []) after) where
  pub in_order : IsRun opening (lines text) (outcomes 1) (entry_of text 2 ∷ [])
  in_order = (
    [],
    inl (refl, refl),
    (
      [],
      inl (record { model = opening; newest = opening_version; body = codes "NEWEST"; afresh = newest_afresh opening.rows; is = refl }, refl),
      (
        entry_of text 2 ∷ [],
        inl (inl (record { model = opening; newest = opening_version; edited = after; made = edited; is = refl; logged = refl })),
        (
          entry_of text 2 ∷ [],
          inl (record { model = after; newest = next_version opening_version refl edited; body = codes "NEWEST"; afresh = newest_afresh after.rows; is = refl }, refl),
          refl,
        ),
      ),
    ),
  )

-- the replies of each session, in order; the sessions without a line have none
pub replies : (text : RowText) → transcripts_of (lines text) (outcomes 1) ≡
    []
    ∷ (reply_of (staged 1) ∷ with_version 1 (codes "COMMITTED") ∷ [])
    ∷ (with_version 0 (codes "NEWEST") ∷ with_version 1 (codes "NEWEST") ∷ [])
    ∷ [] ∷ [] ∷ [] ∷ [] ∷ [] ∷ [] ∷ []
replies text = refl

-- ---- no runs, whatever the opening, the log and the text

-- an edit that came to a version added its entry
grew : (opening : Model) (log : List LogEntry) (session version : ℕ) (at : Standing) (after : List LogEntry) → IsDone opening log session at command.Commit (committed version) after → after ≡ log ++ entry_at session at ∷ []
grew opening log session version at after (inl (inl h)) = h.logged
grew opening log session version at after (inl (inr h)) = (let other = h.is in absurd (cc))
grew opening log session version at after (inr passed) = (let other = passed.0 in absurd (cc))

-- a question names the version of the log there
asked_now : (opening : Model) (log : List LogEntry) (session version : ℕ) (at : Standing) (live : Bool) (body : List ℕ) (after : List LogEntry) → IsDone opening log session at (command.Ask question.Newest live) (answered version body) after → version ≡ length log
asked_now opening log session version at live body after (inl h) = ap named_version h.0.is
asked_now opening log session version at live body after (inr passed) = (let other = passed.0 in absurd (cc))

kept_by_question : (opening : Model) (log : List LogEntry) (session : ℕ) (at : Standing) (live : Bool) (outcome : Outcome) (after : List LogEntry) → IsDone opening log session at (command.Ask question.Newest live) outcome after → after ≡ log
kept_by_question opening log session at live outcome after (inl h) = h.1
kept_by_question opening log session at live outcome after (inr passed) = passed.1

kept_by_staging : (opening : Model) (log : List LogEntry) (session : ℕ) (at : Standing) (de : ℕ) (text : RowText) (outcome : Outcome) (after : List LogEntry) → IsDone opening log session at (command.Replace de text) outcome after → after ≡ log
kept_by_staging opening log session at de text outcome after (inl h) = h.1
kept_by_staging opening log session at de text outcome after (inr passed) = passed.1

module _ (opening : Model) (text : RowText) where
  -- a question is answered by the version before a commit that stands before it
  pub stale : (log : List LogEntry) → ¬ IsRun opening (lines text) (outcomes 0) log
  stale log (a, staging, (b, asked, (c, commit, (d, again, end)))) =
      let grown = ap length (grew opening b 1 1 _ c commit) in
      let named = asked_now opening c 2 0 at_start true (codes "NEWEST") d again in
      omega (arith, grown, named, length-append b (entry_of text 2 ∷ []))

  -- a live question is given up
  pub given_up : (log : List LogEntry) (version later : ℕ) → ¬ IsRun opening (record { session = 1; command = command.Ask question.Newest true } ∷ []) (cancelled version later ∷ []) log
  given_up log version later (a, inl h, end) = (let other = h.0.is in cc)
  given_up log version later (a, inr passed, end) = (let other = passed.0 in cc)

  -- the log counts the lines of the input in place of those of the session
  pub line_of_input : ¬ IsRun opening (lines text) (outcomes 1) (entry_of text 3 ∷ [])
  line_of_input (a, staging, (b, asked, (c, commit, (d, again, end)))) =
      let none = kept_by_question opening a 2 at_start false (answered 0 (codes "NEWEST")) b asked ∙ kept_by_staging opening [] 1 at_start 1 text (staged 1) a staging in
      let one = end ∙ kept_by_question opening c 2 at_start true (answered 1 (codes "NEWEST")) d again ∙ grew opening b 1 1 _ c commit ∙ ap (λ (l : List LogEntry). l ++ entry_of text 2 ∷ []) none in
      let line : 3 ≡ 2 = ap first_line one in
      omega (arith, line)
