-- A worked transcript that is lawful. Each question is which version is the newest, so that nothing
-- is evaluated.
use Rattle.std.proofs.Common.{◌≡◌, inl, ℕ, zero, suc, ◌<◌, ◌≤◌, List, [], ◌∷◌, ◌++◌, map, codes, true, false, Some, slice_get, Contains, refl, sym, ap, subst, arith}
use Rattle.std.proofs.lemmas.Fmt.{decimal_digit}
use Rattle.solid_base.specs.declared.entities.Entity.{Entity}
use Rattle.solid_base.specs.declared.entities.Model.{Model}
use Rattle.solid_base.specs.declared.entities.RowText.{RowText}
use Rattle.solid_base.specs.declared.replies.Reply.{Reply}
use Rattle.solid_base.specs.declared.solids.Row.{Row}
use Rattle.solid_base.specs.declared.solids.Row.TheVariants as row
use Rattle.solid_base.specs.References.{row_at, references, references_of, Refers, Reaches, here, further}
use Rattle.solid_questions.specs.declared.questions.Question.TheVariants as question
use Rattle.entity_graph.specs.Opaque.{IsUnread, IsOpaque, ReachesOpaque}
use Rattle.script_lines.specs.declared.commands.Command.{Command}
use Rattle.script_lines.specs.declared.commands.Command.TheVariants as command
use Rattle.ask_core.specs.Answers.{IsAnswerOn}
use Rattle.edit_core.specs.declared.changes.Change.TheVariants as change
use Rattle.edit_core.specs.Batches.{Staged}
use Rattle.edit_core.specs.Edits.{IsEdited}
use Rattle.edit_core.specs.Versions.{LogEntry, IsVersion, opening_version, next_version}
use Rattle.solid_desk.specs.Outcomes.{Outcome, staged, committed, answered, with_version, without_version, reply_of}
use Rattle.solid_desk.specs.Sessions.{Standing, at_start}
use Rattle.solid_desk.specs.Legal.{IsAnswered, IsMade, IsBefore, IsLegal}

-- ---- the newest version

null_names_none : (rows : List Entity) (e c : ℕ) → row_at rows e ≡ row.Null → ¬ Refers rows e c
unfolding references_of
null_names_none rows e c null h =
    let none : Contains {X = ℕ} [] c = subst (λ (r : Row). Contains (references r) c) null h in
    omega (arith, none.1)

null_reaches_itself : (rows : List Entity) (e k : ℕ) → row_at rows e ≡ row.Null → Reaches rows e k → e ≡ k
null_reaches_itself rows e k null here = refl
null_reaches_itself rows e k null (further {c = c} refers more) = absurd (null_names_none rows e c null refers)

nothing_at_0 : (rows : List Entity) → row_at rows 0 ≡ row.Null
unfolding row_at
nothing_at_0 rows = refl

none_unread : (rows : List Entity) (k : ℕ) → ¬ ReachesOpaque rows 0 k
none_unread rows k h =
    let same = null_reaches_itself rows 0 k (nothing_at_0 rows) h.0 in
    let opaque = subst (λ (n : ℕ). IsOpaque rows n) (sym same) h.1 in
    subst IsUnread (nothing_at_0 rows) opaque

pub newest_afresh : (rows : List Entity) → IsAnswerOn rows question.Newest (codes "NEWEST")
newest_afresh rows = (0, inl (refl, none_unread rows), refl)

-- ---- a lawful outcome: one session replaces a row, another looks before and after

abbrev newest : Command
newest = command.Ask question.Newest false

abbrev live_newest : Command
live_newest = command.Ask question.Newest true

abbrev replaced : RowText → List Staged
replaced text = (1, change.Replace text) ∷ []

abbrev sessions : RowText → List (List Command)
sessions text =
    (command.Replace 1 text ∷ command.Commit ∷ newest ∷ [])
    ∷ (newest ∷ live_newest ∷ []) ∷ []

abbrev log_of : RowText → List LogEntry
log_of text = record { session = 0; line = 2; batch = replaced text } ∷ []

abbrev outcomes : List (List Outcome)
outcomes =
    (staged 1 ∷ committed 1 ∷ answered 1 (codes "NEWEST") ∷ [])
    ∷ (answered 0 (codes "NEWEST") ∷ answered 1 (codes "NEWEST") ∷ []) ∷ []

abbrev transcripts : List (List Reply)
transcripts =
    (without_version (codes "STAGED 1") ∷ with_version 1 (codes "COMMITTED") ∷ with_version 1 (codes "NEWEST") ∷ [])
    ∷ (with_version 0 (codes "NEWEST") ∷ with_version 1 (codes "NEWEST") ∷ []) ∷ []

printed : transcripts ≡ map (map reply_of) outcomes
printed = ap (λ (one : List ℕ). (without_version (codes "STAGED " ++ one) ∷ with_version 1 (codes "COMMITTED") ∷ with_version 1 (codes "NEWEST") ∷ [])
    ∷ (with_version 0 (codes "NEWEST") ∷ with_version 1 (codes "NEWEST") ∷ []) ∷ []) (sym (decimal_digit 1 (omega arith)))

module _ (opening after : Model) (text : RowText) (edited : IsEdited opening 0 (replaced text) after) where
  first_version : IsVersion opening (log_of text) 1 after
  first_version = next_version opening_version refl edited

  on_opening : IsAnswered opening (log_of text) at_start question.Newest 0 (codes "NEWEST")
  on_opening = record {
    model = opening;
    shown = record { logged = omega arith; not_older = omega arith; is = opening_version };
    afresh = newest_afresh opening.rows;
  }

  on_first : (at : Standing) → at.shown ≤ 1 → IsAnswered opening (log_of text) at question.Newest 1 (codes "NEWEST")
  on_first at shown = record {
    model = after;
    shown = record { logged = omega arith; not_older = shown; is = first_version };
    afresh = newest_afresh after.rows;
  }

  made : (place : ℕ) (entry : LogEntry) → slice_get (log_of text) place ≡ Some entry → IsMade (sessions text) outcomes (suc place) entry
  made zero entry h =
      let same : record { session = 0; line = 2; batch = replaced text } ≡ entry = cc in
      subst (λ (e : LogEntry). IsMade (sessions text) outcomes 1 e) same (record {
        commands = command.Replace 1 text ∷ [];
        replies = staged 1 ∷ [];
        rest = newest ∷ [];
        others = answered 1 (codes "NEWEST") ∷ [];
        line_of = refl;
        reply_to = refl;
        one_each = refl;
        is = refl;
      })
  made (suc place) entry h = absurd (cc)

  in_order : (first second : LogEntry) → IsBefore (log_of text) first second → first.line < second.line
  in_order first second h = go h.place h.after h.order h.second_is where
    go : (place later : ℕ) → place < later → slice_get (log_of text) later ≡ Some second → first.line < second.line
    go place zero lt at = absurd (omega (arith, lt))
    go place (suc later) lt at = absurd (cc)

  pub lawful : IsLegal opening (sessions text) (log_of text) transcripts
  lawful = record {
    outcomes = outcomes;
    printed = printed;
    lawful = record { last = after; reached = first_version };
    replies = (
      (inl refl, (record { place = 0; next = refl; logged = refl; newer = omega arith }, (on_first (record { line = 3; batch = []; shown = 1 }) (omega arith), tt))),
      ((on_opening, (on_first (record { line = 2; batch = []; shown = 0 }) (omega arith), tt)), tt),
    );
    entries = record { made = made; in_order = in_order };
  }
