-- Worked transcripts of questions beside an edit of another session: some that are lawful, and for
-- each rule on questions one that isn't.
use Rattle.std.proofs.Common.{◌≡◌, inl, ℕ, zero, suc, ◌<◌, ◌≤◌, ◌^◌, max, Bool, true, false, List, [], ◌∷◌, ◌++◌, length, map, codes, decimal, Option, Some, None, slice_get, get_or, Contains, refl, sym, ap, subst, arith}
use Rattle.solid_base.specs.declared.entities.Entity.{Entity}
use Rattle.solid_base.specs.declared.entities.Model.{Model}
use Rattle.solid_base.specs.declared.geometry.Vec3.{Vec3}
use Rattle.solid_base.specs.declared.replies.Reply.{Reply}
use Rattle.solid_base.specs.declared.solids.Primitive.{Primitive}
use Rattle.solid_base.specs.declared.solids.Row.{Row}
use Rattle.solid_base.specs.declared.solids.Row.TheVariants as row
use Rattle.solid_base.specs.Graph.{weight_of, weight_within}
use Rattle.solid_base.specs.References.{row_at, references, references_of, Refers, Reaches, here, further}
use Rattle.solid_questions.specs.declared.questions.Question.{Question}
use Rattle.solid_questions.specs.declared.questions.Question.TheVariants as question
use Rattle.solid_questions.specs.declared.refusals.Refusal.{Refusal}
use Rattle.solid_questions.specs.declared.refusals.Refusal.TheVariants as refusal
use Rattle.solid_questions.specs.Refusals.{refusal_of, refused_body}
use Rattle.entity_graph.specs.Opaque.{IsOpaque, ReachesOpaque}
use Rattle.script_lines.specs.declared.commands.Command.{Command}
use Rattle.script_lines.specs.declared.commands.Command.TheVariants as command
use Rattle.ask_core.specs.Answers.{IsAnswer, IsAnswerOn, IsAnswerUnless, refusal_on}
use Rattle.ask_core.specs.Books.{AsksCells, IsNotRefused}
use Rattle.edit_core.specs.declared.changes.Change.{Change}
use Rattle.edit_core.specs.declared.changes.Change.TheVariants as change
use Rattle.edit_core.specs.Edits.{null_entity, IsEdited}
use Rattle.edit_core.specs.Versions.{LogEntry, IsVersion, opening_version, next_version}
use Rattle.edit_core.proofs.Logs.{version_unique}
use Rattle.edit_core.proofs.StandardFacts.{one_solid, nothing_left, dropped}
use Rattle.solid_desk.specs.Outcomes.{Outcome, staged, committed, answered, cancelled, with_version, without_version, reply_of, named_version}
use Rattle.solid_desk.specs.Sessions.{Standing, at_start, standing_after}
use Rattle.solid_desk.specs.Legal.{entry_at, IsAnswered, IsOutcome, IsSession, IsMade, IsBefore, IsLegal}
use Rattle.solid_desk.proofs.PrintedSessions.{Printed, all_printed, few_entries, one_number, committed_is, answered_is, given_up_is, names_it, not_older}

-- the reply to a question that was given up
abbrev given_up : ℕ → ℕ → Reply
given_up version later = with_version version (codes "CANCELLED " ++ decimal later)

-- ---- lawful ones: session 0 asks, and session 1 changes entity 1

abbrev stages : Change → Command
stages (change.Replace r) = command.Replace 1 r
stages (change.Add r) = command.Add 1 r
stages change.Drop = command.Drop 1

abbrev edits : Change → List Command
edits c = stages c ∷ command.Commit ∷ []

abbrev edit_replies : List Reply
edit_replies = without_version (codes "STAGED " ++ decimal 1) ∷ with_version 1 (codes "COMMITTED") ∷ []

abbrev edit_outcomes : List Outcome
edit_outcomes = staged 1 ∷ committed 1 ∷ []

abbrev edit_entry : Change → LogEntry
edit_entry c = record { session = 1; line = 2; batch = (1, c) ∷ [] }

abbrev log : Change → List LogEntry
log c = edit_entry c ∷ []

abbrev at_commit : Change → Standing
at_commit c = record { line = 2; batch = (1, c) ∷ []; shown = 0 }

stages_one : (opening : Model) (c : Change) → IsOutcome opening (log c) 1 at_start (stages c) (staged 1)
stages_one opening (change.Replace r) = inl refl
stages_one opening (change.Add r) = inl refl
stages_one opening change.Drop = inl refl

stands_at_commit : (c : Change) → at_commit c ≡ standing_after at_start (stages c) (staged 1)
stands_at_commit (change.Replace r) = refl
stands_at_commit (change.Add r) = refl
stands_at_commit change.Drop = refl

edit_session : (opening : Model) (c : Change) → IsSession opening (log c) 1 at_start (edits c) edit_outcomes
edit_session opening c = (
  stages_one opening c,
  subst (λ (at : Standing). IsSession opening (log c) 1 at (command.Commit ∷ []) (committed 1 ∷ [])) (stands_at_commit c)
      (record { place = 0; next = refl; logged = refl; newer = omega arith }, tt),
)

module _ (opening after : Model) (c : Change) (edited : IsEdited opening 0 ((1, c) ∷ []) after) where
  first_version : IsVersion opening (log c) 1 after
  first_version = next_version opening_version refl edited

  -- a session asks, and is answered so, beside the edit
  abbrev IsLegalBeside : List Command → List Reply → Type 0
  IsLegalBeside asks replies = IsLegal opening (asks ∷ edits c ∷ []) (log c) (replies ∷ edit_replies ∷ [])

  module _ (asks : List Command) (outcomes : List Outcome) where
    made : (place : ℕ) (entry : LogEntry) → slice_get (log c) place ≡ Some entry → IsMade (asks ∷ edits c ∷ []) (outcomes ∷ edit_outcomes ∷ []) (suc place) entry
    made zero entry h =
        let same : edit_entry c ≡ entry = cc in
        subst (λ (e : LogEntry). IsMade (asks ∷ edits c ∷ []) (outcomes ∷ edit_outcomes ∷ []) 1 e) same (record {
          commands = stages c ∷ [];
          replies = staged 1 ∷ [];
          rest = [];
          others = [];
          line_of = refl;
          reply_to = refl;
          one_each = refl;
          is = ap (λ (at : Standing). entry_at 1 at) (stands_at_commit c);
        })
    made (suc place) entry h = absurd (cc)

    in_order : (first second : LogEntry) → IsBefore (log c) first second → first.line < second.line
    in_order first second h = go h.place h.after h.order h.second_is where
      go : (place later : ℕ) → place < later → slice_get (log c) later ≡ Some second → first.line < second.line
      go place zero lt at = absurd (omega (arith, lt))
      go place (suc later) lt at = absurd (cc)

    beside : IsSession opening (log c) 0 at_start asks outcomes → IsLegalBeside asks (map reply_of outcomes)
    beside asked = record {
      outcomes = outcomes ∷ edit_outcomes ∷ [];
      printed = refl;
      lawful = record { last = after; reached = first_version };
      replies = (asked, (edit_session opening c, tt));
      entries = record { made = made; in_order = in_order };
    }

  module _ (q : Question) where
    on_opening : (at : Standing) (text : List ℕ) → at.shown ≤ 0 → IsAnswer opening q text → IsAnswered opening (log c) at q 0 text
    on_opening at text shown afresh = record {
      model = opening;
      shown = record { logged = omega arith; not_older = shown; is = opening_version };
      afresh = afresh;
    }

    on_first : (at : Standing) (text : List ℕ) → at.shown ≤ 1 → IsAnswer after q text → IsAnswered opening (log c) at q 1 text
    on_first at text shown afresh = record {
      model = after;
      shown = record { logged = omega arith; not_older = shown; is = first_version };
      afresh = afresh;
    }

    -- one question before the commit and twice after it
    pub before_and_after : (before then : List ℕ) → IsAnswer opening q before → IsAnswer after q then
        → IsLegalBeside (command.Ask q false ∷ command.Ask q false ∷ command.Ask q false ∷ []) (with_version 0 before ∷ with_version 1 then ∷ with_version 1 then ∷ [])
    before_and_after before then first second =
        beside (command.Ask q false ∷ command.Ask q false ∷ command.Ask q false ∷ []) (answered 0 before ∷ answered 1 then ∷ answered 1 then ∷ []) (
          on_opening at_start before (omega arith) first,
          (
            on_first (record { line = 2; batch = []; shown = 0 }) then (omega arith) second,
            (on_first (record { line = 3; batch = []; shown = 1 }) then (omega arith) second, tt),
          ),
        )

    -- a question that isn't live is answered by the version on which it began, whatever is committed
    pub held_over_the_commit : (before : List ℕ) → IsAnswer opening q before → IsLegalBeside (command.Ask q false ∷ []) (with_version 0 before ∷ [])
    held_over_the_commit before first = beside (command.Ask q false ∷ []) (answered 0 before ∷ []) (on_opening at_start before (omega arith) first, tt)

    -- a session that wasn't shown the commit may be answered by the version before it, again and again
    pub older_while_not_shown : (before : List ℕ) → IsAnswer opening q before
        → IsLegalBeside (command.Ask q false ∷ command.Ask q true ∷ []) (with_version 0 before ∷ with_version 0 before ∷ [])
    older_while_not_shown before first =
        beside (command.Ask q false ∷ command.Ask q true ∷ []) (answered 0 before ∷ answered 0 before ∷ [])
        (on_opening at_start before (omega arith) first, (on_opening (record { line = 2; batch = []; shown = 0 }) before (omega arith) first, tt))

    -- a live question is given up for the commit, and answered by it when it is asked again
    pub given_up_for_the_commit : (then : List ℕ) → AsksCells q → IsNotRefused opening.rows q → IsAnswer after q then
        → IsLegalBeside (command.Ask q true ∷ command.Ask q false ∷ []) (given_up 0 1 ∷ with_version 1 then ∷ [])
    given_up_for_the_commit then cells not_refused second = beside (command.Ask q true ∷ command.Ask q false ∷ []) (cancelled 0 1 ∷ answered 1 then ∷ []) (
      record {
        may = refl;
        cells = cells;
        model = opening;
        shown = record { logged = omega arith; not_older = omega arith; is = opening_version };
        not_refused = not_refused;
        later_one = omega arith;
        logged = omega arith;
      },
      (on_first (record { line = 2; batch = []; shown = 1 }) then (omega arith) second, tt),
    )

-- ---- the same on the smallest models: one primitive, which is dropped

names_none : (rows : List Entity) (e : ℕ) → references (row_at rows e) ≡ [] → (c : ℕ) → ¬ Refers rows e c
names_none rows e empty c h =
    let none : Contains {X = ℕ} [] c = subst (λ (ns : List ℕ). Contains ns c) empty h in
    omega (arith, none.1)

reaches_itself : (rows : List Entity) (e k : ℕ) → references (row_at rows e) ≡ [] → Reaches rows e k → e ≡ k
reaches_itself rows e k empty here = refl
reaches_itself rows e k empty (further {c = c} refers more) = absurd (names_none rows e empty c refers)

read_alone : (rows : List Entity) (e : ℕ) → references (row_at rows e) ≡ [] → ¬ IsOpaque rows e → (k : ℕ) → ¬ ReachesOpaque rows e k
read_alone rows e empty read k h = read (subst (λ (n : ℕ). IsOpaque rows n) (sym (reaches_itself rows e k empty h.0)) h.1)

module _ (start : List (List ℕ)) (p : Primitive) where
  abbrev opening : Model
  opening = one_solid start p

  abbrev after : Model
  after = nothing_left start

  solid_read : (k : ℕ) → ¬ ReachesOpaque opening.rows 1 k
  unfolding row_at references_of
  solid_read k h = read_alone opening.rows 1 refl (λ none. none) k h

  nothing_read : (k : ℕ) → ¬ ReachesOpaque after.rows 1 k
  unfolding row_at references_of null_entity
  nothing_read k h = read_alone after.rows 1 refl (λ none. none) k h

  items_before : IsAnswer opening (question.Items 1) (codes "ITEMS 1 " ++ decimal 1)
  unfolding row_at
  items_before = (0, inl (refl, solid_read), refl)

  items_after : IsAnswer after (question.Items 1) (codes "REFUSED NoEntity " ++ decimal 1)
  unfolding row_at null_entity
  items_after = (0, inl (refl, nothing_read), refl)

  abbrev items : Command
  items = command.Ask (question.Items 1) false

  pub items_before_and_after : IsLegal opening ((items ∷ items ∷ items ∷ []) ∷ edits change.Drop ∷ []) (log change.Drop)
      ((with_version 0 (codes "ITEMS 1 " ++ decimal 1) ∷ with_version 1 (codes "REFUSED NoEntity " ++ decimal 1) ∷ with_version 1 (codes "REFUSED NoEntity " ++ decimal 1) ∷ []) ∷ edit_replies ∷ [])
  items_before_and_after =
      before_and_after opening after change.Drop (dropped start p) (question.Items 1) (codes "ITEMS 1 " ++ decimal 1) (codes "REFUSED NoEntity " ++ decimal 1) items_before items_after

  module _ (at : Vec3) where
    point_begun : IsNotRefused opening.rows (question.Point 1 at)
    unfolding row_at weight_of weight_within
    point_begun = record { unread = 0; first = inl (refl, solid_read); none = refl }

    point_after : IsAnswer after (question.Point 1 at) (codes "REFUSED NoEntity " ++ decimal 1)
    unfolding row_at null_entity
    point_after = (0, inl (refl, nothing_read), refl)

    pub point_given_up : IsLegal opening ((command.Ask (question.Point 1 at) true ∷ command.Ask (question.Point 1 at) false ∷ []) ∷ edits change.Drop ∷ []) (log change.Drop)
        ((given_up 0 1 ∷ with_version 1 (codes "REFUSED NoEntity " ++ decimal 1) ∷ []) ∷ edit_replies ∷ [])
    point_given_up = given_up_for_the_commit opening after change.Drop (dropped start p) (question.Point 1 at) (codes "REFUSED NoEntity " ++ decimal 1) tt point_begun point_after

-- ---- unlawful ones: the first session asks, whatever the log is, and whatever the others do

module _ (opening : Model) (log : List LogEntry) (others : List (List Command)) (rest : List (List Reply)) where
  abbrev IsLegalFor : List Command → List Reply → Type 0
  IsLegalFor commands replies = IsLegal opening (commands ∷ others) log (replies ∷ rest)

  of_first : (commands : List Command) (replies : List Reply) → IsLegalFor commands replies → Printed opening log 0 at_start commands replies
  of_first commands replies legal = (all_printed opening (commands ∷ others) log (replies ∷ rest) legal).0

  few : (commands : List Command) (replies : List Reply) → IsLegalFor commands replies → length log ≤ 10000
  few commands replies legal = few_entries opening (commands ∷ others) log (replies ∷ rest) legal

  -- a question that isn't live is given up
  pub held_given_up : (q : Question) (version later : ℕ) → ¬ IsLegalFor (command.Ask q false ∷ []) (given_up version later ∷ [])
  held_given_up q version later legal =
      let line = of_first (command.Ask q false ∷ []) (given_up version later ∷ []) legal in
      let may : false ≡ true = (given_up_is opening log at_start q false version later line.0 line.1 line.2).came.may in
      cc

  -- a question that asks about no cells is given up
  pub newest_given_up : (version later : ℕ) → ¬ IsLegalFor (command.Ask question.Newest true ∷ []) (given_up version later ∷ [])
  newest_given_up version later legal =
      let line = of_first (command.Ask question.Newest true ∷ []) (given_up version later ∷ []) legal in
      (given_up_is opening log at_start question.Newest true version later line.0 line.1 line.2).came.cells

  -- a question is given up that the model of its version refuses
  pub refused_given_up : (e : ℕ) (at : Vec3) (later : ℕ) → row_at opening.rows e ≡ row.Null → ¬ IsLegalFor (command.Ask (question.Point e at) true ∷ []) (given_up 0 later ∷ [])
  refused_given_up e at later null legal =
      let line = of_first (command.Ask (question.Point e at) true ∷ []) (given_up 0 later ∷ []) legal in
      let came = (given_up_is opening log at_start (question.Point e at) true 0 later line.0 line.1 line.2).came in
      let unread = came.not_refused.unread in
      let model = version_unique opening log 0 came.model opening came.shown.is opening_version in
      let here : refusal_on opening.rows (question.Point e at) unread ≡ None = subst (λ (m : Model). refusal_on m.rows (question.Point e at) unread ≡ None) model came.not_refused.none in
      let none : ◌≡◌ {A = Option Refusal} (refusal_of (question.Point e at) row.Null (weight_of opening.rows e) unread) None =
      subst (λ (r : Row). refusal_of (question.Point e at) r (weight_of opening.rows e) unread ≡ None) null here in
      cc

  -- a question is answered otherwise than the model of its version does
  pub wrong_answer : (e : ℕ) (at : Vec3) → row_at opening.rows e ≡ row.Null → ¬ IsLegalFor (command.Ask (question.Point e at) false ∷ []) (with_version 0 (codes "INSIDE") ∷ [])
  wrong_answer e at null legal =
      let line = of_first (command.Ask (question.Point e at) false ∷ []) (with_version 0 (codes "INSIDE") ∷ []) legal in
      let h = answered_is opening log at_start (question.Point e at) 0 (codes "INSIDE") line.0 line.1 line.2 in
      let model = version_unique opening log 0 h.model opening h.shown.is opening_version in
      let here = subst (λ (m : Model). IsAnswerOn m.rows (question.Point e at) (codes "INSIDE")) model h.afresh in
      let none : codes "INSIDE" ≡ refused_body (refusal.NoEntity e) =
      subst (λ (r : Row). IsAnswerUnless (refusal_of (question.Point e at) r (weight_of opening.rows e) here.0) opening.rows (question.Point e at) (codes "INSIDE")) null here.2 in
      let byte : 73 ≡ 82 = ap (λ (text : List ℕ). get_or text 0 0) none in
      omega (arith, byte)

  -- a question is given up for the version that it began on
  pub given_up_for_its_own : (q : Question) (version : ℕ) → ¬ IsLegalFor (command.Ask q true ∷ []) (given_up version version ∷ [])
  given_up_for_its_own q version legal =
      let line = of_first (command.Ask q true ∷ []) (given_up version version ∷ []) legal in
      let h = given_up_is opening log at_start q true version version line.0 line.1 line.2 in
      let least = few (command.Ask q true ∷ []) (given_up version version ∷ []) legal in
      let later = h.came.later_one in
      let logged = h.came.logged in
      let same = one_number version h.other (omega (arith, least, later, logged)) (omega (arith, least, logged)) h.spelt in
      omega (arith, same, later)

  -- a question is given up for a version that the log doesn't have
  pub given_up_past_the_log : (q : Question) (version later : ℕ) → length log < later → later < 2 ^ 64 → ¬ IsLegalFor (command.Ask q true ∷ []) (given_up version later ∷ [])
  given_up_past_the_log q version later past short legal =
      let line = of_first (command.Ask q true ∷ []) (given_up version later ∷ []) legal in
      let h = given_up_is opening log at_start q true version later line.0 line.1 line.2 in
      let least = few (command.Ask q true ∷ []) (given_up version later ∷ []) legal in
      let logged = h.came.logged in
      let same = one_number later h.other short (omega (arith, least, logged)) h.spelt in
      omega (arith, same, past, logged)

  module _ (q r : Question) (live also : Bool) (version older : ℕ) (first second : List ℕ) where
    -- a reply names a version before one that an earlier reply named
    pub older_than_shown : older < version → ¬ IsLegalFor (command.Ask q live ∷ command.Ask r also ∷ []) (with_version version first ∷ with_version older second ∷ [])
    older_than_shown before legal =
        let line = of_first (command.Ask q live ∷ command.Ask r also ∷ []) (with_version version first ∷ with_version older second ∷ []) legal in
        let named = names_it opening log at_start q live version first line.0 line.1 line.2 in
        let shown = not_older opening log (record { line = 2; batch = []; shown = max 0 (named_version line.0) }) r also older second line.3.0 line.3.1 line.3.2 in
        omega (arith, before, named, shown)

    -- so does one that an earlier reply was given up for
    pub older_than_given_up : (later : ℕ) → older < later → later < 2 ^ 64 → ¬ IsLegalFor (command.Ask q live ∷ command.Ask r also ∷ []) (given_up version later ∷ with_version older second ∷ [])
    older_than_given_up later before short legal =
        let line = of_first (command.Ask q live ∷ command.Ask r also ∷ []) (given_up version later ∷ with_version older second ∷ []) legal in
        let h = given_up_is opening log at_start q live version later line.0 line.1 line.2 in
        let least = few (command.Ask q live ∷ command.Ask r also ∷ []) (given_up version later ∷ with_version older second ∷ []) legal in
        let logged = h.came.logged in
        let same = one_number later h.other short (omega (arith, least, logged)) h.spelt in
        let named = ap named_version h.is in
        let shown = not_older opening log (record { line = 2; batch = []; shown = max 0 (named_version line.0) }) r also older second line.3.0 line.3.1 line.3.2 in
        omega (arith, before, same, named, shown)

    -- and one that the session's own commit made
    pub older_than_committed : older < version → ¬ IsLegalFor (command.Commit ∷ command.Ask r also ∷ []) (with_version version (codes "COMMITTED") ∷ with_version older second ∷ [])
    older_than_committed before legal =
        let line = of_first (command.Commit ∷ command.Ask r also ∷ []) (with_version version (codes "COMMITTED") ∷ with_version older second ∷ []) legal in
        let named = ap named_version (committed_is opening log at_start 0 version line.0 line.1 line.2) in
        let shown = not_older opening log (record { line = 2; batch = []; shown = max 0 (named_version line.0) }) r also older second line.3.0 line.3.1 line.3.2 in
        omega (arith, before, named, shown)
