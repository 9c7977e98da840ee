-- Where no line commits, the log is empty and replies name the opening version or none.
use Rattle.std.proofs.Common.{◌≡◌, ◌≢◌, ◌⊎◌, inl, inr, ℕ, zero, suc, Bool, List, [], ◌∷◌, ◌++◌, length, map, Option, Some, slice_get, refl, sym, ap, subst, ◌∙◌, arith}
use Rattle.std.specs.List.{AllByRecursion}
use Rattle.solid_base.specs.declared.entities.Model.{Model}
use Rattle.solid_base.specs.declared.replies.Reply.{Reply}
use Rattle.solid_questions.specs.declared.questions.Question.{Question}
use Rattle.script_lines.specs.declared.commands.Command.{Command}
use Rattle.script_lines.specs.declared.commands.Command.TheVariants as command
use Rattle.edit_core.specs.declared.changes.Change.TheVariants as change
use Rattle.edit_core.specs.Batches.{stage}
use Rattle.edit_core.specs.Versions.{LogEntry}
use Rattle.solid_desk.specs.Outcomes.{Outcome, bad_line, staged, committed, refused, answered, cancelled, no_memory, reply_of, named_version}
use Rattle.solid_desk.specs.Sessions.{Standing, at_start, standing_after}
use Rattle.solid_desk.specs.Legal.{entry_at, IsAsked, IsEdit, IsOutcome, IsSession, AreSessions, IsMade, IsLegal}
use Rattle.solid_desk.specs.WithoutCommits.{HaveNoCommit, NamesNoLaterVersion, NamesOnlyTheOpening}

-- ---- the log

pub of_all : {X : Type 0} (P : X → Type 0) (xs : List X) (place : ℕ) (x : X) → slice_get xs place ≡ Some x → AllByRecursion P xs → P x
of_all P [] place x at all = absurd (cc)
of_all P (first ∷ xs) zero x at all = (let same : first ≡ x = cc in subst P same all.0)
of_all P (first ∷ xs) (suc place) x at all = of_all P xs place x at all.1

of_middle : {X : Type 0} (P : X → Type 0) (front : List X) (x : X) (rest : List X) → AllByRecursion P (front ++ x ∷ rest) → P x
of_middle P [] x rest all = all.0
of_middle P (first ∷ front) x rest all = of_middle P front x rest all.1

none_made : (sessions : List (List Command)) (outcomes : List (List Outcome)) (version : ℕ) (entry : LogEntry) → HaveNoCommit sessions → IsMade sessions outcomes version entry → ⊥
none_made sessions outcomes version entry none made =
    let line = of_all (AllByRecursion (λ c. c ≢ command.Commit)) sessions entry.session (made.commands ++ command.Commit ∷ made.rest) made.line_of none in
    of_middle (λ c. c ≢ command.Commit) made.commands command.Commit made.rest line refl

nothing_logged : (sessions : List (List Command)) (outcomes : List (List Outcome)) (log : List LogEntry) → HaveNoCommit sessions
    → ((place : ℕ) (entry : LogEntry) → slice_get log place ≡ Some entry → IsMade sessions outcomes (suc place) entry) → log ≡ []
nothing_logged sessions outcomes [] none made = refl
nothing_logged sessions outcomes (entry ∷ log) none made = absurd (none_made sessions outcomes 1 entry none (made 0 entry refl))

pub empty_log : (opening : Model) (sessions : List (List Command)) (log : List LogEntry) (transcripts : List (List Reply)) → IsLegal opening sessions log transcripts → HaveNoCommit sessions → log ≡ []
empty_log opening sessions log transcripts legal none = nothing_logged sessions legal.outcomes log none legal.entries.made

-- ---- versions

-- a lawful outcome by an empty log names no version but 0
asked_on_opening : (opening : Model) (at : Standing) (q : Question) (live : Bool) (outcome : Outcome) → IsAsked opening [] at q live outcome → named_version outcome ≡ 0
asked_on_opening opening at q live (bad_line f) h = absurd h
asked_on_opening opening at q live (staged count) h = absurd h
asked_on_opening opening at q live (committed version) h = absurd h
asked_on_opening opening at q live (refused version f) h = absurd h
asked_on_opening opening at q live (answered version body) h = (let low = h.shown.logged in omega (arith, low))
asked_on_opening opening at q live (cancelled version later) h = (let later_one = h.later_one in let low = h.logged in absurd (omega (arith, later_one, low)))
asked_on_opening opening at q live no_memory h = refl

not_logged : (place : ℕ) (entry : LogEntry) → slice_get [] place ≡ Some entry → ⊥
not_logged place entry h = cc

edit_on_opening : (opening : Model) (session : ℕ) (at : Standing) (outcome : Outcome) → IsEdit opening [] session at outcome → named_version outcome ≡ 0
edit_on_opening opening session at (bad_line f) h = absurd h
edit_on_opening opening session at (staged count) h = absurd h
edit_on_opening opening session at (committed version) h = absurd (not_logged h.place (entry_at session at) h.logged)
edit_on_opening opening session at (refused version f) h = (let low = h.shown.logged in omega (arith, low))
edit_on_opening opening session at (answered version body) h = absurd h
edit_on_opening opening session at (cancelled version later) h = absurd h
edit_on_opening opening session at no_memory h = refl

one_of_two : (outcome one : Outcome) → named_version one ≡ 0 → (outcome ≡ one) ⊎ (outcome ≡ no_memory) → named_version outcome ≡ 0
one_of_two outcome one none (inl is) = ap named_version is ∙ none
one_of_two outcome one none (inr is) = ap named_version is

outcome_on_opening : (opening : Model) (session : ℕ) (at : Standing) (c : Command) (outcome : Outcome) → IsOutcome opening [] session at c outcome → named_version outcome ≡ 0
outcome_on_opening opening session at (command.Ask q live) outcome h = asked_on_opening opening at q live outcome h
outcome_on_opening opening session at (command.Replace de r) outcome h = one_of_two outcome (staged (length (stage at.batch de (change.Replace r)))) refl h
outcome_on_opening opening session at (command.Add de r) outcome h = one_of_two outcome (staged (length (stage at.batch de (change.Add r)))) refl h
outcome_on_opening opening session at (command.Drop de) outcome h = one_of_two outcome (staged (length (stage at.batch de change.Drop))) refl h
outcome_on_opening opening session at command.Commit outcome h = edit_on_opening opening session at outcome h
outcome_on_opening opening session at (command.Bad f) outcome h = one_of_two outcome (bad_line f) refl h

session_on_opening : (opening : Model) (session : ℕ) (at : Standing) (commands : List Command) (outcomes : List Outcome) → IsSession opening [] session at commands outcomes → AllByRecursion NamesNoLaterVersion outcomes
session_on_opening opening session at [] [] h = tt
session_on_opening opening session at [] (outcome ∷ outcomes) h = absurd h
session_on_opening opening session at (c ∷ commands) [] h = absurd h
session_on_opening opening session at (c ∷ commands) (outcome ∷ outcomes) h =
    (outcome_on_opening opening session at c outcome h.0, session_on_opening opening session (standing_after at c outcome) commands outcomes h.1)

sessions_on_opening : (opening : Model) (session : ℕ) (sessions : List (List Command)) (outcomes : List (List Outcome)) → AreSessions opening [] session sessions outcomes → AllByRecursion (AllByRecursion NamesNoLaterVersion) outcomes
sessions_on_opening opening session [] [] h = tt
sessions_on_opening opening session [] (one ∷ others) h = absurd h
sessions_on_opening opening session (commands ∷ sessions) [] h = absurd h
sessions_on_opening opening session (commands ∷ sessions) (one ∷ others) h =
    (session_on_opening opening session at_start commands one h.0, sessions_on_opening opening (suc session) sessions others h.1)

pub no_version : (opening : Model) (sessions : List (List Command)) (log : List LogEntry) (transcripts : List (List Reply)) (legal : IsLegal opening sessions log transcripts) → HaveNoCommit sessions → AllByRecursion (AllByRecursion NamesNoLaterVersion) legal.outcomes
no_version opening sessions log transcripts legal none =
    let empty = empty_log opening sessions log transcripts legal none in
    sessions_on_opening opening 0 sessions legal.outcomes (subst (λ (l : List LogEntry). AreSessions opening l 0 sessions legal.outcomes) empty legal.replies)

-- ---- replies

version_0 : (version : ℕ) → version ≡ 0 → ◌≡◌ {A = Option ℕ} (Some version) (Some 0)
version_0 version is = ap (λ (n : ℕ). Some n) is

reply_on_opening : (outcome : Outcome) → named_version outcome ≡ 0 → NamesOnlyTheOpening (reply_of outcome)
reply_on_opening (bad_line f) h = inl refl
reply_on_opening (staged count) h = inl refl
reply_on_opening (committed version) h = inr (version_0 version h)
reply_on_opening (refused version f) h = inr (version_0 version h)
reply_on_opening (answered version body) h = inr (version_0 version h)
reply_on_opening (cancelled version later) h = inr (version_0 version (omega (arith, h)))
reply_on_opening no_memory h = inl refl

of_one : (outcomes : List Outcome) → AllByRecursion NamesNoLaterVersion outcomes → AllByRecursion NamesOnlyTheOpening (map reply_of outcomes)
of_one [] h = tt
of_one (outcome ∷ outcomes) h = (reply_on_opening outcome h.0, of_one outcomes h.1)

of_each : (outcomes : List (List Outcome)) → AllByRecursion (AllByRecursion NamesNoLaterVersion) outcomes → AllByRecursion (AllByRecursion NamesOnlyTheOpening) (map (map reply_of) outcomes)
of_each [] h = tt
of_each (one ∷ others) h = (of_one one h.0, of_each others h.1)

pub opening_alone : (opening : Model) (sessions : List (List Command)) (log : List LogEntry) (transcripts : List (List Reply)) → IsLegal opening sessions log transcripts → HaveNoCommit sessions → AllByRecursion (AllByRecursion NamesOnlyTheOpening) transcripts
opening_alone opening sessions log transcripts legal none =
    subst (λ (t : List (List Reply)). AllByRecursion (AllByRecursion NamesOnlyTheOpening) t) (sym legal.printed) (of_each legal.outcomes (no_version opening sessions log transcripts legal none))
