-- What is true by a log stays true by a longer one, and a session goes on at its end.
use Rattle.std.proofs.Common.{◌≡◌, ℕ, suc, ◌≤◌, Bool, List, [], ◌∷◌, ◌++◌, length, refl, arith}
use Rattle.std.proofs.lemmas.List.{length-append}
use Rattle.solid_base.specs.declared.entities.Model.{Model}
use Rattle.solid_questions.specs.declared.questions.Question.{Question}
use Rattle.script_lines.specs.declared.commands.Command.{Command}
use Rattle.script_lines.specs.declared.commands.Command.TheVariants as command
use Rattle.edit_core.specs.Versions.{LogEntry}
use Rattle.edit_core.proofs.Logs.{entry_stays, version_stays}
use Rattle.solid_desk.specs.Outcomes.{Outcome, bad_line, staged, committed, refused, answered, cancelled, no_memory}
use Rattle.solid_desk.specs.Sessions.{Standing, standing_after, standing_from}
use Rattle.solid_desk.specs.Legal.{IsShown, IsAsked, IsEdit, IsOutcome, IsSession, AreSessions}

within_longer : (log rest : List LogEntry) (v : ℕ) → v ≤ length log → v ≤ length (log ++ rest)
within_longer log rest v h = omega (arith, h, length-append log rest)

shown_stays : (opening : Model) (log rest : List LogEntry) (at : Standing) (v : ℕ) (model : Model) → IsShown opening log at v model → IsShown opening (log ++ rest) at v model
shown_stays opening log rest at v model h = record {
  logged = within_longer log rest v h.logged;
  not_older = h.not_older;
  is = version_stays opening log rest v model h.is;
}

asked_stays : (opening : Model) (log rest : List LogEntry) (at : Standing) (q : Question) (live : Bool) (outcome : Outcome) → IsAsked opening log at q live outcome → IsAsked opening (log ++ rest) at q live outcome
asked_stays opening log rest at q live (bad_line f) h = absurd h
asked_stays opening log rest at q live (staged count) h = absurd h
asked_stays opening log rest at q live (committed version) h = absurd h
asked_stays opening log rest at q live (refused version f) h = absurd h
asked_stays opening log rest at q live (answered version body) h = record {
  model = h.model;
  shown = shown_stays opening log rest at version h.model h.shown;
  afresh = h.afresh;
}
asked_stays opening log rest at q live (cancelled version later) h = record {
  may = h.may;
  cells = h.cells;
  model = h.model;
  shown = shown_stays opening log rest at version h.model h.shown;
  not_refused = h.not_refused;
  later_one = h.later_one;
  logged = within_longer log rest later h.logged;
}
asked_stays opening log rest at q live no_memory h = tt

edit_stays : (opening : Model) (log rest : List LogEntry) (session : ℕ) (at : Standing) (outcome : Outcome) → IsEdit opening log session at outcome → IsEdit opening (log ++ rest) session at outcome
edit_stays opening log rest session at (bad_line f) h = absurd h
edit_stays opening log rest session at (staged count) h = absurd h
edit_stays opening log rest session at (committed version) h = record {
  place = h.place;
  next = h.next;
  logged = entry_stays log rest h.place (record { session = session; line = at.line; batch = at.batch }) h.logged;
  newer = h.newer;
}
edit_stays opening log rest session at (refused version f) h = record {
  model = h.model;
  shown = shown_stays opening log rest at version h.model h.shown;
  fault = h.fault;
}
edit_stays opening log rest session at (answered version body) h = absurd h
edit_stays opening log rest session at (cancelled version later) h = absurd h
edit_stays opening log rest session at no_memory h = tt

pub outcome_stays : (opening : Model) (log rest : List LogEntry) (session : ℕ) (at : Standing) (c : Command) (outcome : Outcome) → IsOutcome opening log session at c outcome → IsOutcome opening (log ++ rest) session at c outcome
outcome_stays opening log rest session at (command.Ask q live) outcome h = asked_stays opening log rest at q live outcome h
outcome_stays opening log rest session at (command.Replace de r) outcome h = h
outcome_stays opening log rest session at (command.Add de r) outcome h = h
outcome_stays opening log rest session at (command.Drop de) outcome h = h
outcome_stays opening log rest session at command.Commit outcome h = edit_stays opening log rest session at outcome h
outcome_stays opening log rest session at (command.Bad f) outcome h = h

pub session_stays : (opening : Model) (log rest : List LogEntry) (session : ℕ) (at : Standing) (commands : List Command) (outcomes : List Outcome) → IsSession opening log session at commands outcomes → IsSession opening (log ++ rest) session at commands outcomes
session_stays opening log rest session at [] [] h = tt
session_stays opening log rest session at [] (outcome ∷ outcomes) h = absurd h
session_stays opening log rest session at (c ∷ commands) [] h = absurd h
session_stays opening log rest session at (c ∷ commands) (outcome ∷ outcomes) h =
    (outcome_stays opening log rest session at c outcome h.0, session_stays opening log rest session (standing_after at c outcome) commands outcomes h.1)

pub sessions_stay : (opening : Model) (log rest : List LogEntry) (session : ℕ) (sessions : List (List Command)) (outcomes : List (List Outcome)) → AreSessions opening log session sessions outcomes → AreSessions opening (log ++ rest) session sessions outcomes
sessions_stay opening log rest session [] [] h = tt
sessions_stay opening log rest session [] (one ∷ others) h = absurd h
sessions_stay opening log rest session (commands ∷ sessions) [] h = absurd h
sessions_stay opening log rest session (commands ∷ sessions) (one ∷ others) h =
    (session_stays opening log rest session (record { line = 1; batch = []; shown = 0 }) commands one h.0, sessions_stay opening log rest (suc session) sessions others h.1)

-- ---- one more line

pub one_more : (opening : Model) (log : List LogEntry) (session : ℕ) (at : Standing) (commands : List Command) (outcomes : List Outcome) (c : Command) (outcome : Outcome) → IsSession opening log session at commands outcomes
    → IsOutcome opening log session (standing_from at commands outcomes) c outcome → IsSession opening log session at (commands ++ c ∷ []) (outcomes ++ outcome ∷ [])
one_more opening log session at [] [] c outcome h i = (i, tt)
one_more opening log session at [] (one ∷ outcomes) c outcome h i = absurd h
one_more opening log session at (d ∷ commands) [] c outcome h i = absurd h
one_more opening log session at (d ∷ commands) (one ∷ outcomes) c outcome h i =
    (h.0, one_more opening log session (standing_after at d one) commands outcomes c outcome h.1 i)

pub stands_after : (opening : Model) (log : List LogEntry) (session : ℕ) (at : Standing) (commands : List Command) (outcomes : List Outcome) (c : Command) (outcome : Outcome) → IsSession opening log session at commands outcomes
    → standing_from at (commands ++ c ∷ []) (outcomes ++ outcome ∷ []) ≡ standing_after (standing_from at commands outcomes) c outcome
stands_after opening log session at [] [] c outcome h = refl
stands_after opening log session at [] (one ∷ outcomes) c outcome h = absurd h
stands_after opening log session at (d ∷ commands) [] c outcome h = absurd h
stands_after opening log session at (d ∷ commands) (one ∷ outcomes) c outcome h =
    stands_after opening log session (standing_after at d one) commands outcomes c outcome h.1
