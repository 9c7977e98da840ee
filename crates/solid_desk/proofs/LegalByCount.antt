-- Sessions that each know their own lines, and made as many commits as the log has entries, are a
-- lawful outcome: each entry is that of one commit.
use Rattle.std.proofs.Common.{◌≡◌, ◌⊎◌, inl, inr, ℕ, zero, suc, ◌+◌, ◌<◌, ◌≤◌, ◌==◌, Bool, cond, List, [], ◌∷◌, ◌++◌, length, map, Option, Some, slice_get, get_or, refl, sym, ap, subst, ◌∙◌, arith}
use Rattle.std.proofs.lemmas.Bool.{cases_eq, cases_lt, eq-eqb, ne_eqb}
use Rattle.std.proofs.lemmas.Option.{slice_get_within, slice_get-get_or}
use Rattle.solid_base.specs.declared.entities.Model.{Model}
use Rattle.solid_base.specs.declared.replies.Reply.{Reply}
use Rattle.script_lines.specs.declared.commands.Command.{Command}
use Rattle.script_lines.specs.declared.commands.Command.TheVariants as command
use Rattle.edit_core.specs.declared.changes.Change.TheVariants as change
use Rattle.edit_core.specs.Batches.{stage}
use Rattle.edit_core.specs.Versions.{LogEntry, IsLawfulLog}
use Rattle.edit_core.proofs.Logs.{same_entry}
use Rattle.solid_desk.specs.Outcomes.{Outcome, bad_line, staged, committed, refused, answered, cancelled, no_memory, named_version, reply_of}
use Rattle.solid_desk.specs.Sessions.{Standing, at_start, standing_after, standing_from}
use Rattle.solid_desk.specs.Legal.{entry_at, IsOutcome, IsSession, AreSessions, IsMade, IsBefore, IsLegal}
use Rattle.solid_desk.specs.SideBySide.{made_by, committed_count, all_committed_count}
use Rattle.solid_desk.proofs.RunsLegal.{line_rises}
use Rattle.solid_desk.proofs.Sums.{sum_below, sum_both, sum_none, sum_one, sum_ones, sum_full}

-- ---- the commits of a place

-- 1 where the line made the version of the entry at this place
abbrev made_at : ℕ → Outcome → ℕ
made_at place (bad_line f) = 0
made_at place (staged count) = 0
made_at place (committed version) = cond (version == suc place) 1 0
made_at place (refused version f) = 0
made_at place (answered version body) = 0
made_at place (cancelled version later) = 0
made_at place no_memory = 0

abbrev made_in : ℕ → List Outcome → ℕ
made_in place [] = 0
made_in place (outcome ∷ outcomes) = made_at place outcome + made_in place outcomes

abbrev made_in_all : ℕ → List (List Outcome) → ℕ
made_in_all place [] = 0
made_in_all place (outcomes ∷ others) = made_in place outcomes + made_in_all place others

made_here : (place q : ℕ) (outcome : Outcome) → outcome ≡ committed (suc q) → place ≡ q → made_at place outcome ≡ 1
made_here place q outcome is same =
    ap (made_at place) is ∙ ap (λ (b : Bool). cond b 1 0) (eq-eqb (suc q) (suc place) (omega (arith, same)))

made_elsewhere : (place q : ℕ) (outcome : Outcome) → outcome ≡ committed (suc q) → (place ≡ q → ⊥) → made_at place outcome ≡ 0
made_elsewhere place q outcome is apart =
    ap (made_at place) is ∙ ap (λ (b : Bool). cond b 1 0) (ne_eqb (suc q) (suc place) (λ e. apart (omega (arith, e))))

-- what a line made: nothing, or the version of its entry, later than all that was shown
data Came (log : List LogEntry) (session : ℕ) (at : Standing) (c : Command) (outcome : Outcome) : Type 0 where
  quiet : ((place : ℕ) → made_at place outcome ≡ 0) → made_by outcome ≡ 0 → Came log session at c outcome
  made : (q : ℕ) → c ≡ command.Commit → outcome ≡ committed (suc q) → slice_get log q ≡ Some (entry_at session at) → at.shown ≤ q → Came log session at c outcome

module _ (opening : Model) (log : List LogEntry) (session : ℕ) where
  staged_came : (at : Standing) (c : Command) (count : ℕ) (outcome : Outcome) → (outcome ≡ staged count) ⊎ (outcome ≡ no_memory) → Came log session at c outcome
  staged_came at c count outcome (inl is) = quiet (λ place. ap (made_at place) is) (ap made_by is)
  staged_came at c count outcome (inr is) = quiet (λ place. ap (made_at place) is) (ap made_by is)

  came : (at : Standing) (c : Command) (outcome : Outcome) → IsOutcome opening log session at c outcome → Came log session at c outcome
  came at (command.Ask q live) (bad_line f) h = absurd h
  came at (command.Ask q live) (staged count) h = absurd h
  came at (command.Ask q live) (committed version) h = absurd h
  came at (command.Ask q live) (refused version f) h = absurd h
  came at (command.Ask q live) (answered version body) h = quiet (λ place. refl) refl
  came at (command.Ask q live) (cancelled version later) h = quiet (λ place. refl) refl
  came at (command.Ask q live) no_memory h = quiet (λ place. refl) refl
  came at (command.Replace de r) outcome h = staged_came at (command.Replace de r) (length (stage at.batch de (change.Replace r))) outcome h
  came at (command.Add de r) outcome h = staged_came at (command.Add de r) (length (stage at.batch de (change.Add r))) outcome h
  came at (command.Drop de) outcome h = staged_came at (command.Drop de) (length (stage at.batch de change.Drop)) outcome h
  came at command.Commit (bad_line f) h = absurd h
  came at command.Commit (staged count) h = absurd h
  came at command.Commit (committed version) h =
      (let next = h.next in let low = h.newer in made h.place refl (ap committed h.next) h.logged (omega (arith, next, low)))
  came at command.Commit (refused version f) h = quiet (λ place. refl) refl
  came at command.Commit (answered version body) h = absurd h
  came at command.Commit (cancelled version later) h = absurd h
  came at command.Commit no_memory h = quiet (λ place. refl) refl
  came at (command.Bad f) outcome (inl is) = quiet (λ place. ap (made_at place) is) (ap made_by is)
  came at (command.Bad f) outcome (inr is) = quiet (λ place. ap (made_at place) is) (ap made_by is)

  -- ---- one session

  -- no line makes a version that was shown before it
  none_shown : (place : ℕ) (at : Standing) (commands : List Command) (outcomes : List Outcome) → IsSession opening log session at commands outcomes → place < at.shown → made_in place outcomes ≡ 0
  none_shown place at [] [] h low = refl
  none_shown place at [] (outcome ∷ outcomes) h low = absurd h
  none_shown place at (c ∷ commands) [] h low = absurd h
  none_shown place at (c ∷ commands) (outcome ∷ outcomes) h low =
      let others = none_shown place (standing_after at c outcome) commands outcomes h.1 (omega (arith, low)) in
      elim (came at c outcome h.0) [
        | quiet none count ↦ (let here = none place in omega (arith, here, others))
        | made q commits is logged late ↦ (let here = made_elsewhere place q outcome is (λ e. omega (arith, e, low, late)) in omega (arith, here, others))
      ]

  after_shown : (at : Standing) (c : Command) (outcome : Outcome) (q : ℕ) → outcome ≡ committed (suc q) → q < (standing_after at c outcome).shown
  after_shown at c outcome q is = let named = ap named_version is in omega (arith, named)

  once : (place : ℕ) (at : Standing) (commands : List Command) (outcomes : List Outcome) → IsSession opening log session at commands outcomes → made_in place outcomes ≤ 1
  once place at [] [] h = omega arith
  once place at [] (outcome ∷ outcomes) h = absurd h
  once place at (c ∷ commands) [] h = absurd h
  once place at (c ∷ commands) (outcome ∷ outcomes) h =
      let others = once place (standing_after at c outcome) commands outcomes h.1 in
      elim (came at c outcome h.0) [
        | quiet none count ↦ (let here = none place in omega (arith, here, others))
        | made q commits is logged late ↦ elim (cases_eq place q) [
          | inl e ↦ (let here = made_here place q outcome is e in
              let past = after_shown at c outcome q is in
              let none = none_shown place (standing_after at c outcome) commands outcomes h.1 (omega (arith, e, past)) in
              omega (arith, here, none))
          | inr apart ↦ (let here = made_elsewhere place q outcome is apart in omega (arith, here, others))
        ]
      ]

  -- the entry of a session's commit is of that session
  none_of_others : (place : ℕ) (entry : LogEntry) (at : Standing) (commands : List Command) (outcomes : List Outcome) → IsSession opening log session at commands outcomes
      → slice_get log place ≡ Some entry → (entry.session ≡ session → ⊥) → made_in place outcomes ≡ 0
  none_of_others place entry at [] [] h stands other = refl
  none_of_others place entry at [] (outcome ∷ outcomes) h stands other = absurd h
  none_of_others place entry at (c ∷ commands) [] h stands other = absurd h
  none_of_others place entry at (c ∷ commands) (outcome ∷ outcomes) h stands other =
      let others = none_of_others place entry (standing_after at c outcome) commands outcomes h.1 stands other in
      elim (came at c outcome h.0) [
        | quiet none count ↦ (let here = none place in omega (arith, here, others))
        | made q commits is logged late ↦ (
            let apart : place ≡ q → ⊥ = λ e. (
            let there = subst (λ (n : ℕ). slice_get log n ≡ Some (entry_at session at)) (sym e) logged in
            other (ap (λ (x : LogEntry). x.session) (same_entry entry (entry_at session at) (sym stands ∙ there)))
            ) in
            let here = made_elsewhere place q outcome is apart in
            omega (arith, here, others)
            )
      ]

  -- as many places as commits
  counted : (at : Standing) (commands : List Command) (outcomes : List Outcome) → IsSession opening log session at commands outcomes
      → sum_below (length log) (λ place. made_in place outcomes) ≡ committed_count outcomes
  counted at [] [] h = sum_none (length log) (λ place. 0) (λ p low. refl)
  counted at [] (outcome ∷ outcomes) h = absurd h
  counted at (c ∷ commands) [] h = absurd h
  counted at (c ∷ commands) (outcome ∷ outcomes) h =
      let others = counted (standing_after at c outcome) commands outcomes h.1 in
      let both = sum_both (length log) (λ place. made_at place outcome) (λ place. made_in place outcomes) in
      elim (came at c outcome h.0) [
        | quiet none count ↦ (let here = sum_none (length log) (λ place. made_at place outcome) (λ p low. none p) in omega (arith, here, others, both, count))
        | made q commits is logged late ↦ (
            let here = sum_one (length log) q (λ place. made_at place outcome) (made_here q q outcome is refl) (λ p apart. made_elsewhere p q outcome is apart)
            (slice_get_within log q (entry_at session at) logged) in
            let count : made_by outcome ≡ 1 = ap made_by is in
            omega (arith, here, others, both, count)
            )
      ]

-- the entry at a place is that of a commit among these lines of the session
record MadeIn (log : List LogEntry) (session : ℕ) (at : Standing) (commands : List Command) (outcomes : List Outcome) (place : ℕ) : Type 0 where
  before : List Command
  replies : List Outcome
  rest : List Command
  others : List Outcome
  line_of : commands ≡ before ++ command.Commit ∷ rest
  reply_to : outcomes ≡ replies ++ committed (suc place) ∷ others
  one_each : length before ≡ length replies
  logged : slice_get log place ≡ Some (entry_at session (standing_from at before replies))

made_now : (log : List LogEntry) (session : ℕ) (at : Standing) (c : Command) (commands : List Command) (outcome : Outcome) (outcomes : List Outcome) (place q : ℕ) → place ≡ q
    → c ≡ command.Commit → outcome ≡ committed (suc q) → slice_get log q ≡ Some (entry_at session at) → MadeIn log session at (c ∷ commands) (outcome ∷ outcomes) place
made_now log session at c commands outcome outcomes place q e commits is logged = record {
  before = [];
  replies = [];
  rest = commands;
  others = outcomes;
  line_of = ap (λ (x : Command). x ∷ commands) commits;
  reply_to = ap (λ (x : Outcome). x ∷ outcomes) (is ∙ ap (λ (n : ℕ). committed (suc n)) (sym e));
  one_each = refl;
  logged = subst (λ (n : ℕ). slice_get log n ≡ Some (entry_at session at)) (sym e) logged;
}

made_later : (log : List LogEntry) (session : ℕ) (at : Standing) (c : Command) (commands : List Command) (outcome : Outcome) (outcomes : List Outcome) (place : ℕ)
    → MadeIn log session (standing_after at c outcome) commands outcomes place → MadeIn log session at (c ∷ commands) (outcome ∷ outcomes) place
made_later log session at c commands outcome outcomes place m = record {
  before = c ∷ m.before;
  replies = outcome ∷ m.replies;
  rest = m.rest;
  others = m.others;
  line_of = ap (λ (l : List Command). c ∷ l) m.line_of;
  reply_to = ap (λ (l : List Outcome). outcome ∷ l) m.reply_to;
  one_each = ap suc m.one_each;
  logged = m.logged;
}

module _ (opening : Model) (log : List LogEntry) (session : ℕ) where
  found : (place : ℕ) (at : Standing) (commands : List Command) (outcomes : List Outcome) → IsSession opening log session at commands outcomes → 0 < made_in place outcomes → MadeIn log session at commands outcomes place
  found place at [] [] h some = absurd (omega (arith, some))
  found place at [] (outcome ∷ outcomes) h some = absurd h
  found place at (c ∷ commands) [] h some = absurd h
  found place at (c ∷ commands) (outcome ∷ outcomes) h some =
      elim (came opening log session at c outcome h.0) [
        | quiet none count ↦ (let here = none place in
            made_later log session at c commands outcome outcomes place (found place (standing_after at c outcome) commands outcomes h.1 (omega (arith, here, some))))
        | made q commits is logged late ↦ elim (cases_eq place q) [
          | inl e ↦ made_now log session at c commands outcome outcomes place q e commits is logged
          | inr apart ↦ (let here = made_elsewhere place q outcome is apart in
              made_later log session at c commands outcome outcomes place (found place (standing_after at c outcome) commands outcomes h.1 (omega (arith, here, some))))
        ]
      ]

  no_sooner : (place : ℕ) (entry : LogEntry) (at : Standing) (commands : List Command) (outcomes : List Outcome) → MadeIn log session at commands outcomes place → slice_get log place ≡ Some entry → at.line ≤ entry.line
  no_sooner place entry at commands outcomes m stands =
      let line : entry.line ≡ (standing_from at m.before m.replies).line =
      ap (λ (x : LogEntry). x.line) (same_entry entry (entry_at session (standing_from at m.before m.replies)) (sym stands ∙ m.logged)) in
      let rises = line_rises at m.before m.replies in
      omega (arith, line, rises)

  -- the entries of a session stand in the order of its lines
  in_lines : (first second : ℕ) (a b : LogEntry) (at : Standing) (commands : List Command) (outcomes : List Outcome) → IsSession opening log session at commands outcomes → 0 < made_in first outcomes → 0 < made_in second outcomes
      → first < second → slice_get log first ≡ Some a → slice_get log second ≡ Some b → a.line < b.line
  in_lines first second a b at [] [] h one two lt stands then = absurd (omega (arith, one))
  in_lines first second a b at [] (outcome ∷ outcomes) h one two lt stands then = absurd h
  in_lines first second a b at (c ∷ commands) [] h one two lt stands then = absurd h
  in_lines first second a b at (c ∷ commands) (outcome ∷ outcomes) h one two lt stands then =
      let next = standing_after at c outcome in
      elim (came opening log session at c outcome h.0) [
        | quiet none count ↦ (let x = none first in let y = none second in
            in_lines first second a b next commands outcomes h.1 (omega (arith, x, one)) (omega (arith, y, two)) lt stands then)
        | made q commits is logged late ↦ elim (cases_eq first q) [
          | inl e ↦ (
              let there = subst (λ (n : ℕ). slice_get log n ≡ Some (entry_at session at)) (sym e) logged in
              let line : a.line ≡ at.line = ap (λ (x : LogEntry). x.line) (same_entry a (entry_at session at) (sym stands ∙ there)) in
              let y = made_elsewhere second q outcome is (λ same. omega (arith, same, e, lt)) in
              let later = found second next commands outcomes h.1 (omega (arith, y, two)) in
              let sooner : suc at.line ≤ b.line = no_sooner second b next commands outcomes later then in
              omega (arith, line, sooner)
              )
          | inr apart ↦ (
              let x = made_elsewhere first q outcome is apart in
              elim (cases_eq second q) [
                | inl e ↦ (
                    let past = after_shown opening log session at c outcome q is in
                    let none = none_shown opening log session first next commands outcomes h.1 (omega (arith, lt, e, past)) in
                    absurd (omega (arith, x, one, none))
                    )
                | inr also ↦ (let y = made_elsewhere second q outcome is also in
                    in_lines first second a b next commands outcomes h.1 (omega (arith, x, one)) (omega (arith, y, two)) lt stands then)
              ]
              )
        ]
      ]

-- ---- all sessions

-- the session that made the entry at a place, and its lines
record Which (opening : Model) (log : List LogEntry) (session : ℕ) (sessions : List (List Command)) (outcomes : List (List Outcome)) (place : ℕ) : Type 0 where
  k : ℕ
  of : ℕ
  number : of ≡ session + k
  lines : List Command
  came_to : List Outcome
  line_of : slice_get sessions k ≡ Some lines
  reply_to : slice_get outcomes k ≡ Some came_to
  is : IsSession opening log of at_start lines came_to
  some : 0 < made_in place came_to

module _ (opening : Model) (log : List LogEntry) where
  none_before : (place : ℕ) (entry : LogEntry) (session : ℕ) (sessions : List (List Command)) (outcomes : List (List Outcome)) → AreSessions opening log session sessions outcomes
      → slice_get log place ≡ Some entry → entry.session < session → made_in_all place outcomes ≡ 0
  none_before place entry session [] [] h stands low = refl
  none_before place entry session [] (one ∷ others) h stands low = absurd h
  none_before place entry session (commands ∷ sessions) [] h stands low = absurd h
  none_before place entry session (commands ∷ sessions) (one ∷ others) h stands low =
      let here = none_of_others opening log session place entry at_start commands one h.0 stands (λ e. omega (arith, e, low)) in
      let more = none_before place entry (suc session) sessions others h.1 stands (omega (arith, low)) in
      omega (arith, here, more)

  once_in_all : (place : ℕ) (entry : LogEntry) (session : ℕ) (sessions : List (List Command)) (outcomes : List (List Outcome)) → AreSessions opening log session sessions outcomes
      → slice_get log place ≡ Some entry → made_in_all place outcomes ≤ 1
  once_in_all place entry session [] [] h stands = omega arith
  once_in_all place entry session [] (one ∷ others) h stands = absurd h
  once_in_all place entry session (commands ∷ sessions) [] h stands = absurd h
  once_in_all place entry session (commands ∷ sessions) (one ∷ others) h stands = elim (cases_eq entry.session session) [
    | inl e ↦ (let here = once opening log session place at_start commands one h.0 in
        let more = none_before place entry (suc session) sessions others h.1 stands (omega (arith, e)) in
        omega (arith, here, more))
    | inr apart ↦ (let here = none_of_others opening log session place entry at_start commands one h.0 stands apart in
        let more = once_in_all place entry (suc session) sessions others h.1 stands in
        omega (arith, here, more))
  ]

  counted_all : (session : ℕ) (sessions : List (List Command)) (outcomes : List (List Outcome)) → AreSessions opening log session sessions outcomes
      → sum_below (length log) (λ place. made_in_all place outcomes) ≡ all_committed_count outcomes
  counted_all session [] [] h = sum_none (length log) (λ place. 0) (λ p low. refl)
  counted_all session [] (one ∷ others) h = absurd h
  counted_all session (commands ∷ sessions) [] h = absurd h
  counted_all session (commands ∷ sessions) (one ∷ others) h =
      let here = counted opening log session at_start commands one h.0 in
      let more = counted_all (suc session) sessions others h.1 in
      let both = sum_both (length log) (λ place. made_in place one) (λ place. made_in_all place others) in
      omega (arith, here, more, both)

  which : (place session : ℕ) (sessions : List (List Command)) (outcomes : List (List Outcome)) → AreSessions opening log session sessions outcomes → 0 < made_in_all place outcomes → Which opening log session sessions outcomes place
  which place session [] [] h some = absurd (omega (arith, some))
  which place session [] (one ∷ others) h some = absurd h
  which place session (commands ∷ sessions) [] h some = absurd h
  which place session (commands ∷ sessions) (one ∷ others) h some = elim (cases_lt 0 (made_in place one)) [
    | inl here ↦ record {
      k = 0;
      of = session;
      number = omega arith;
      lines = commands;
      came_to = one;
      line_of = refl;
      reply_to = refl;
      is = h.0;
      some = here;
    }
    | inr none ↦ (
        let w = which place (suc session) sessions others h.1 (omega (arith, some, none)) in
        let number = w.number in
        record {
          k = suc w.k;
          of = w.of;
          number = omega (arith, number);
          lines = w.lines;
          came_to = w.came_to;
          line_of = w.line_of;
          reply_to = w.reply_to;
          is = w.is;
          some = w.some;
        }
        )
  ]

same_outcomes : (a b : List Outcome) → ◌≡◌ {A = Option (List Outcome)} (Some a) (Some b) → a ≡ b
same_outcomes a b h = cc

module _ (opening : Model) (sessions : List (List Command)) (outcomes : List (List Outcome)) (log : List LogEntry) (h : AreSessions opening log 0 sessions outcomes) where
  -- the session of an entry that was made is that which made it
  of_entry : (place : ℕ) (entry : LogEntry) (w : Which opening log 0 sessions outcomes place) → slice_get log place ≡ Some entry → w.k ≡ entry.session
  of_entry place entry w stands =
      let m = found opening log w.of place at_start w.lines w.came_to w.is w.some in
      let of : entry.session ≡ w.of = ap (λ (x : LogEntry). x.session) (same_entry entry (entry_at w.of (standing_from at_start m.before m.replies)) (sym stands ∙ m.logged)) in
      let number = w.number in
      omega (arith, of, number)

  is_made : (place : ℕ) (entry : LogEntry) → slice_get log place ≡ Some entry → 0 < made_in_all place outcomes → IsMade sessions outcomes (suc place) entry
  is_made place entry stands some =
      let w = which opening log place 0 sessions outcomes h some in
      let m = found opening log w.of place at_start w.lines w.came_to w.is w.some in
      let entry_is = same_entry entry (entry_at w.of (standing_from at_start m.before m.replies)) (sym stands ∙ m.logged) in
      let of : entry.session ≡ w.of = ap (λ (x : LogEntry). x.session) entry_is in
      let session : entry.session ≡ w.k = sym (of_entry place entry w stands) in
      record {
        commands = m.before;
        replies = m.replies;
        rest = m.rest;
        others = m.others;
        line_of = ap (λ (n : ℕ). slice_get sessions n) session ∙ w.line_of ∙ ap (λ (l : List Command). Some l) m.line_of;
        reply_to = ap (λ (n : ℕ). slice_get outcomes n) session ∙ w.reply_to ∙ ap (λ (l : List Outcome). Some l) m.reply_to;
        one_each = m.one_each;
        is = entry_is ∙ ap (λ (n : ℕ). entry_at n (standing_from at_start m.before m.replies)) (sym of);
      }

  in_order : (first second : LogEntry) (before : IsBefore log first second) → 0 < made_in_all before.place outcomes → 0 < made_in_all before.after outcomes → first.line < second.line
  in_order first second before one two =
      let w = which opening log before.place 0 sessions outcomes h one in
      let v = which opening log before.after 0 sessions outcomes h two in
      let session : w.k ≡ v.k = of_entry before.place first w before.first_is ∙ before.of_one ∙ sym (of_entry before.after second v before.second_is) in
      let same : v.came_to ≡ w.came_to = same_outcomes v.came_to w.came_to (sym v.reply_to ∙ ap (λ (n : ℕ). slice_get outcomes n) (sym session) ∙ w.reply_to) in
      in_lines opening log w.of before.place before.after first second at_start w.lines w.came_to w.is w.some (subst (λ (l : List Outcome). 0 < made_in before.after l) same v.some)
      before.order before.first_is before.second_is

-- ---- the whole

at_most_once : (opening : Model) (sessions : List (List Command)) (outcomes : List (List Outcome)) (log : List LogEntry) → AreSessions opening log 0 sessions outcomes → (place : ℕ) → place < length log → made_in_all place outcomes ≤ 1
at_most_once opening sessions outcomes log h place within =
    let none = entry_at 0 at_start in
    once_in_all opening log place (get_or log place none) 0 sessions outcomes h (slice_get-get_or log place none within)

pub legal_by_count : (opening : Model) (sessions : List (List Command)) (outcomes : List (List Outcome)) (log : List LogEntry) → IsLawfulLog opening log → AreSessions opening log 0 sessions outcomes
    → all_committed_count outcomes ≡ length log → IsLegal opening sessions log (map (map reply_of) outcomes)
legal_by_count opening sessions outcomes log lawful h count = record {
  outcomes = outcomes;
  printed = refl;
  lawful = lawful;
  replies = h;
  entries = record {
    made = λ place entry stands. is_made opening sessions outcomes log h place entry stands (some place (slice_get_within log place entry stands));
    in_order = λ first second before. in_order opening sessions outcomes log h first second before
        (some before.place (slice_get_within log before.place first before.first_is)) (some before.after (slice_get_within log before.after second before.second_is));
  };
} where
  some : (place : ℕ) → place < length log → 0 < made_in_all place outcomes
  some place within =
      let one = sum_full (length log) (λ p. made_in_all p outcomes) (at_most_once opening sessions outcomes log h) (counted_all opening log 0 sessions outcomes h ∙ count) place within in
      omega (arith, one)

-- ---- the count of a lawful outcome

made_there : (place : ℕ) (replies others : List Outcome) → 0 < made_in place (replies ++ committed (suc place) ∷ others)
made_there place [] others = let here = made_here place place (committed (suc place)) refl refl in omega (arith, here)
made_there place (outcome ∷ replies) others = let more = made_there place replies others in omega (arith, more)

made_in_one : (place k : ℕ) (outcomes : List (List Outcome)) (one : List Outcome) → slice_get outcomes k ≡ Some one → 0 < made_in place one → 0 < made_in_all place outcomes
made_in_one place k [] one stands some = absurd cc
made_in_one place zero (first ∷ outcomes) one stands some =
    let here = subst (λ (l : List Outcome). 0 < made_in place l) (sym (same_outcomes first one stands)) some in omega (arith, here)
made_in_one place (suc k) (first ∷ outcomes) one stands some =
    let more = made_in_one place k outcomes one stands some in omega (arith, more)

pub count_of_legal : (opening : Model) (sessions : List (List Command)) (log : List LogEntry) (transcripts : List (List Reply)) (legal : IsLegal opening sessions log transcripts) → all_committed_count legal.outcomes ≡ length log
count_of_legal opening sessions log transcripts legal =
    sym (counted_all opening log 0 sessions legal.outcomes legal.replies) ∙ sum_ones (length log) (λ p. made_in_all p legal.outcomes) one where
      one : (place : ℕ) → place < length log → made_in_all place legal.outcomes ≡ 1
      one place within =
          let none = entry_at 0 at_start in
          let m = legal.entries.made place (get_or log place none) (slice_get-get_or log place none within) in
          let some = made_in_one place (get_or log place none).session legal.outcomes (m.replies ++ committed (suc place) ∷ m.others) m.reply_to (made_there place m.replies m.others) in
          let few = at_most_once opening sessions legal.outcomes log legal.replies place within in
          omega (arith, some, few)
