-- Runs in order are lawful outcomes. What follows a place in a run is shown along the lines that
-- are left: from where the sessions stand and from the log there on.
use Rattle.std.proofs.Common.{◌≡◌, inl, inr, ℕ, zero, suc, ◌+◌, ◌<◌, ◌≤◌, ◌==◌, max, Bool, true, false, cond, List, [], ◌∷◌, ◌++◌, length, map, set, get_or, replicate, Some, slice_get, refl, sym, ap, subst, ◌∙◌, append_assoc, append-nil, get_or-set_same, get_or-set_other, arith}
use Rattle.std.specs.List.{AllByRecursion, range_with_len}
use Rattle.std.proofs.lemmas.Bool.{cases_eq, eq-eqb}
use Rattle.std.proofs.lemmas.List.{length-append, length-set}
use Rattle.std.proofs.lemmas.Option.{slice_get_within}
use Rattle.std.proofs.lemmas.Simd.{map-map}
use Rattle.solid_base.specs.declared.entities.Model.{Model}
use Rattle.solid_questions.specs.declared.questions.Question.{Question}
use Rattle.script_lines.specs.declared.commands.Command.{Command}
use Rattle.script_lines.specs.declared.commands.Command.TheVariants as command
use Rattle.script_lines.specs.declared.commands.ScriptLine.{ScriptLine}
use Rattle.script_lines.specs.Grammar.{most_sessions}
use Rattle.script_lines.specs.Scripts.{IsLawfulLine}
use Rattle.edit_core.specs.Versions.{LogEntry, IsVersion, IsLawfulLog, opening_version, next_version}
use Rattle.edit_core.proofs.Batches.{test_not}
use Rattle.solid_desk.specs.Outcomes.{Outcome, committed, no_memory, named_version, reply_of}
use Rattle.solid_desk.specs.Sessions.{Standing, at_start, standing_after, standing_from, session_lines, sessions_of}
use Rattle.solid_desk.specs.Legal.{entry_at, IsOutcome, IsSession, AreSessions, IsMade, IsBefore, IsLegal}
use Rattle.solid_desk.specs.InOrder.{IsAnsweredNow, IsCommittedNow, IsRefusedNow, IsDone, all_at_start, standing_of, IsRunFrom, IsRun, session_outcomes, transcripts_of}
use Rattle.edit_core.proofs.Logs.{same_entry, version_stays}
use Rattle.solid_desk.proofs.LongerLogs.{outcome_stays}

at_end : {X : Type 0} (xs : List X) (x : X) (rest : List X) → slice_get (xs ++ x ∷ rest) (length xs) ≡ Some x
at_end [] x rest = refl
at_end (y ∷ xs) x rest = at_end xs x rest

-- ---- one line

-- what a line did to the log
pub data Logged (opening : Model) (log : List LogEntry) (session : ℕ) (at : Standing) (c : Command) (outcome : Outcome) (after : List LogEntry) : Type 0 where
  kept : after ≡ log → Logged opening log session at c outcome after
  grown : c ≡ command.Commit → IsCommittedNow opening log session at outcome after → Logged opening log session at c outcome after

module _ (opening : Model) (log : List LogEntry) (session : ℕ) (at : Standing) where
  pub what_logged : (c : Command) (outcome : Outcome) (after : List LogEntry) → IsDone opening log session at c outcome after → Logged opening log session at c outcome after
  what_logged c outcome after (inr passed) = kept passed.1
  what_logged (command.Ask q live) outcome after (inl h) = kept h.1
  what_logged (command.Replace de r) outcome after (inl h) = kept h.1
  what_logged (command.Add de r) outcome after (inl h) = kept h.1
  what_logged (command.Drop de) outcome after (inl h) = kept h.1
  what_logged command.Commit outcome after (inl (inl h)) = grown refl h
  what_logged command.Commit outcome after (inl (inr h)) = kept h.logged
  what_logged (command.Bad f) outcome after (inl h) = kept h.1

  pub what_follows : (c : Command) (outcome : Outcome) (after : List LogEntry) → Logged opening log session at c outcome after → (rest : List LogEntry) × (after ≡ log ++ rest)
  what_follows c outcome after (kept same) = ([], same ∙ sym (append-nil log))
  what_follows c outcome after (grown is h) = (entry_at session at ∷ [], h.logged)

  pub stays_lawful : (c : Command) (outcome : Outcome) (after : List LogEntry) → Logged opening log session at c outcome after → IsLawfulLog opening log → IsLawfulLog opening after
  stays_lawful c outcome after (kept same) lawful = subst (IsLawfulLog opening) (sym same) lawful
  stays_lawful c outcome after (grown is h) lawful =
      let one = entry_at session at ∷ [] in
      let longer = version_stays opening log one (length log) h.model h.newest in
      let stands : slice_get (log ++ one) (length log) ≡ Some (entry_at session at) = at_end log (entry_at session at) [] in
      let made = next_version longer stands h.made in
      let size : suc (length log) ≡ length (log ++ one) = omega (arith, length-append log one) in
      subst (IsLawfulLog opening) (sym h.logged) (record { last = h.edited; reached = subst (λ (n : ℕ). IsVersion opening (log ++ one) n h.edited) size made })

  none_is : (c : Command) → IsOutcome opening log session at c no_memory
  none_is (command.Ask q live) = tt
  none_is (command.Replace de r) = inr refl
  none_is (command.Add de r) = inr refl
  none_is (command.Drop de) = inr refl
  none_is command.Commit = tt
  none_is (command.Bad f) = inr refl

  asked_is : at.shown ≤ length log → (q : Question) (live : Bool) (outcome : Outcome) → IsAnsweredNow opening log q outcome → IsOutcome opening log session at (command.Ask q live) outcome
  asked_is low q live outcome h =
      subst (λ (o : Outcome). IsOutcome opening log session at (command.Ask q live) o) (sym h.is) (record {
        model = h.model;
        shown = record { logged = omega arith; not_older = low; is = h.newest };
        afresh = h.afresh;
      })

  refused_is : at.shown ≤ length log → (outcome : Outcome) (after : List LogEntry) → IsRefusedNow opening log at outcome after → IsOutcome opening log session at command.Commit outcome
  refused_is low outcome after h =
      subst (λ (o : Outcome). IsOutcome opening log session at command.Commit o) (sym h.is) (record {
        model = h.model;
        shown = record { logged = omega arith; not_older = low; is = h.newest };
        fault = h.first;
      })

  committed_is : at.shown ≤ length log → (outcome : Outcome) (after : List LogEntry) → IsCommittedNow opening log session at outcome after → IsOutcome opening after session at command.Commit outcome
  committed_is low outcome after h =
      let there : IsOutcome opening (log ++ entry_at session at ∷ []) session at command.Commit (committed (suc (length log))) = record {
        place = length log;
        next = refl;
        logged = at_end log (entry_at session at) [];
        newer = omega (arith, low);
      } in
      subst (λ (l : List LogEntry). IsOutcome opening l session at command.Commit outcome) (sym h.logged)
      (subst (λ (o : Outcome). IsOutcome opening (log ++ entry_at session at ∷ []) session at command.Commit o) (sym h.is) there)

  -- what a line comes to is lawful by the log after it
  pub lawful_outcome : at.shown ≤ length log → (c : Command) (outcome : Outcome) (after : List LogEntry) → IsDone opening log session at c outcome after → IsOutcome opening after session at c outcome
  lawful_outcome low c outcome after h = go c h where
    on : (c : Command) → IsOutcome opening log session at c outcome → after ≡ log → IsOutcome opening after session at c outcome
    on c is same = subst (λ (l : List LogEntry). IsOutcome opening l session at c outcome) (sym same) is

    go : (c : Command) → IsDone opening log session at c outcome after → IsOutcome opening after session at c outcome
    go c (inr passed) = on c (subst (λ (o : Outcome). IsOutcome opening log session at c o) (sym passed.0) (none_is c)) passed.1
    go (command.Ask q live) (inl h) = on (command.Ask q live) (asked_is low q live outcome h.0) h.1
    go (command.Replace de r) (inl h) = on (command.Replace de r) (inl h.0) h.1
    go (command.Add de r) (inl h) = on (command.Add de r) (inl h.0) h.1
    go (command.Drop de) (inl h) = on (command.Drop de) (inl h.0) h.1
    go command.Commit (inl (inl h)) = committed_is low outcome after h
    go command.Commit (inl (inr h)) = on command.Commit (refused_is low outcome after h) h.logged
    go (command.Bad f) (inl h) = on (command.Bad f) (inl h.0) h.1

  -- a line names no version that isn't made yet
  pub named_low : (c : Command) (outcome : Outcome) (after : List LogEntry) → IsDone opening log session at c outcome after → named_version outcome ≤ length after
  named_low c outcome after (inr passed) = low passed.0 where
    low : outcome ≡ no_memory → named_version outcome ≤ length after
    low is = (let none = ap named_version is in omega (arith, none))
  named_low (command.Ask q live) outcome after (inl h) =
      (let named = ap named_version h.0.is in let size = ap length h.1 in omega (arith, named, size))
  named_low (command.Replace de r) outcome after (inl h) = (let named = ap named_version h.0 in omega (arith, named))
  named_low (command.Add de r) outcome after (inl h) = (let named = ap named_version h.0 in omega (arith, named))
  named_low (command.Drop de) outcome after (inl h) = (let named = ap named_version h.0 in omega (arith, named))
  named_low command.Commit outcome after (inl (inl h)) =
      (let named = ap named_version h.is in let size = ap length h.logged in
      omega (arith, named, size, length-append log (entry_at session at ∷ [])))
  named_low command.Commit outcome after (inl (inr h)) =
      (let named = ap named_version h.is in let size = ap length h.logged in omega (arith, named, size))
  named_low (command.Bad f) outcome after (inl h) = (let named = ap named_version h.0 in omega (arith, named))

-- ---- where the sessions stand

pub stands_then : (standings : List Standing) (k s : ℕ) (at : Standing) → k < length standings → standing_of (set standings k at) s ≡ cond (k == s) at (standing_of standings s)
stands_then standings k s at within = go (k == s) refl where
  go : (b : Bool) → (k == s) ≡ b → standing_of (set standings k at) s ≡ cond b at (standing_of standings s)
  go true is =
      let same : k ≡ s = grind (arith, is) in
      subst (λ (n : ℕ). get_or (set standings k at) n at_start ≡ at) same (get_or-set_same standings k at at_start within)
  go false is = get_or-set_other standings k s at at_start (λ e. test_not k s is (sym e))

all_start : (n s : ℕ) → get_or (replicate n at_start) s at_start ≡ at_start
all_start zero s = refl
all_start (suc n) zero = refl
all_start (suc n) (suc s) = all_start n s

pub start_of_all : (s : ℕ) → standing_of all_at_start s ≡ at_start
start_of_all s = all_start (most_sessions + 1) s

abbrev pub AreShown : List Standing → List LogEntry → Type 0
AreShown standings log = (s : ℕ) → (standing_of standings s).shown ≤ length log

-- where each session stands after a line of one of them
abbrev pub stand_after : List Standing → ScriptLine → Outcome → List Standing
stand_after standings line outcome = set standings line.session (standing_after (standing_of standings line.session) line.command outcome)

pub sizes_stay : (standings : List Standing) (line : ScriptLine) (outcome : Outcome) → length standings ≡ most_sessions + 1 → length (stand_after standings line outcome) ≡ most_sessions + 1
sizes_stay standings line outcome size = length-set standings line.session (standing_after (standing_of standings line.session) line.command outcome) ∙ size

pub stand_is : (standings : List Standing) (line : ScriptLine) (outcome : Outcome) (s : ℕ) → length standings ≡ most_sessions + 1 → line.session ≤ most_sessions
    → standing_of (stand_after standings line outcome) s ≡ cond (line.session == s) (standing_after (standing_of standings line.session) line.command outcome) (standing_of standings s)
stand_is standings line outcome s size few =
    stands_then standings line.session s (standing_after (standing_of standings line.session) line.command outcome) (omega (arith, size, few))

module _ (opening : Model) where
  shown_then : (standings : List Standing) (log next : List LogEntry) (line : ScriptLine) (outcome : Outcome) → length standings ≡ most_sessions + 1 → line.session ≤ most_sessions → AreShown standings log
      → IsDone opening log line.session (standing_of standings line.session) line.command outcome next → AreShown (stand_after standings line outcome) next
  shown_then standings log next line outcome size few shown done s = go (line.session == s) (stand_is standings line outcome s size few) where
    at : Standing
    at = standing_of standings line.session

    longer : length log ≤ length next
    longer = let (rest, is) = what_follows opening log line.session at line.command outcome next (what_logged opening log line.session at line.command outcome next done) in
        let long = ap length is in omega (arith, long, length-append log rest)

    go : (b : Bool) → standing_of (stand_after standings line outcome) s ≡ cond b (standing_after at line.command outcome) (standing_of standings s) → (standing_of (stand_after standings line outcome) s).shown ≤ length next
    go true is =
        let is_shown : (standing_of (stand_after standings line outcome) s).shown ≡ max at.shown (named_version outcome) = ap (λ (x : Standing). x.shown) is in
        let low = shown line.session in
        let named = named_low opening log line.session at line.command outcome next done in
        omega (arith, is_shown, low, named, longer)
    go false is =
        let is_shown = ap (λ (x : Standing). x.shown) is in
        let low = shown s in
        omega (arith, is_shown, low, longer)

  -- ---- the log of a run

  pub run_longer : (standings : List Standing) (log : List LogEntry) (lines : List ScriptLine) (outcomes : List Outcome) (after : List LogEntry) → IsRunFrom opening standings log lines outcomes after → (rest : List LogEntry) × (after ≡ log ++ rest)
  run_longer standings log [] [] after same = ([], same ∙ sym (append-nil log))
  run_longer standings log [] (outcome ∷ outcomes) after h = absurd h
  run_longer standings log (line ∷ lines) [] after h = absurd h
  run_longer standings log (line ∷ lines) (outcome ∷ outcomes) after (next, done, run) =
      let at = standing_of standings line.session in
      let (one, is) = what_follows opening log line.session at line.command outcome next (what_logged opening log line.session at line.command outcome next done) in
      let (rest, also) = run_longer (stand_after standings line outcome) next lines outcomes after run in
      (one ++ rest, also ∙ ap (λ (l : List LogEntry). l ++ rest) is ∙ append_assoc log one rest)

  pub run_lawful : (standings : List Standing) (log : List LogEntry) (lines : List ScriptLine) (outcomes : List Outcome) (after : List LogEntry) → IsRunFrom opening standings log lines outcomes after → IsLawfulLog opening log → IsLawfulLog opening after
  run_lawful standings log [] [] after same lawful = subst (IsLawfulLog opening) (sym same) lawful
  run_lawful standings log [] (outcome ∷ outcomes) after h lawful = absurd h
  run_lawful standings log (line ∷ lines) [] after h lawful = absurd h
  run_lawful standings log (line ∷ lines) (outcome ∷ outcomes) after (next, done, run) lawful =
      let at = standing_of standings line.session in
      let logged = what_logged opening log line.session at line.command outcome next done in
      run_lawful (stand_after standings line outcome) next lines outcomes after run (stays_lawful opening log line.session at line.command outcome next logged lawful)

  -- ---- the lines of one session

  pub run_session : (s : ℕ) (standings : List Standing) (log : List LogEntry) (lines : List ScriptLine) (outcomes : List Outcome) (after : List LogEntry) → length standings ≡ most_sessions + 1 → AllByRecursion IsLawfulLine lines → AreShown standings log
      → IsRunFrom opening standings log lines outcomes after → IsSession opening after s (standing_of standings s) (session_lines lines s) (session_outcomes lines outcomes s)
  run_session s standings log [] [] after size few shown h = tt
  run_session s standings log [] (outcome ∷ outcomes) after size few shown h = absurd h
  run_session s standings log (line ∷ lines) [] after size few shown h = absurd h
  run_session s standings log (line ∷ lines) (outcome ∷ outcomes) after size few shown (next, done, run) =
      go (line.session == s) refl (stand_is standings line outcome s size few.0.0)
      (run_session s (stand_after standings line outcome) next lines outcomes after (sizes_stay standings line outcome size) few.1 (shown_then standings log next line outcome size few.0.0 shown done) run) where
        at : Standing
        at = standing_of standings line.session

        c : Command
        c = line.command

        lawful : IsOutcome opening after line.session at c outcome
        lawful =
            let (rest, is) = run_longer (stand_after standings line outcome) next lines outcomes after run in
            let there = lawful_outcome opening log line.session at (shown line.session) c outcome next done in
            subst (λ (l : List LogEntry). IsOutcome opening l line.session at c outcome) (sym is) (outcome_stays opening next rest line.session at c outcome there)

        go : (b : Bool) → (line.session == s) ≡ b → standing_of (stand_after standings line outcome) s ≡ cond b (standing_after at c outcome) (standing_of standings s)
            → IsSession opening after s (standing_of (stand_after standings line outcome) s) (session_lines lines s) (session_outcomes lines outcomes s)
            → IsSession opening after s (standing_of standings s) (cond b (c ∷ session_lines lines s) (session_lines lines s)) (cond b (outcome ∷ session_outcomes lines outcomes s) (session_outcomes lines outcomes s))
        go true is stands rest =
            let same : line.session ≡ s = grind (arith, is) in
            let others = subst (λ (x : Standing). IsSession opening after s x (session_lines lines s) (session_outcomes lines outcomes s)) stands rest in
            let here : IsOutcome opening after s (standing_of standings s) c outcome = subst (λ (n : ℕ). IsOutcome opening after n (standing_of standings n) c outcome) same lawful in
            let there : IsSession opening after s (standing_after (standing_of standings s) c outcome) (session_lines lines s) (session_outcomes lines outcomes s) =
            subst (λ (n : ℕ). IsSession opening after s (standing_after (standing_of standings n) c outcome) (session_lines lines s) (session_outcomes lines outcomes s)) same others in
            (here, there)
        go false is stands rest = subst (λ (x : Standing). IsSession opening after s x (session_lines lines s) (session_outcomes lines outcomes s)) stands rest

-- ---- the entries

-- the entry at a place is that of a commit among the lines that are left
record IsMadeFrom (standings : List Standing) (lines : List ScriptLine) (outcomes : List Outcome) (place : ℕ) (entry : LogEntry) : Type 0 where
  few : entry.session ≤ most_sessions
  commands : List Command
  replies : List Outcome
  rest : List Command
  others : List Outcome
  line_of : session_lines lines entry.session ≡ commands ++ command.Commit ∷ rest
  reply_to : session_outcomes lines outcomes entry.session ≡ replies ++ committed (suc place) ∷ others
  one_each : length commands ≡ length replies
  is : entry ≡ entry_at entry.session (standing_from (standing_of standings entry.session) commands replies)

made_later : (standings : List Standing) (line : ScriptLine) (lines : List ScriptLine) (outcome : Outcome) (outcomes : List Outcome) (place : ℕ) (entry : LogEntry) → length standings ≡ most_sessions + 1 → line.session ≤ most_sessions
    → IsMadeFrom (stand_after standings line outcome) lines outcomes place entry → IsMadeFrom standings (line ∷ lines) (outcome ∷ outcomes) place entry
made_later standings line lines outcome outcomes place entry size few made = go (line.session == s) refl (stand_is standings line outcome s size few) where
  s : ℕ
  s = entry.session

  c : Command
  c = line.command

  at : Standing
  at = standing_of standings line.session

  go : (b : Bool) → (line.session == s) ≡ b → standing_of (stand_after standings line outcome) s ≡ cond b (standing_after at c outcome) (standing_of standings s)
      → IsMadeFrom standings (line ∷ lines) (outcome ∷ outcomes) place entry
  go true test stands =
      let same : line.session ≡ s = grind (arith, test) in
      record {
        few = made.few;
        commands = c ∷ made.commands;
        replies = outcome ∷ made.replies;
        rest = made.rest;
        others = made.others;
        line_of = ap (λ (b : Bool). cond b (c ∷ session_lines lines s) (session_lines lines s)) test ∙ ap (λ (l : List Command). c ∷ l) made.line_of;
        reply_to = ap (λ (b : Bool). cond b (outcome ∷ session_outcomes lines outcomes s) (session_outcomes lines outcomes s)) test ∙ ap (λ (l : List Outcome). outcome ∷ l) made.reply_to;
        one_each = ap suc made.one_each;
        is = made.is ∙ ap (λ (x : Standing). entry_at s (standing_from x made.commands made.replies)) (stands ∙ ap (λ (n : ℕ). standing_after (standing_of standings n) c outcome) same);
      }
  go false test stands = record {
    few = made.few;
    commands = made.commands;
    replies = made.replies;
    rest = made.rest;
    others = made.others;
    line_of = ap (λ (b : Bool). cond b (c ∷ session_lines lines s) (session_lines lines s)) test ∙ made.line_of;
    reply_to = ap (λ (b : Bool). cond b (outcome ∷ session_outcomes lines outcomes s) (session_outcomes lines outcomes s)) test ∙ made.reply_to;
    one_each = made.one_each;
    is = made.is ∙ ap (λ (x : Standing). entry_at s (standing_from x made.commands made.replies)) stands;
  }

made_here : (standings : List Standing) (line : ScriptLine) (lines : List ScriptLine) (outcome : Outcome) (outcomes : List Outcome) (place : ℕ) (entry : LogEntry) → line.session ≤ most_sessions
    → line.command ≡ command.Commit → outcome ≡ committed (suc place) → entry ≡ entry_at line.session (standing_of standings line.session) → IsMadeFrom standings (line ∷ lines) (outcome ∷ outcomes) place entry
made_here standings line lines outcome outcomes place entry few commits came is = record {
  few = subst (λ (n : ℕ). n ≤ most_sessions) (sym one) few;
  commands = [];
  replies = [];
  rest = session_lines lines s;
  others = session_outcomes lines outcomes s;
  line_of = ap (λ (b : Bool). cond b (line.command ∷ session_lines lines s) (session_lines lines s)) test ∙ ap (λ (c : Command). c ∷ session_lines lines s) commits;
  reply_to = ap (λ (b : Bool). cond b (outcome ∷ session_outcomes lines outcomes s) (session_outcomes lines outcomes s)) test ∙ ap (λ (o : Outcome). o ∷ session_outcomes lines outcomes s) came;
  one_each = refl;
  is = is ∙ ap (λ (n : ℕ). entry_at n (standing_of standings n)) (sym one);
} where
  s : ℕ
  s = entry.session

  one : s ≡ line.session
  one = ap (λ (e : LogEntry). e.session) is

  test : (line.session == s) ≡ true
  test = eq-eqb line.session s (sym one)

-- the entry that a line adds is the one at its place in the end
added_entry : (opening : Model) (log next after rest : List LogEntry) (session : ℕ) (at : Standing) (outcome : Outcome) (entry : LogEntry) → after ≡ next ++ rest → IsCommittedNow opening log session at outcome next
    → slice_get after (length log) ≡ Some entry → entry ≡ entry_at session at
added_entry opening log next after rest session at outcome entry is h stands =
    let one = entry_at session at in
    let whole : after ≡ log ++ one ∷ rest = is ∙ ap (λ (l : List LogEntry). l ++ rest) h.logged ∙ append_assoc log (one ∷ []) rest in
    let there = subst (λ (l : List LogEntry). slice_get l (length log) ≡ Some entry) whole stands in
    same_entry entry one (sym there ∙ at_end log one rest)

module _ (opening : Model) where
  run_made : (standings : List Standing) (log : List LogEntry) (lines : List ScriptLine) (outcomes : List Outcome) (after : List LogEntry) (place : ℕ) (entry : LogEntry) → length standings ≡ most_sessions + 1 → AllByRecursion IsLawfulLine lines
      → IsRunFrom opening standings log lines outcomes after → slice_get after place ≡ Some entry → length log ≤ place → IsMadeFrom standings lines outcomes place entry
  run_made standings log [] [] after place entry size few same stands later =
      let within = slice_get_within after place entry stands in let long = ap length same in absurd (omega (arith, within, long, later))
  run_made standings log [] (outcome ∷ outcomes) after place entry size few h stands later = absurd h
  run_made standings log (line ∷ lines) [] after place entry size few h stands later = absurd h
  run_made standings log (line ∷ lines) (outcome ∷ outcomes) after place entry size few (next, done, run) stands later =
      go (what_logged opening log line.session at line.command outcome next done) (run_longer opening (stand_after standings line outcome) next lines outcomes after run)
      (λ l. made_later standings line lines outcome outcomes place entry size few.0.0
      (run_made (stand_after standings line outcome) next lines outcomes after place entry (sizes_stay standings line outcome size) few.1 run stands l)) where
        at : Standing
        at = standing_of standings line.session

        go : Logged opening log line.session at line.command outcome next → ((rest : List LogEntry) × (after ≡ next ++ rest)) → (length next ≤ place → IsMadeFrom standings (line ∷ lines) (outcome ∷ outcomes) place entry)
            → IsMadeFrom standings (line ∷ lines) (outcome ∷ outcomes) place entry
        go (kept same) (rest, is) again = again (let long = ap length same in omega (arith, long, later))
        go (grown commits h) (rest, is) again = elim (cases_eq (length log) place) [
          | inl e ↦ made_here standings line lines outcome outcomes place entry few.0.0 commits (h.is ∙ ap (λ (n : ℕ). committed (suc n)) e)
              (added_entry opening log next after rest line.session at outcome entry is h (subst (λ (n : ℕ). slice_get after n ≡ Some entry) (sym e) stands))
          | inr apart ↦ again (let long = ap length h.logged in omega (arith, long, later, apart, length-append log (entry_at line.session at ∷ [])))
        ]

pub line_rises : (at : Standing) (commands : List Command) (outcomes : List Outcome) → at.line ≤ (standing_from at commands outcomes).line
line_rises at [] outcomes = omega arith
line_rises at (c ∷ commands) [] = omega arith
line_rises at (c ∷ commands) (outcome ∷ outcomes) =
    let more = line_rises (standing_after at c outcome) commands outcomes in omega (arith, more)

made_no_sooner : (standings : List Standing) (lines : List ScriptLine) (outcomes : List Outcome) (place : ℕ) (entry : LogEntry) → IsMadeFrom standings lines outcomes place entry → (standing_of standings entry.session).line ≤ entry.line
made_no_sooner standings lines outcomes place entry made =
    let line = ap (λ (e : LogEntry). e.line) made.is in
    let rises = line_rises (standing_of standings entry.session) made.commands made.replies in
    omega (arith, line, rises)

module _ (opening : Model) where
  run_order : (standings : List Standing) (log : List LogEntry) (lines : List ScriptLine) (outcomes : List Outcome) (after : List LogEntry) (first second : ℕ) (a b : LogEntry) → length standings ≡ most_sessions + 1 → AllByRecursion IsLawfulLine lines
      → IsRunFrom opening standings log lines outcomes after → slice_get after first ≡ Some a → slice_get after second ≡ Some b → a.session ≡ b.session → length log ≤ first → first < second → a.line < b.line
  run_order standings log [] [] after first second a b size few same stands then one later lt =
      let within = slice_get_within after first a stands in let long = ap length same in absurd (omega (arith, within, long, later))
  run_order standings log [] (outcome ∷ outcomes) after first second a b size few h stands then one later lt = absurd h
  run_order standings log (line ∷ lines) [] after first second a b size few h stands then one later lt = absurd h
  run_order standings log (line ∷ lines) (outcome ∷ outcomes) after first second a b size few (next, done, run) stands then one later lt =
      go (what_logged opening log line.session at line.command outcome next done) (run_longer opening others next lines outcomes after run)
      (λ l. run_order others next lines outcomes after first second a b (sizes_stay standings line outcome size) few.1 run stands then one l lt) where
        at : Standing
        at = standing_of standings line.session

        others : List Standing
        others = stand_after standings line outcome

        go : Logged opening log line.session at line.command outcome next → ((rest : List LogEntry) × (after ≡ next ++ rest)) → (length next ≤ first → a.line < b.line) → a.line < b.line
        go (kept same) (rest, is) again = again (let long = ap length same in omega (arith, long, later))
        go (grown commits h) (rest, is) again = elim (cases_eq (length log) first) [
          | inl e ↦
              let added = added_entry opening log next after rest line.session at outcome a is h (subst (λ (n : ℕ). slice_get after n ≡ Some a) (sym e) stands) in
              let long = ap length h.logged in
              let past : length next ≤ second = omega (arith, long, lt, e, length-append log (entry_at line.session at ∷ [])) in
              let made = run_made opening others next lines outcomes after second b (sizes_stay standings line outcome size) few.1 run then past in
              let sooner = made_no_sooner others lines outcomes second b made in
              let same : line.session ≡ b.session = sym (ap (λ (x : LogEntry). x.session) added) ∙ one in
              let stood : standing_of others b.session ≡ standing_after at line.command outcome =
              stand_is standings line outcome b.session size few.0.0 ∙ ap (λ (t : Bool). cond t (standing_after at line.command outcome) (standing_of standings b.session)) (eq-eqb line.session b.session same) in
              let line_then : (standing_of others b.session).line ≡ suc at.line = ap (λ (x : Standing). x.line) stood in
              let line_now : a.line ≡ at.line = ap (λ (x : LogEntry). x.line) added in
              omega (arith, sooner, line_then, line_now)
          | inr apart ↦ again (let long = ap length h.logged in omega (arith, long, later, apart, length-append log (entry_at line.session at ∷ [])))
        ]

-- ---- the whole

abbrev pub all_outcomes : List ScriptLine → List Outcome → List (List Outcome)
all_outcomes lines outcomes = map (session_outcomes lines outcomes) (range_with_len 0 (most_sessions + 1))

each_session : (opening : Model) (log : List LogEntry) (lines : List ScriptLine) (outcomes : List Outcome) (from count : ℕ)
    → ((s : ℕ) → IsSession opening log s at_start (session_lines lines s) (session_outcomes lines outcomes s))
    → AreSessions opening log from (map (session_lines lines) (range_with_len from count)) (map (session_outcomes lines outcomes) (range_with_len from count))
each_session opening log lines outcomes from zero each = tt
each_session opening log lines outcomes from (suc count) each = (
  each from,
  subst (λ (n : ℕ). AreSessions opening log n (map (session_lines lines) (range_with_len (from + 1) count)) (map (session_outcomes lines outcomes) (range_with_len (from + 1) count)))
      (omega arith) (each_session opening log lines outcomes (from + 1) count each),
)

pub one_of_each : {X : Type 0} (f : ℕ → X) (from count k at : ℕ) → k < count → from + k ≡ at → slice_get (map f (range_with_len from count)) k ≡ Some (f at)
one_of_each f from zero k at lt is = absurd (omega (arith, lt))
one_of_each f from (suc count) zero at lt is = ap (λ (n : ℕ). Some (f n)) (omega (arith, is))
one_of_each f from (suc count) (suc k) at lt is = one_of_each f (from + 1) count k at (omega (arith, lt)) (omega (arith, is))

pub runs_legal : (opening : Model) (lines : List ScriptLine) (outcomes : List Outcome) (log : List LogEntry) → AllByRecursion IsLawfulLine lines → IsRun opening lines outcomes log → IsLegal opening (sessions_of lines) log (transcripts_of lines outcomes)
runs_legal opening lines outcomes log few run = record {
  outcomes = all_outcomes lines outcomes;
  printed = sym (map-map (map reply_of) (session_outcomes lines outcomes) (range_with_len 0 (most_sessions + 1)));
  lawful = run_lawful opening all_at_start [] lines outcomes log run (record { last = opening; reached = opening_version });
  replies = each_session opening log lines outcomes 0 (most_sessions + 1) (λ s.
      subst (λ (x : Standing). IsSession opening log s x (session_lines lines s) (session_outcomes lines outcomes s)) (start_of_all s)
      (run_session opening s all_at_start [] lines outcomes log refl few none_shown run));
  entries = record { made = made; in_order = in_order };
} where
  none_shown : AreShown all_at_start []
  none_shown s = (let start = ap (λ (x : Standing). x.shown) (start_of_all s) in omega (arith, start))

  made : (place : ℕ) (entry : LogEntry) → slice_get log place ≡ Some entry → IsMade (sessions_of lines) (all_outcomes lines outcomes) (suc place) entry
  made place entry stands =
      let m = run_made opening all_at_start [] lines outcomes log place entry refl few run stands (omega arith) in
      let within : entry.session < most_sessions + 1 = let low = m.few in omega (arith, low) in
      record {
        commands = m.commands;
        replies = m.replies;
        rest = m.rest;
        others = m.others;
        line_of = one_of_each (session_lines lines) 0 (most_sessions + 1) entry.session entry.session within (omega arith) ∙ ap (λ (l : List Command). Some l) m.line_of;
        reply_to = one_of_each (session_outcomes lines outcomes) 0 (most_sessions + 1) entry.session entry.session within (omega arith) ∙ ap (λ (l : List Outcome). Some l) m.reply_to;
        one_each = m.one_each;
        is = m.is ∙ ap (λ (x : Standing). entry_at entry.session (standing_from x m.commands m.replies)) (start_of_all entry.session);
      }

  in_order : (first second : LogEntry) → IsBefore log first second → first.line < second.line
  in_order first second h = run_order opening all_at_start [] lines outcomes log h.place h.after first second refl few run h.first_is h.second_is h.of_one (omega arith) h.order
