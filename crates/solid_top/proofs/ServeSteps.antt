-- Passes that are split for sessions and met again, one after the other.
use Rattle.std.proofs.Common.{◌≡◌, ℕ, ◌+◌, ◌<◌, ◌≤◌, List, [], ◌∷◌, ◌++◌, length, map, max, Some, Result, Ok, Err, IfOk, All, refl, sym, ap, subst, ◌∙◌, append-nil, append_assoc, arith}
use Rattle.std.specs.declared.alloc.AllocError.{AllocError}
use Rattle.std.proofs.Math.Nat.{le-max_left, le-max_right}
use Rattle.std.proofs.lemmas.List.{length-append, length-map, map-append}
use mathlib.Core.List.{IsPrefix}
use Rattle.solid_base.specs.declared.entities.Model.{Model}
use Rattle.solid_base.specs.declared.replies.Reply.{Reply}
use Rattle.script_lines.specs.declared.commands.SessionLines.{SessionLines}
use Rattle.edit_core.specs.Versions.{LogEntry, IsLawfulLog}
use Rattle.ask_core.specs.Books.{BookFacts, IsBook}
use Rattle.turn_book.specs.Passes.{TurnFacts, PassFacts, IsPassOf, IsIdle}
use Rattle.solid_desk.specs.Turns.{IsServedOver}
use Rattle.solid_top.specs.declared.serve.Job.{Job}
use Rattle.solid_top.specs.declared.serve.Done.{Done}
use Rattle.solid_top.specs.declared.transcripts.Served.{Served}
use Rattle.solid_top.specs.Serving.{IsLawfulSession, IsReady, HasRun, IsServedBy, AreServedBy}
use Rattle.solid_top.proofs.ServeLaws.{all_cons, all_push, all_by_more, served_more}

abbrev Pass : Type 0
Pass = PassFacts Model LogEntry

abbrev pub lines_of_jobs : List Job → List SessionLines
lines_of_jobs jobs = map (λ (j : Job). j.lines) jobs

abbrev pub lines_of_done : List Done → List SessionLines
lines_of_done done = map (λ (d : Done). d.lines) done

-- ---- a pass for each session

-- the sessions before the rest have each a pass of their own
pub record JobsSoFar (turn : TurnFacts Model) (first : Pass) (sessions : List SessionLines) (pass : Pass) (jobs : List Job) (rest : List SessionLines) : Type 0 where
  pub of_turn : IsPassOf turn pass
  pub idle : IsIdle pass
  pub same_made : pass.made ≡ first.made
  pub parts : pass.parts + length jobs ≡ first.parts
  pub ready : All (IsReady turn) jobs
  pub lines : lines_of_jobs jobs ++ rest ≡ sessions
  pub lawful : All IsLawfulSession rest

none_ready : (turn : TurnFacts Model) → All (IsReady turn) []
none_ready turn k d lt = absurd (omega (arith, lt))

pub jobs_none : (turn : TurnFacts Model) (pass : Pass) (sessions : List SessionLines) (jobs : List Job) (rest : List SessionLines) → IsPassOf turn pass → IsIdle pass → All IsLawfulSession sessions
    → jobs ≡ [] → rest ≡ sessions → JobsSoFar turn pass sessions pass jobs rest
jobs_none turn pass sessions jobs rest of idle lawful empty all = record {
  of_turn = of;
  idle = idle;
  same_made = refl;
  parts = let size = ap (length {A = Job}) empty in omega (arith, size);
  ready = subst (λ (js : List Job). All (IsReady turn) js) (sym empty) (none_ready turn);
  lines = ap (λ (js : List Job). lines_of_jobs js ++ rest) empty ∙ all;
  lawful = subst (λ (ss : List SessionLines). All IsLawfulSession ss) (sym all) lawful;
}

module _ (turn : TurnFacts Model) (first : Pass) (sessions : List SessionLines) (pass : Pass) (jobs : List Job) (rest left : List SessionLines) (s : SessionLines) (here : JobsSoFar turn first sessions pass jobs rest) (next : rest ≡ s ∷ left) where
  pub room_to_split : length sessions < first.parts → 2 ≤ pass.parts
  room_to_split room =
      let size = ap (length {A = SessionLines}) here.lines in
      let one = ap (length {A = SessionLines}) next in
      let parts = here.parts in
      omega (arith, size, one, parts, room, length-append (lines_of_jobs jobs) rest, length-map jobs (λ (j : Job). j.lines))

  pub job_more : (after own : Pass) (more : List Job) → IsPassOf turn after → IsIdle after → after.made ≡ pass.made → after.parts + 1 ≡ pass.parts → IsPassOf turn own → IsIdle own → own.made ≡ 0 → own.parts ≡ 1
      → more ≡ jobs ++ record { lines = s; pass = own } ∷ [] → JobsSoFar turn first sessions after more left
  job_more after own more of idle made parts own_of own_idle own_made own_parts added =
      let (lawful, others) = all_cons IsLawfulSession s left (subst (λ (ss : List SessionLines). All IsLawfulSession ss) next here.lawful) in
      let job : Job = record { lines = s; pass = own } in
      let ready : IsReady turn job = record { of_turn = own_of; idle = own_idle; one_part = own_parts; nothing_made = own_made; lines = lawful } in
      let size = ap (length {A = Job}) added in
      let before = here.parts in record {
        of_turn = of;
        idle = idle;
        same_made = made ∙ here.same_made;
        parts = omega (arith, size, before, parts, length-append jobs (job ∷ []));
        ready = subst (λ (js : List Job). All (IsReady turn) js) (sym added) (all_push (IsReady turn) jobs job here.ready ready);
        lines =
            ap (λ (js : List Job). lines_of_jobs js ++ left) added ∙ ap (λ (ss : List SessionLines). ss ++ left) (map-append (λ (j : Job). j.lines) jobs (job ∷ []))
            ∙ append_assoc (lines_of_jobs jobs) (s ∷ []) left ∙ ap (λ (ss : List SessionLines). lines_of_jobs jobs ++ ss) (sym next) ∙ here.lines;
        lawful = others;
      }

pub jobs_all : (turn : TurnFacts Model) (first : Pass) (sessions : List SessionLines) (pass : Pass) (jobs : List Job) (rest : List SessionLines) → JobsSoFar turn first sessions pass jobs rest → rest ≡ []
    → lines_of_jobs jobs ≡ sessions
jobs_all turn first sessions pass jobs rest here none = sym (append-nil (lines_of_jobs jobs)) ∙ ap (λ (ss : List SessionLines). lines_of_jobs jobs ++ ss) (sym none) ∙ here.lines

-- ---- a session runs

-- what a session came to that had made nothing before
pub has_run : (turn : TurnFacts Model) (old new : Pass) (s : SessionLines) (result : Result (List Reply) AllocError) → old.made ≡ 0
    → IfOk result (λ replies. (opening : Model) → turn.opening ≡ Some opening → IsServedOver old new opening s.session s.commands replies)
    → IfOk result (λ replies. (opening : Model) → turn.opening ≡ Some opening → IsServedBy opening new.front new.seen new.made s replies)
has_run turn old new s (Err e) nothing served = tt
has_run turn old new s (Ok replies) nothing served = λ opening same. let h = served opening same in let made = h.made in record {
  outcomes = h.outcomes;
  printed = h.printed;
  may = h.may;
  count = omega (arith, made, nothing);
}

-- ---- the passes come back

-- the sessions before the rest are met, and what they came to is known
pub record MetSoFar (turn : TurnFacts Model) (first : Pass) (done : List Done) (pass : Pass) (served : List Served) (rest : List Done) : Type 0 where
  pub of_turn : IsPassOf turn pass
  pub idle : IsIdle pass
  pub parts : pass.parts ≡ first.parts + length served
  pub sizes : length served + length rest ≡ length done
  pub before : List SessionLines
  pub lines : before ++ lines_of_done rest ≡ lines_of_done done
  pub met : (opening : Model) → turn.opening ≡ Some opening → AreServedBy opening pass.front pass.seen pass.made before served
  pub ran : All (HasRun turn) rest

pub met_none : (turn : TurnFacts Model) (pass : Pass) (done rest : List Done) (served : List Served) → IsPassOf turn pass → IsIdle pass → pass.made ≡ 0 → All (HasRun turn) done → served ≡ [] → rest ≡ done
    → MetSoFar turn pass done pass served rest
met_none turn pass done rest served of idle nothing ran empty all = let size = ap (length {A = Served}) empty in let whole = ap (length {A = Done}) all in record {
  of_turn = of;
  idle = idle;
  parts = omega (arith, size);
  sizes = omega (arith, size, whole);
  before = [];
  lines = ap lines_of_done all;
  met = λ opening same. subst (λ (ss : List Served). AreServedBy opening pass.front pass.seen pass.made [] ss) (sym empty) nothing;
  ran = subst (λ (ds : List Done). All (HasRun turn) ds) (sym all) ran;
}

if_ok_read : (turn : TurnFacts Model) (one : Done) (replies : List Reply) → HasRun turn one → one.replies ≡ Ok replies
    → (opening : Model) → turn.opening ≡ Some opening → IsServedBy opening one.pass.front one.pass.seen one.pass.made one.lines replies
if_ok_read turn one replies ran is =
    subst (λ (r : Result (List Reply) AllocError). IfOk r (λ rs. (opening : Model) → turn.opening ≡ Some opening → IsServedBy opening one.pass.front one.pass.seen one.pass.made one.lines rs)) is ran.served

module _ (turn : TurnFacts Model) (first : Pass) (done : List Done) (pass : Pass) (served : List Served) (rest left : List Done) (one : Done) (here : MetSoFar turn first done pass served rest) (next : rest ≡ one ∷ left) where
  pub next_ran : HasRun turn one × All (HasRun turn) left
  next_ran = all_cons (HasRun turn) one left (subst (λ (ds : List Done). All (HasRun turn) ds) next here.ran)

  pub met_more : (after : Pass) (replies : List Reply) (more : List Served) → IsPassOf turn after → IsIdle after → IsPrefix pass.front after.front → IsPrefix one.pass.front after.front → after.seen ≡ max pass.seen one.pass.seen
      → after.made ≡ pass.made + one.pass.made → after.parts ≡ pass.parts + one.pass.parts → one.replies ≡ Ok replies → more ≡ served ++ record { session = one.lines.session; replies = replies } ∷ []
      → MetSoFar turn first done after more left
  met_more after replies more of idle goes_on from_other seen made parts is added =
      let (ran, others) = next_ran in
      let last : Served = record { session = one.lines.session; replies = replies } in
      let size = ap (length {A = Served}) added in
      let whole = ap (length {A = Done}) next in
      let part = ran.one_part in
      let before = here.parts in
      let all = here.sizes in
      let less : pass.seen ≤ after.seen = omega (arith, seen, le-max_left pass.seen one.pass.seen) in
      let less_too : one.pass.seen ≤ after.seen = omega (arith, seen, le-max_right pass.seen one.pass.seen) in record {
        of_turn = of;
        idle = idle;
        parts = omega (arith, size, parts, part, before, length-append served (last ∷ []));
        sizes = omega (arith, size, whole, all, length-append served (last ∷ []));
        before = here.before ++ one.lines ∷ [];
        lines = append_assoc here.before (one.lines ∷ []) (lines_of_done left) ∙ ap (λ (ds : List Done). here.before ++ lines_of_done ds) (sym next) ∙ here.lines;
        met = λ opening same.
            subst (λ (z : ℕ × List Served). AreServedBy opening after.front after.seen z.0 (here.before ++ one.lines ∷ []) z.1) (λ i. (sym made i, sym added i))
            (served_more opening pass.front one.pass.front after.front pass.seen one.pass.seen after.seen pass.made one.pass.made here.before served one.lines last refl goes_on from_other less less_too
            (here.met opening same) (if_ok_read turn one replies ran is opening same));
        ran = others;
      }

pub met_all : (turn : TurnFacts Model) (first : Pass) (done : List Done) (pass : Pass) (served : List Served) (rest : List Done) → MetSoFar turn first done pass served rest → rest ≡ []
    → (opening : Model) → turn.opening ≡ Some opening → AreServedBy opening pass.front pass.seen pass.made (lines_of_done done) served
met_all turn first done pass served rest here none opening same =
    let lines : here.before ≡ lines_of_done done = sym (append-nil here.before) ∙ ap (λ (ds : List Done). here.before ++ lines_of_done ds) (sym none) ∙ here.lines in
    subst (λ (ss : List SessionLines). AreServedBy opening pass.front pass.seen pass.made ss served) lines (here.met opening same)

pub met_parts : (turn : TurnFacts Model) (first : Pass) (done : List Done) (pass : Pass) (served : List Served) (rest : List Done) → MetSoFar turn first done pass served rest → rest ≡ []
    → pass.parts ≡ first.parts + length done
met_parts turn first done pass served rest here none = let size = ap (length {A = Done}) none in let parts = here.parts in let all = here.sizes in omega (arith, size, parts, all)

-- ---- the log at the end

pub served_end : (opening : Model) (front log : List LogEntry) (seen made : ℕ) (sessions : List SessionLines) (served : List Served) → IsPrefix front log → seen ≤ length log → length log ≡ made
    → AreServedBy opening front seen made sessions served → AreServedBy opening log (length log) (length log) sessions served
served_end opening front log seen made sessions served begins long all h =
    subst (λ (n : ℕ). AreServedBy opening log (length log) n sessions served) (sym all) (all_by_more opening front log seen (length log) made sessions served begins long h)

pub book_lawful : (book : BookFacts) (opening : Model) → IsBook book → Some book.opening ≡ Some opening → IsLawfulLog opening book.log
book_lawful book opening is same =
    let one : book.opening ≡ opening = cc in
    subst (λ (m : Model). IsLawfulLog m book.log) one (record { last = book.table.model; reached = is.version.newest })
