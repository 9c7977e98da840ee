-- Sessions that are served side by side: what they are given, and that what they come to is lawful.
use Rattle.std.proofs.Common.{◌≡◌, ℕ, zero, suc, ◌+◌, ◌<◌, ◌≤◌, ◌^◌, ◌==◌, ◌&&◌, Bool, true, false, cond, List, [], ◌∷◌, ◌++◌, length, map, drop, codes, decimal, slice_index_or, All, refl, sym, ap, subst, ◌∙◌, add-one, append-nil, arith}
use Rattle.std.proofs.lemmas.List.{length-map}
use Rattle.std.proofs.lemmas.List.FromFn.{length-range_with_len}
use Rattle.std.proofs.lemmas.List.Elements.{All-append}
use Rattle.std.specs.List.{AllByRecursion, filter, range_with_len}
use mathlib.Core.List.{IsPrefix}
use Rattle.solid_base.specs.declared.entities.Model.{Model}
use Rattle.solid_base.specs.declared.replies.Reply.{Reply}
use Rattle.solid_base.proofs.Slices.{prefix_trans}
use Rattle.iges_file.specs.Files.{Reads}
use Rattle.iges_file.proofs.OneOutcome.{never_both}
use Rattle.script_lines.specs.declared.commands.Command.{Command}
use Rattle.script_lines.specs.declared.commands.ScriptLine.{ScriptLine}
use Rattle.script_lines.specs.declared.commands.SessionLines.{SessionLines}
use Rattle.script_lines.specs.Grammar.{most_sessions}
use Rattle.script_lines.specs.Lines.{lines_of, kept_lines, is_kept, put_in_front, begins_with_feed}
use Rattle.script_lines.specs.Scripts.{AreLines, IsScript, IsLawfulCommand, IsLawfulLine, HasRecordWithin, HaveRecordsWithin}
use Rattle.script_lines.specs.Sessions.{commands_of, session_by, all_sessions, has_line, has_some}
use Rattle.script_lines.specs.Sessions as script
use Rattle.edit_core.specs.Versions.{LogEntry, IsLawfulLog}
use Rattle.solid_desk.specs.Legal.{IsSession, AreSessions}
use Rattle.solid_desk.specs.Outcomes.{Outcome, reply_of}
use Rattle.solid_desk.specs.Sessions.{session_lines, sessions_of, at_start}
use Rattle.solid_desk.specs.SideBySide.{all_committed_count}
use Rattle.solid_desk.proofs.LegalByCount.{legal_by_count}
use Rattle.solid_top.specs.declared.transcripts.Served.{Served}
use Rattle.solid_top.specs.Output.{log_text, session_text, sessions_text}
use Rattle.solid_top.specs.Serve.{IsServeOutput}
use Rattle.solid_top.specs.Serving.{IsLawfulSession, IsServedBy, AreServedBy, served_text, whole_text}
use Rattle.solid_top.specs.TopFaults.{IsRefusal}
use Rattle.solid_top.proofs.Meaning.{all_within_more, commands_lawful, session_all}

-- ---- lists

pub all_one : {A : Type 0} (P : A → Type 0) (x : A) → P x → All P (x ∷ [])
all_one P x h zero d lt = h
all_one P x h (suc k) d lt = absurd (omega (arith, lt))

pub all_push : {A : Type 0} (P : A → Type 0) (xs : List A) (x : A) → All P xs → P x → All P (xs ++ x ∷ [])
all_push P xs x all h = All-append P xs (x ∷ []) all (all_one P x h)

pub all_cons : {A : Type 0} (P : A → Type 0) (x : A) (xs : List A) → All P (x ∷ xs) → P x × All P xs
all_cons P x xs h = (h 0 x (omega arith), λ k d lt. h (suc k) d (omega (arith, lt)))

at_each : {A : Type 0} (P : A → Type 0) (xs : List A) → AllByRecursion P xs → All P xs
at_each P [] all k d lt = absurd (omega (arith, lt))
at_each P (x ∷ xs) all zero d lt = all.0
at_each P (x ∷ xs) all (suc k) d lt = at_each P xs all.1 k d (omega (arith, lt))

filter_few : {A : Type 0} (p : A → Bool) (xs : List A) → length (filter p xs) ≤ length xs
filter_few p [] = omega arith
filter_few p (x ∷ xs) = go (p x) (filter_few p xs) where
  go : (v : Bool) → length (filter p xs) ≤ length xs → length (cond v (x ∷ filter p xs) (filter p xs)) ≤ length (x ∷ xs)
  go true h = omega (arith, h)
  go false h = omega (arith, h)

filter_all : {A : Type 0} (P : A → Type 0) (p : A → Bool) (xs : List A) → AllByRecursion P xs → AllByRecursion P (filter p xs)
filter_all P p [] h = tt
filter_all P p (x ∷ xs) h = go (p x) (filter_all P p xs h.1) where
  go : (v : Bool) → AllByRecursion P (filter p xs) → AllByRecursion P (cond v (x ∷ filter p xs) (filter p xs))
  go true all = (h.0, all)
  go false all = all

map_all : {A B : Type 0} (P : B → Type 0) (f : A → B) → ((x : A) → P (f x)) → (xs : List A) → AllByRecursion P (map f xs)
map_all P f each [] = tt
map_all P f each (x ∷ xs) = (each x, map_all P f each xs)

-- two lists whose items have the same images at each place
pub same_images : {A B C : Type 0} (f : A → C) (g : B → C) (xs : List A) (ys : List B) → length xs ≡ length ys
    → ((k : ℕ) (d : A) (e : B) → k < length ys → f (slice_index_or xs k d) ≡ g (slice_index_or ys k e)) → map f xs ≡ map g ys
same_images f g [] [] size same = refl
same_images f g [] (y ∷ ys) size same = absurd (omega (arith, size))
same_images f g (x ∷ xs) [] size same = absurd (omega (arith, size))
same_images f g (x ∷ xs) (y ∷ ys) size same =
    let first : f x ≡ g y = same 0 x y (omega arith) in
    let others : map f xs ≡ map g ys = same_images f g xs ys (omega (arith, size)) (λ k d e lt. same (suc k) d e (omega (arith, lt))) in
    cc

-- ---- what the sessions are given

put_few : (b n : ℕ) (lines : List (List ℕ)) → length lines ≤ n → length (put_in_front b lines) ≤ suc n
put_few b n [] h = omega arith
put_few b n (line ∷ lines) h = omega (arith, h)

first_few : (b n : ℕ) (lines : List (List ℕ)) (feed return : Bool) → length lines ≤ n → length (cond feed ([] ∷ lines) (cond return lines (put_in_front b lines))) ≤ suc n
first_few b n lines true return h = omega (arith, h)
first_few b n lines false true h = omega (arith, h)
first_few b n lines false false h = put_few b n lines h

lines_few : (bytes : List ℕ) → length (lines_of bytes) ≤ length bytes
unfolding lines_of
lines_few [] = omega arith
lines_few (b ∷ bs) = first_few b (length bs) (lines_of bs) (b == 10) ((b == 13) && begins_with_feed bs) (lines_few bs)

as_many : (lines : List (List ℕ)) (script : List ScriptLine) → AreLines lines script → length script ≡ length lines
as_many [] [] is = refl
as_many [] (s ∷ script) is = absurd is
as_many (line ∷ lines) [] is = absurd is
as_many (line ∷ lines) (s ∷ script) is = let more = as_many lines script is.1 in omega (arith, more)

-- a script has no more lines than bytes
pub script_few : (bytes : List ℕ) (lines : List ScriptLine) → IsScript bytes lines → length lines ≤ length bytes
script_few bytes lines is =
    let same = as_many (kept_lines bytes) lines is in
    let kept = filter_few is_kept (lines_of bytes) in
    let all = lines_few bytes in
    omega (arith, same, kept, all)

commands_same : (lines : List ScriptLine) (k : ℕ) → session_lines lines k ≡ commands_of lines k
commands_same [] k = refl
commands_same (l ∷ ls) k = ap (λ (cs : List Command). cond (l.session == k) (l.command ∷ cs) cs) (commands_same ls k)

commands_few : (lines : List ScriptLine) (k : ℕ) → length (commands_of lines k) ≤ length lines
commands_few [] k = omega arith
commands_few (l ∷ ls) k = go (l.session == k) (commands_few ls k) where
  go : (v : Bool) → length (commands_of ls k) ≤ length ls → length (cond v (l.command ∷ commands_of ls k) (commands_of ls k)) ≤ length (l ∷ ls)
  go true h = omega (arith, h)
  go false h = omega (arith, h)

session_lawful : (lines : List ScriptLine) → AllByRecursion IsLawfulLine lines → HaveRecordsWithin (2 ^ 25) lines → length lines < 2 ^ 32 → (k : ℕ) → IsLawfulSession (session_by lines k)
session_lawful lines all within few k = record {
  lawful = subst (λ (cs : List Command). AllByRecursion IsLawfulCommand cs) (commands_same lines k) (session_all IsLawfulCommand lines k (commands_lawful lines all));
  records_within = subst (λ (cs : List Command). AllByRecursion (HasRecordWithin (2 ^ 25)) cs) (commands_same lines k) (session_all (HasRecordWithin (2 ^ 25)) lines k within);
  few = let less = commands_few lines k in omega (arith, less, few);
}

pub sessions_lawful : (bytes : List ℕ) (lines : List ScriptLine) → length bytes ≤ 2 ^ 25 → IsScript bytes lines → AllByRecursion IsLawfulLine lines → HaveRecordsWithin (length bytes) lines
    → All IsLawfulSession (script.sessions_of lines)
sessions_lawful bytes lines short is all within =
    let count = script_few bytes lines is in
    let few : length lines < 2 ^ 32 = omega (arith, count, short) in
    let records = all_within_more (length bytes) (2 ^ 25) lines short within in
    at_each IsLawfulSession (script.sessions_of lines)
    (filter_all IsLawfulSession has_line (all_sessions lines) (map_all IsLawfulSession (session_by lines) (session_lawful lines all records few) (range_with_len 0 (most_sessions + 1))))

pub sessions_few : (lines : List ScriptLine) → length (script.sessions_of lines) ≤ 9
sessions_few lines =
    let kept = filter_few has_line (all_sessions lines) in
    omega (arith, kept, length-map (range_with_len 0 (most_sessions + 1)) (session_by lines), length-range_with_len 0 (most_sessions + 1))

-- ---- what they come to

pub by_more : (opening : Model) (front longer : List LogEntry) (seen later made : ℕ) (s : SessionLines) (replies : List Reply) → IsPrefix front longer → seen ≤ later
    → IsServedBy opening front seen made s replies → IsServedBy opening longer later made s replies
by_more opening front longer seen later made s replies goes_on more h = record {
  outcomes = h.outcomes;
  printed = h.printed;
  may = λ log begins long. h.may log (prefix_trans front longer log goes_on begins) (omega (arith, more, long));
  count = h.count;
}

pub all_by_more : (opening : Model) (front longer : List LogEntry) (seen later made : ℕ) (sessions : List SessionLines) (served : List Served) → IsPrefix front longer → seen ≤ later
    → AreServedBy opening front seen made sessions served → AreServedBy opening longer later made sessions served
all_by_more opening front longer seen later made [] [] goes_on more h = h
all_by_more opening front longer seen later made [] (one ∷ served) goes_on more h = absurd h
all_by_more opening front longer seen later made (s ∷ sessions) [] goes_on more h = absurd h
all_by_more opening front longer seen later made (s ∷ sessions) (one ∷ served) goes_on more (first, others, sum, number, h, rest) =
    (first, others, sum, number, by_more opening front longer seen later first s one.replies goes_on more h, all_by_more opening front longer seen later others sessions served goes_on more rest)

served_push : (opening : Model) (front : List LogEntry) (seen made more : ℕ) (sessions : List SessionLines) (served : List Served) (s : SessionLines) (one : Served) → one.session ≡ s.session
    → AreServedBy opening front seen made sessions served → IsServedBy opening front seen more s one.replies → AreServedBy opening front seen (made + more) (sessions ++ s ∷ []) (served ++ one ∷ [])
served_push opening front seen made more [] [] s one same h last = (more, 0, omega (arith, h), same, last, refl)
served_push opening front seen made more [] (x ∷ served) s one same h last = absurd h
served_push opening front seen made more (t ∷ sessions) [] s one same h last = absurd h
served_push opening front seen made more (t ∷ sessions) (x ∷ served) s one same (first, others, sum, number, h, rest) last =
    (first, others + more, omega (arith, sum), number, h, served_push opening front seen others more sessions served s one same rest last)

-- one session more, whose pass is met
pub served_more : (opening : Model) (front other longer : List LogEntry) (seen later most made more : ℕ) (sessions : List SessionLines) (served : List Served) (s : SessionLines) (one : Served) → one.session ≡ s.session
    → IsPrefix front longer → IsPrefix other longer → seen ≤ most → later ≤ most → AreServedBy opening front seen made sessions served → IsServedBy opening other later more s one.replies
    → AreServedBy opening longer most (made + more) (sessions ++ s ∷ []) (served ++ one ∷ [])
served_more opening front other longer seen later most made more sessions served s one same goes_on from_other less less_too h last =
    served_push opening longer most made more sessions served s one same (all_by_more opening front longer seen most made sessions served goes_on less h)
    (by_more opening other longer later most more s one.replies from_other less_too last)

-- ---- all sessions, also those without a line

module _ (opening : Model) (log : List LogEntry) (lines : List ScriptLine) where
  abbrev seen : ℕ
  seen = length log

  -- what the sessions with so many numbers from one on come to
  record AreAll (k n : ℕ) (served : List Served) (made : ℕ) : Type 0 where
    outcomes : List (List Outcome)
    sessions : AreSessions opening log k (map (session_lines lines) (range_with_len k n)) outcomes
    count : all_committed_count outcomes ≡ made
    text : sessions_text k (map (map reply_of) outcomes) ≡ served_text served

  abbrev with_lines : ℕ → ℕ → List SessionLines
  with_lines k n = filter has_line (map (session_by lines) (range_with_len k n))

  one_session : (n k : ℕ) (served : List Served) (made : ℕ) (cs : List Command) → cs ≡ session_lines lines k
      → ((served : List Served) (made : ℕ) → AreServedBy opening log seen made (with_lines (k + 1) n) served → AreAll (k + 1) n served made)
      → AreServedBy opening log seen made (cond (has_some cs) (record { session = k; commands = cs } ∷ with_lines (k + 1) n) (with_lines (k + 1) n)) served → AreAll k (suc n) served made
  one_session n k served made [] same others h =
      let rest = others served made h in record {
        outcomes = [] ∷ rest.outcomes;
        sessions = (
          subst (λ (cs : List Command). IsSession opening log k at_start cs []) same tt,
          subst (λ (j : ℕ). AreSessions opening log j (map (session_lines lines) (range_with_len (k + 1) n)) rest.outcomes) (add-one k) rest.sessions,
        );
        count = let sum = rest.count in omega (arith, sum);
        text = subst (λ (j : ℕ). sessions_text j (map (map reply_of) rest.outcomes) ≡ served_text served) (add-one k) rest.text;
      }
  one_session n k [] made (c ∷ cs) same others h = absurd h
  one_session n k (one ∷ served) made (c ∷ cs) same others (first, more, sum, number, here, h) =
      let rest = others served more h in
      let came = here.may log ([], append-nil log) (omega arith) in
      let replied : session_text k (map reply_of here.outcomes) ≡ session_text one.session one.replies =
      ap (λ (rs : List Reply). session_text k rs) (sym here.printed) ∙ ap (λ (j : ℕ). session_text j one.replies) (sym number) in
      let after : sessions_text (suc k) (map (map reply_of) rest.outcomes) ≡ served_text served =
      subst (λ (j : ℕ). sessions_text j (map (map reply_of) rest.outcomes) ≡ served_text served) (add-one k) rest.text in record {
        outcomes = here.outcomes ∷ rest.outcomes;
        sessions = (
          subst (λ (all : List Command). IsSession opening log k at_start all here.outcomes) same came,
          subst (λ (j : ℕ). AreSessions opening log j (map (session_lines lines) (range_with_len (k + 1) n)) rest.outcomes) (add-one k) rest.sessions,
        );
        count = let all = rest.count in let some = here.count in omega (arith, sum, all, some);
        text = ap (λ (t : List ℕ). t ++ sessions_text (suc k) (map (map reply_of) rest.outcomes)) replied ∙ ap (λ (t : List ℕ). session_text one.session one.replies ++ t) after;
      }

  all_from : (n k : ℕ) (served : List Served) (made : ℕ) → AreServedBy opening log seen made (with_lines k n) served → AreAll k n served made
  all_from zero k [] made h = record { outcomes = []; sessions = tt; count = sym h; text = refl }
  all_from zero k (one ∷ served) made h = absurd h
  all_from (suc n) k served made h = one_session n k served made (commands_of lines k) (sym (commands_same lines k)) (λ rs m. all_from n (k + 1) rs m) h

  pub served_output : (bytes text : List ℕ) (end : ℕ) (served : List Served) → Reads bytes opening end → IsScript (drop end bytes) lines → IsLawfulLog opening log
      → AreServedBy opening log seen seen (script.sessions_of lines) served → text ≡ whole_text log served → IsServeOutput bytes text
  served_output bytes text end served reads is lawful h printed =
      let all = all_from (most_sessions + 1) 0 served seen h in record {
        opening = opening;
        lines = lines;
        log = log;
        transcripts = map (map reply_of) all.outcomes;
        input = record { end = end; reads = reads; script = is };
        lawful = legal_by_count opening (sessions_of lines) all.outcomes log lawful all.sessions all.count;
        printed =
            printed ∙ ap (λ (t : List ℕ). codes "LOG " ++ (decimal (length log) ++ (codes "\n" ++ (log_text 1 log ++ (t ++ codes "END\n"))))) (sym all.text);
      }

-- no bytes have an output and are refused
pub served_or_refusal : (bytes a b : List ℕ) → IsServeOutput bytes a → IsRefusal bytes b → ⊥
served_or_refusal bytes a b h (f, faulty, e) = never_both bytes h.opening h.input.end f h.input.reads faulty
