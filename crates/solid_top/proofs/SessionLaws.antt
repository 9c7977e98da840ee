-- How the replies of the sessions are kept, and how their text is made of its parts.
use Rattle.std.proofs.Common.{◌≡◌, ◌≢◌, ℕ, zero, suc, ◌+◌, ◌<◌, ◌==◌, Bool, true, false, cond, List, [], ◌∷◌, ◌++◌, length, map, take, get_or, set, replicate, codes, decimal, refl, sym, ap, subst, ◌∙◌, arith, append_assoc, append-nil, length-append, length-set}
use Rattle.std.proofs.lemmas.List.{get_or-set_same, get_or-set_other, get_or-replicate, length-replicate, take_all}
use Rattle.std.specs.List.{flat_map, range_with_len}
use Rattle.solid_base.specs.declared.replies.Reply.{Reply}
use Rattle.script_lines.specs.declared.commands.Command.{Command}
use Rattle.script_lines.specs.declared.commands.ScriptLine.{ScriptLine}
use Rattle.script_lines.specs.Grammar.{most_sessions}
use Rattle.edit_core.specs.Versions.{LogEntry}
use Rattle.solid_desk.specs.InOrder.{session_outcomes, all_at_start, transcripts_of}
use Rattle.solid_desk.specs.Outcomes.{Outcome, reply_of, reply_text}
use Rattle.solid_desk.specs.Sessions.{Standing, at_start, standing_after}
use Rattle.solid_top.specs.declared.sessions.Transcript.{Transcript}
use Rattle.solid_top.specs.Output.{entry_text, log_text, session_text, sessions_text, output_text}
use Rattle.solid_top.specs.Sessions.{Keeps, KeepAll, KeepEach, no_replies, with_reply}
use Rattle.solid_top.proofs.StepLaws.{test_same, test_not}

-- ---- one session

texts_push : (replies : List Reply) (reply : Reply) → flat_map reply_text (replies ++ reply ∷ []) ≡ flat_map reply_text replies ++ reply_text reply
texts_push [] reply = append-nil (reply_text reply)
texts_push (r ∷ rs) reply =
    ap (λ t. reply_text r ++ t) (texts_push rs reply) ∙ sym (append_assoc (reply_text r) (flat_map reply_text rs) (reply_text reply))

keeps_push : (kept : Transcript) (replies : List Reply) (reply : Reply) (after : Standing) (text : List ℕ) → text ≡ reply_text reply → Keeps kept replies
    → Keeps (with_reply kept after text) (replies ++ reply ∷ [])
keeps_push kept replies reply after text is h =
    (omega (arith, h.0, length-append replies (reply ∷ [])), ap (λ t. kept.text ++ t) is ∙ ap (λ t. t ++ reply_text reply) h.1 ∙ sym (texts_push replies reply))

-- ---- what the lines of a session came to

cond_push : (c : Bool) (r : Outcome) (t all more : List Outcome) → all ≡ t ++ more → cond c (r ∷ all) all ≡ cond c (r ∷ t) t ++ more
cond_push true r t all more e = ap (λ xs. r ∷ xs) e
cond_push false r t all more e = e

-- one line more
pub outcomes_push : (lines : List ScriptLine) (outcomes : List Outcome) (line : ScriptLine) (outcome : Outcome) (k : ℕ) → length lines ≡ length outcomes
    → session_outcomes (lines ++ line ∷ []) (outcomes ++ outcome ∷ []) k ≡ session_outcomes lines outcomes k ++ cond (line.session == k) (outcome ∷ []) []
outcomes_push [] [] line outcome k h = refl
outcomes_push [] (r ∷ rs) line outcome k h = absurd (omega (arith, h))
outcomes_push (l ∷ ls) [] line outcome k h = absurd (omega (arith, h))
outcomes_push (l ∷ ls) (r ∷ rs) line outcome k h =
    cond_push (l.session == k) r (session_outcomes ls rs k) (session_outcomes (ls ++ line ∷ []) (rs ++ outcome ∷ []) k) (cond (line.session == k) (outcome ∷ []) [])
    (outcomes_push ls rs line outcome k (omega (arith, h)))

replies_push : (outcomes : List Outcome) (outcome : Outcome) → map reply_of (outcomes ++ outcome ∷ []) ≡ map reply_of outcomes ++ reply_of outcome ∷ []
replies_push [] outcome = refl
replies_push (o ∷ os) outcome = ap (λ (rs : List Reply). reply_of o ∷ rs) (replies_push os outcome)

outcomes_shorter : (lines : List ScriptLine) (outcomes : List Outcome) (k : ℕ) → length (map reply_of (session_outcomes lines outcomes k)) < length lines + 1
outcomes_shorter [] outcomes k = omega arith
outcomes_shorter (l ∷ ls) [] k = omega arith
outcomes_shorter (l ∷ ls) (r ∷ rs) k = go (l.session == k) (outcomes_shorter ls rs k) where
  go : (c : Bool) → length (map reply_of (session_outcomes ls rs k)) < length ls + 1 → length (map reply_of (cond c (r ∷ session_outcomes ls rs k) (session_outcomes ls rs k))) < length (l ∷ ls) + 1
  go true h = omega (arith, h)
  go false h = omega (arith, h)

-- ---- all sessions

-- where the sessions stand, and how many replies they have then
pub record StandEach (sessions : List Transcript) (standings : List Standing) : Type 0 where
  pub size : length standings ≡ most_sessions + 1
  pub stand : (k : ℕ) → k < most_sessions + 1 → (get_or sessions k no_replies).stands ≡ get_or standings k at_start
  pub numbers : (k : ℕ) → k < most_sessions + 1 → (get_or sessions k no_replies).stands.line ≡ suc (get_or sessions k no_replies).count

none_at : (sessions : List Transcript) (k : ℕ) → sessions ≡ replicate (most_sessions + 1) no_replies → k < most_sessions + 1 → get_or sessions k no_replies ≡ no_replies
none_at sessions k same within = ap (λ (s : List Transcript). get_or s k no_replies) same ∙ get_or-replicate (most_sessions + 1) k no_replies no_replies within

-- no session has a reply before the first line
pub keep_none : (sessions : List Transcript) → sessions ≡ replicate (most_sessions + 1) no_replies → KeepAll sessions [] []
keep_none sessions same = record {
  size = ap (length {A = Transcript}) same ∙ length-replicate (most_sessions + 1) no_replies;
  each = λ k within. subst (λ (s : Transcript). Keeps s []) (sym (none_at sessions k same within)) (refl, refl);
}

pub stand_none : (sessions : List Transcript) → sessions ≡ replicate (most_sessions + 1) no_replies → StandEach sessions all_at_start
stand_none sessions same = record {
  size = length-replicate (most_sessions + 1) at_start;
  stand = λ k within. ap (λ (s : Transcript). s.stands) (none_at sessions k same within) ∙ sym (get_or-replicate (most_sessions + 1) k at_start at_start within);
  numbers = λ k within. subst (λ (s : Transcript). s.stands.line ≡ suc s.count) (sym (none_at sessions k same within)) refl;
}

-- no session has more replies than there are lines
pub kept_within : (sessions : List Transcript) (lines : List ScriptLine) (outcomes : List Outcome) (k : ℕ) → KeepAll sessions lines outcomes → k < most_sessions + 1
    → (get_or sessions k no_replies).count < length lines + 1
kept_within sessions lines outcomes k h within = omega (arith, outcomes_shorter lines outcomes k, (h.each k within).0)

abbrev replies_of : List ScriptLine → List Outcome → ℕ → List Reply
replies_of lines outcomes k = map reply_of (session_outcomes lines outcomes k)

abbrev standing_next : List Standing → ScriptLine → Command → Outcome → Standing
standing_next standings line c outcome = standing_after (get_or standings line.session at_start) c outcome

module _ (old new : List Transcript) (line : ScriptLine) (after : Standing) (text : List ℕ) (size : length old ≡ most_sessions + 1) (within : line.session < most_sessions + 1)
    (same : new ≡ set old line.session (with_reply (get_or old line.session no_replies) after text)) where
  abbrev added : Transcript
  added = with_reply (get_or old line.session no_replies) after text

  at_other : (k : ℕ) → (line.session == k) ≡ false → get_or new k no_replies ≡ get_or old k no_replies
  at_other k e =
      let other : k ≢ line.session = λ here. test_not line.session k e (sym here) in
      ap (λ (s : List Transcript). get_or s k no_replies) same ∙ get_or-set_other old line.session k added no_replies other

  at_same : (k : ℕ) → (line.session == k) ≡ true → get_or new k no_replies ≡ with_reply (get_or old k no_replies) after text
  at_same k e =
      let one : line.session ≡ k = test_same line.session k e in
      ap (λ (s : List Transcript). get_or s k no_replies) same
      ∙ subst (λ (j : ℕ). get_or (set old line.session added) j no_replies ≡ with_reply (get_or old j no_replies) after text) one
      (get_or-set_same old line.session added no_replies (omega (arith, within, size)))

  -- one reply more
  pub keep_push : (lines : List ScriptLine) (outcomes : List Outcome) (outcome : Outcome) → length lines ≡ length outcomes → KeepAll old lines outcomes → text ≡ reply_text (reply_of outcome)
      → KeepAll new (lines ++ line ∷ []) (outcomes ++ outcome ∷ [])
  keep_push lines outcomes outcome one_each h is = record {
    size = ap (length {A = Transcript}) same ∙ length-set old line.session added ∙ size;
    each = λ k inside. here k inside (line.session == k) refl;
  } where
    here : (k : ℕ) → k < most_sessions + 1 → (test : Bool) → (line.session == k) ≡ test
        → Keeps (get_or new k no_replies) (map reply_of (session_outcomes (lines ++ line ∷ []) (outcomes ++ outcome ∷ []) k))
    here k inside true e =
        let more : map reply_of (session_outcomes (lines ++ line ∷ []) (outcomes ++ outcome ∷ []) k) ≡ replies_of lines outcomes k ++ reply_of outcome ∷ [] =
        ap (map reply_of) (outcomes_push lines outcomes line outcome k one_each ∙ ap (λ (c : Bool). session_outcomes lines outcomes k ++ cond c (outcome ∷ []) []) e)
        ∙ replies_push (session_outcomes lines outcomes k) outcome in
        rw (at_same k e, more) (keeps_push (get_or old k no_replies) (replies_of lines outcomes k) (reply_of outcome) after text is (h.each k inside))
    here k inside false e =
        let more : map reply_of (session_outcomes (lines ++ line ∷ []) (outcomes ++ outcome ∷ []) k) ≡ replies_of lines outcomes k =
        ap (map reply_of) (outcomes_push lines outcomes line outcome k one_each ∙ ap (λ (c : Bool). session_outcomes lines outcomes k ++ cond c (outcome ∷ []) []) e
        ∙ append-nil (session_outcomes lines outcomes k)) in
        rw (at_other k e, more) (h.each k inside)

  pub stand_push : (standings : List Standing) (c : Command) (outcome : Outcome) → StandEach old standings → after ≡ standing_after (get_or old line.session no_replies).stands c outcome
      → StandEach new (set standings line.session (standing_after (get_or standings line.session at_start) c outcome))
  stand_push standings c outcome h is = record {
    size = length-set standings line.session (standing_next standings line c outcome) ∙ h.size;
    stand = λ k inside. here k inside (line.session == k) refl;
    numbers = λ k inside. count k inside (line.session == k) refl;
  } where
    stands : after ≡ standing_next standings line c outcome
    stands = is ∙ ap (λ (s : Standing). standing_after s c outcome) (h.stand line.session within)

    here : (k : ℕ) → k < most_sessions + 1 → (test : Bool) → (line.session == k) ≡ test → (get_or new k no_replies).stands ≡ get_or (set standings line.session (standing_next standings line c outcome)) k at_start
    here k inside true e =
        let one : line.session ≡ k = test_same line.session k e in
        let put : get_or (set standings line.session (standing_next standings line c outcome)) k at_start ≡ standing_next standings line c outcome =
        subst (λ (j : ℕ). get_or (set standings line.session (standing_next standings line c outcome)) j at_start ≡ standing_next standings line c outcome) one (get_or-set_same standings line.session (standing_next standings line c outcome) at_start (omega (arith, within, h.size))) in
        ap (λ (s : Transcript). s.stands) (at_same k e) ∙ stands ∙ sym put
    here k inside false e =
        let other : k ≢ line.session = λ at. test_not line.session k e (sym at) in
        ap (λ (s : Transcript). s.stands) (at_other k e) ∙ h.stand k inside ∙ sym (get_or-set_other standings line.session k (standing_next standings line c outcome) at_start other)

    count : (k : ℕ) → k < most_sessions + 1 → (test : Bool) → (line.session == k) ≡ test → (get_or new k no_replies).stands.line ≡ suc (get_or new k no_replies).count
    count k inside true e =
        let one : line.session ≡ k = test_same line.session k e in
        let line_is : after.line ≡ suc (get_or old line.session no_replies).stands.line = ap (λ (s : Standing). s.line) is in
        let here : (get_or old k no_replies).stands.line ≡ suc (get_or old k no_replies).count = h.numbers k inside in
        let moved : after.line ≡ suc (get_or old k no_replies).stands.line = subst (λ (j : ℕ). after.line ≡ suc (get_or old j no_replies).stands.line) one line_is in
        rw (at_same k e) (omega (arith, moved, here))
    count k inside false e = rw (at_other k e) (h.numbers k inside)

each_from : (f : ℕ → List Reply) (sessions : List Transcript) (s n : ℕ) → length sessions ≡ n → ((k : ℕ) → k < n → Keeps (get_or sessions k no_replies) (f (s + k))) → KeepEach sessions (map f (range_with_len s n))
each_from f [] s zero e h = tt
each_from f [] s (suc n) e h = absurd (omega (arith, e))
each_from f (x ∷ xs) s zero e h = absurd (omega (arith, e))
each_from f (x ∷ xs) s (suc n) e h =
    let first : s + 0 ≡ s = omega arith in (
      subst (λ (j : ℕ). Keeps x (f j)) first (h 0 (omega arith)),
      each_from f xs (s + 1) n (omega (arith, e)) (λ k within. (let next : s + suc k ≡ (s + 1) + k = omega arith in subst (λ (j : ℕ). Keeps (get_or xs k no_replies) (f j)) next (h (suc k) (omega (arith, within))))),
    )

-- the sessions one by one
pub keep_each : (sessions : List Transcript) (lines : List ScriptLine) (outcomes : List Outcome) → KeepAll sessions lines outcomes → KeepEach sessions (transcripts_of lines outcomes)
keep_each sessions lines outcomes h =
    each_from (λ session. map reply_of (session_outcomes lines outcomes session)) sessions 0 (most_sessions + 1) h.size (λ k within. (let same : k ≡ 0 + k = omega arith in
    subst (λ (j : ℕ). Keeps (get_or sessions k no_replies) (map reply_of (session_outcomes lines outcomes j))) same (h.each k within)))

-- ---- the text of the log

get_or_any : (log : List LogEntry) (i : ℕ) (a b : LogEntry) → i < length log → get_or log i a ≡ get_or log i b
get_or_any [] i a b within = absurd (omega (arith, within))
get_or_any (e ∷ es) zero a b within = refl
get_or_any (e ∷ es) (suc i) a b within = get_or_any es i a b (omega (arith, within))

-- the lines of the versions up to one, and that one
pub log_more : (version i : ℕ) (log : List LogEntry) (entry : LogEntry) → i < length log → entry ≡ get_or log i entry
    → log_text version (take (suc i) log) ≡ log_text version (take i log) ++ entry_text (version + i) entry
log_more version i [] entry within is = absurd (omega (arith, within))
log_more version zero (e ∷ es) entry within is =
    let first : version + 0 ≡ version = omega arith in
    append-nil (entry_text version e) ∙ ap (λ (n : ℕ). entry_text n e) (sym first) ∙ ap (λ (x : LogEntry). entry_text (version + 0) x) (sym is)
log_more version (suc i) (e ∷ es) entry within is =
    let next : version + suc i ≡ suc version + i = omega arith in
    ap (λ x. entry_text version e ++ x) (log_more (suc version) i es entry (omega (arith, within)) is)
    ∙ sym (append_assoc (entry_text version e) (log_text (suc version) (take i es)) (entry_text (suc version + i) entry))
    ∙ ap (λ (n : ℕ). (entry_text version e ++ log_text (suc version) (take i es)) ++ entry_text n entry) (sym next)

-- the head of the log
abbrev pub log_head : List LogEntry → List ℕ
log_head log = codes "LOG " ++ (decimal (length log) ++ codes "\n")

-- the log's text so far
abbrev pub IsLogFront : List LogEntry → List ℕ → ℕ → List ℕ → Type 0
IsLogFront log out i text = text ≡ out ++ (log_head log ++ log_text 1 (take i log))

-- the head alone
pub log_start : (log : List LogEntry) (out one two three : List ℕ) → one ≡ out ++ codes "LOG " → two ≡ one ++ decimal (length log) → three ≡ two ++ codes "\n" → IsLogFront log out 0 three
log_start log out one two three a b c =
    c ∙ ap (λ t. t ++ codes "\n") (b ∙ ap (λ t. t ++ decimal (length log)) a)
    ∙ append_assoc (out ++ codes "LOG ") (decimal (length log)) (codes "\n")
    ∙ append_assoc out (codes "LOG ") (decimal (length log) ++ codes "\n")
    ∙ ap (λ t. out ++ t) (sym (append-nil (log_head log)))

-- one commit more
pub log_push : (log : List LogEntry) (out : List ℕ) (i version : ℕ) (text new : List ℕ) (entry d : LogEntry) → i < length log → entry ≡ get_or log i d → version ≡ i + 1 → IsLogFront log out i text
    → new ≡ text ++ entry_text version entry → IsLogFront log out (suc i) new
log_push log out i version text new entry d within at is front added =
    let here : entry ≡ get_or log i entry = at ∙ get_or_any log i d entry within in
    let next : version ≡ 1 + i = omega (arith, is) in
    added ∙ ap (λ t. t ++ entry_text version entry) front ∙ ap (λ (n : ℕ). (out ++ (log_head log ++ log_text 1 (take i log))) ++ entry_text n entry) next
    ∙ append_assoc out (log_head log ++ log_text 1 (take i log)) (entry_text (1 + i) entry)
    ∙ ap (λ t. out ++ t) (append_assoc (log_head log) (log_text 1 (take i log)) (entry_text (1 + i) entry) ∙ ap (λ t. log_head log ++ t) (sym (log_more 1 i log entry within here)))

-- all commits
pub log_ends : (log : List LogEntry) (out : List ℕ) (n : ℕ) (text : List ℕ) → n ≡ length log → IsLogFront log out n text
    → text ≡ out ++ (codes "LOG " ++ (decimal (length log) ++ (codes "\n" ++ log_text 1 log)))
log_ends log out n text size front =
    let last : take n log ≡ log = take_all n log (omega (arith, size)) in
    front ∙ ap (λ (l : List LogEntry). out ++ (log_head log ++ log_text 1 l)) last
    ∙ ap (λ t. out ++ t) (append_assoc (codes "LOG ") (decimal (length log) ++ codes "\n") (log_text 1 log) ∙ ap (λ t. codes "LOG " ++ t) (append_assoc (decimal (length log)) (codes "\n") (log_text 1 log)))

-- after nothing
pub log_front : (log : List LogEntry) (out text : List ℕ) → out ≡ [] → text ≡ out ++ (codes "LOG " ++ (decimal (length log) ++ (codes "\n" ++ log_text 1 log))) → text ≡ log_head log ++ log_text 1 log
log_front log out text empty is =
    is ∙ ap (λ t. t ++ (codes "LOG " ++ (decimal (length log) ++ (codes "\n" ++ log_text 1 log)))) empty
    ∙ ap (λ t. codes "LOG " ++ t) (sym (append_assoc (decimal (length log)) (codes "\n") (log_text 1 log)))
    ∙ sym (append_assoc (codes "LOG ") (decimal (length log) ++ codes "\n") (log_text 1 log))

-- ---- the text of the sessions

pub kept_at : (sessions : List Transcript) (all : List (List Reply)) (i : ℕ) (d : Transcript) → KeepEach sessions all → i < length sessions → (i < length all) × Keeps (get_or sessions i d) (get_or all i [])
kept_at [] all i d h within = absurd (omega (arith, within))
kept_at (x ∷ xs) [] i d h within = absurd h
kept_at (x ∷ xs) (t ∷ ts) zero d h within = (omega arith, h.0)
kept_at (x ∷ xs) (t ∷ ts) (suc i) d h within = let (inside, is) = kept_at xs ts i d h.1 (omega (arith, within)) in (omega (arith, inside), is)

pub as_many : (sessions : List Transcript) (all : List (List Reply)) → KeepEach sessions all → length sessions ≡ length all
as_many [] [] h = refl
as_many [] (t ∷ ts) h = absurd h
as_many (x ∷ xs) [] h = absurd h
as_many (x ∷ xs) (t ∷ ts) h = ap suc (as_many xs ts h.1)

-- the sessions up to one, and that one
pub sessions_more : (s i : ℕ) (all : List (List Reply)) → i < length all → sessions_text s (take (suc i) all) ≡ sessions_text s (take i all) ++ session_text (s + i) (get_or all i [])
sessions_more s i [] within = absurd (omega (arith, within))
sessions_more s zero (t ∷ ts) within =
    let first : s + 0 ≡ s = omega arith in
    append-nil (session_text s t) ∙ ap (λ (n : ℕ). session_text n t) (sym first)
sessions_more s (suc i) (t ∷ ts) within =
    let next : s + suc i ≡ suc s + i = omega arith in
    ap (λ x. session_text s t ++ x) (sessions_more (suc s) i ts (omega (arith, within)))
    ∙ sym (append_assoc (session_text s t) (sessions_text (suc s) (take i ts)) (session_text (suc s + i) (get_or ts i [])))
    ∙ ap (λ (n : ℕ). (session_text s t ++ sessions_text (suc s) (take i ts)) ++ session_text n (get_or ts i [])) (sym next)

-- the text so far, after a front
abbrev pub IsFront : List ℕ → List Transcript → ℕ → List ℕ → Type 0
IsFront front sessions i text = (all : List (List Reply)) → KeepEach sessions all → text ≡ front ++ sessions_text 0 (take i all)

-- no session yet
pub front_start : (front : List ℕ) (sessions : List Transcript) → IsFront front sessions 0 front
front_start front sessions all each = sym (append-nil front)

-- one session more
pub front_push : (front : List ℕ) (sessions : List Transcript) (i : ℕ) (text new : List ℕ) (session d : Transcript) → i < length sessions → session ≡ get_or sessions i d → IsFront front sessions i text
    → ((replies : List Reply) → Keeps session replies → new ≡ text ++ session_text i replies) → IsFront front sessions (suc i) new
front_push front sessions i text new session d within at so_far added all each =
    let (inside, is) = kept_at sessions all i d each within in
    let first : 0 + i ≡ i = omega arith in
    let more : sessions_text 0 (take (suc i) all) ≡ sessions_text 0 (take i all) ++ session_text i (get_or all i []) =
    subst (λ (n : ℕ). sessions_text 0 (take (suc i) all) ≡ sessions_text 0 (take i all) ++ session_text n (get_or all i [])) first (sessions_more 0 i all inside) in
    added (get_or all i []) (subst (λ (s : Transcript). Keeps s (get_or all i [])) (sym at) is) ∙ ap (λ t. t ++ session_text i (get_or all i [])) (so_far all each)
    ∙ append_assoc front (sessions_text 0 (take i all)) (session_text i (get_or all i []))
    ∙ ap (λ t. front ++ t) (sym more)

-- the log's text in front of others
pub log_joined : (log : List LogEntry) (rest : List ℕ) → (log_head log ++ log_text 1 log) ++ rest ≡ codes "LOG " ++ (decimal (length log) ++ (codes "\n" ++ (log_text 1 log ++ rest)))
log_joined log rest =
    append_assoc (log_head log) (log_text 1 log) rest
    ∙ append_assoc (codes "LOG ") (decimal (length log) ++ codes "\n") (log_text 1 log ++ rest)
    ∙ ap (λ t. codes "LOG " ++ t) (append_assoc (decimal (length log)) (codes "\n") (log_text 1 log ++ rest))

-- all sessions, and the end
pub front_ends : (log : List LogEntry) (front : List ℕ) (sessions : List Transcript) (n : ℕ) (text whole : List ℕ) → front ≡ log_head log ++ log_text 1 log → n ≡ length sessions
    → IsFront front sessions n text → whole ≡ text ++ codes "END\n" → (all : List (List Reply)) → KeepEach sessions all → whole ≡ output_text log all
front_ends log front sessions n text whole is size so_far ends all each =
    let many = as_many sessions all each in
    let last : take n all ≡ all = take_all n all (omega (arith, size, many)) in
    let here : text ≡ (log_head log ++ log_text 1 log) ++ sessions_text 0 all = so_far all each ∙ ap (λ (t : List (List Reply)). front ++ sessions_text 0 t) last ∙ ap (λ t. t ++ sessions_text 0 all) is in
    ends ∙ ap (λ t. t ++ codes "END\n") here
    ∙ append_assoc (log_head log ++ log_text 1 log) (sessions_text 0 all) (codes "END\n")
    ∙ log_joined log (sessions_text 0 all ++ codes "END\n")
