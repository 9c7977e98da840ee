-- Each line of the grammar is the one that is read from it, so that there is one.
use Rattle.std.proofs.Common.{◌≡◌, inl, inr, ℕ, List, [], ◌∷◌, ◌++◌, Bool, true, false, nat_lt, nat_le, ◌==◌, cond, Option, Some, None, Result, Ok, Err, ℤ, refl, sym, ap, ◌∙◌, arith, true≢false}
use Rattle.std.proofs.lemmas.Grind.{common_steps}
use Rattle.solid_base.specs.Outcomes.{◌>>=◌}
use Rattle.script_lines.specs.declared.commands.Command.{Command}
use Rattle.script_lines.specs.declared.commands.ScriptLine.{ScriptLine}
use Rattle.script_lines.specs.declared.faults.LineFault.{LineFault}
use Rattle.script_lines.specs.declared.faults.LineFault.TheVariants as fault
use Rattle.script_lines.specs.declared.tables.Kind.{Kind}
use Rattle.script_lines.specs.declared.tables.Rule.{Rule}
use Rattle.script_lines.specs.Tables.{Fits, word_of, has_record, rules_of, command_of}
use Rattle.script_lines.specs.Words.{Word, end_of}
use Rattle.script_lines.specs.Grammar.{Fit, Ends, Makes, Breaks, IsFirstBad, Names, held, live, IsUnfinished, nothing, after_live, IsCommand, made, broken, unfinished, unknown, most_sessions, IsSession, IsLine, of_session, too_many, no_session}
use Rattle.script_lines.specs.Scripts.{AreLines}
use Rattle.script_lines.specs.Reading.{Left, taken, next_word, number_by, numbers_from, no_more, record_at, text_after, name_at, command_at, named_command, command_or_bad, entity_of, whole_of, session_of, session_at, line_in}
use Rattle.script_lines.proofs.RuleLaws.{numbers_append}
use Rattle.script_lines.proofs.FittingLaws.{is_there, passing_sound, passing_again, whole_sound, whole_complete}
use Rattle.script_lines.proofs.RulesFit.{number_sound}
use Rattle.script_lines.proofs.RulesRead.{number_complete}
use Rattle.script_lines.proofs.NameLaws.{kind_complete, live_complete, not_live, NameIs, name_read}

abbrev at_words : List ℕ → List Word → Left
at_words line words = record { line = line; words = words }

-- ---- the words after a command's name

-- words that obey their rules are read as their numbers
fit_read : (rules : List Rule) (before : List ℤ) (line : List ℕ) (fitting rest : List Word) (numbers : List ℤ) → Fit rules before fitting numbers
    → numbers_from rules before (at_words line (fitting ++ rest)) ≡ Ok (numbers, at_words line rest)
unfolding numbers_from taken next_word
fit_read [] before line [] rest numbers h = ap (λ (l : List ℤ). Ok (l, at_words line rest)) (sym h)
fit_read [] before line (w ∷ words) rest numbers h = absurd h
fit_read (r ∷ rules) before line [] rest numbers h = absurd h
fit_read (r ∷ rules) before line (w ∷ words) rest numbers h =
    let (v, fits, more) = h in
    rw (number_complete r before w.text v fits) (fit_read rules (before ++ v ∷ []) line words rest numbers more)

-- what stands after them is read as the record, or as nothing
ends_read : (b : Bool) (line : List ℕ) (rest : List Word) (text : List ℕ) → Ends b line rest text → text_after b (at_words line rest) ≡ Ok text
unfolding no_more record_at next_word
ends_read false line [] text h = ap (λ (t : List ℕ). Ok t) (sym h)
ends_read false line (w ∷ words) text h = absurd h
ends_read true line [] text h = absurd h
ends_read true line (w ∷ words) text h = ap (λ (t : List ℕ). Ok t) (sym h)

-- the words that are left are read by the rules that are left, then the record
abbrev finish : Kind → Bool → Result (List ℤ × Left) LineFault → Result Command LineFault
finish kind is_live read = read >>= λ x. text_after (has_record kind) x.1 >>= λ text. Ok (command_of kind is_live x.0 text)

makes_read : (line : List ℕ) (kind : Kind) (is_live : Bool) (words : List Word) (c : Command) → Makes line kind is_live words c
    → command_at kind is_live (at_words line words) ≡ Ok c
unfolding command_at
makes_read line kind is_live words c m =
    let all = fit_read (rules_of kind) [] line m.fitting m.rest m.numbers m.fit in
    rw (m.split, all, ends_read (has_record kind) line m.rest m.text m.ends) (ap (λ (d : Command). Ok d) (sym m.is))

no_number : (r : Rule) (before : List ℤ) (text : List ℕ) → ((v : ℤ) → ¬ Fits r before text v) → number_by r before text ≡ None
no_number r before text h = go (number_by r before text) refl
  where
    go : (o : Option ℤ) → number_by r before text ≡ o → number_by r before text ≡ None
    go None e = e
    go (Some v) e = absurd (h v (number_sound r before text v e))

-- where the rules that are left are broken, there the fault is
breaks_read : (kind : Kind) (is_live : Bool) (others : List Rule) (numbers : List ℤ) (line : List ℕ) (rest : List Word) (column : ℕ)
    → Breaks (has_record kind) others numbers rest (end_of line) column
    → finish kind is_live (numbers_from others numbers (at_words line rest)) ≡ Err (fault.BadLine column)
unfolding numbers_from taken next_word no_more record_at
breaks_read kind is_live [] numbers line [] column h = rw h.0 (ap (λ (n : ℕ). Err (fault.BadLine n)) (sym h.1))
breaks_read kind is_live [] numbers line (w ∷ words) column h = rw h.0 (ap (λ (n : ℕ). Err (fault.BadLine n)) (sym h.1))
breaks_read kind is_live (r ∷ rules) numbers line [] column h = ap (λ (n : ℕ). Err (fault.BadLine n)) (sym h)
breaks_read kind is_live (r ∷ rules) numbers line (w ∷ words) column h = rw (no_number r numbers w.text h.0) (ap (λ (n : ℕ). Err (fault.BadLine n)) (sym h.1))

first_bad_read : (line : List ℕ) (kind : Kind) (is_live : Bool) (words : List Word) (column : ℕ) → IsFirstBad kind words (end_of line) column
    → command_at kind is_live (at_words line words) ≡ Err (fault.BadLine column)
unfolding command_at
first_bad_read line kind is_live words column b =
    let front = fit_read b.obeyed [] line b.fitting b.rest b.numbers b.fit in
    let all = numbers_append b.obeyed b.others [] (at_words line (b.fitting ++ b.rest)) in
    rw (b.split, b.rules, all, front) (breaks_read kind is_live b.others b.numbers line b.rest column b.breaks)

-- ---- the words after the session

names_read : (line : List ℕ) (words : List Word) (is_live : Bool) (kind : Kind) (others : List Word) → Names words is_live kind others
    → name_at (at_words line words) ≡ Ok ((kind, is_live), at_words line others)
unfolding name_at next_word
names_read line _ _ kind _ (held e) = rw (e, not_live kind, kind_complete (word_of kind) kind refl) refl
names_read line _ _ kind _ (live l e t) = rw (l, live_complete _ kind e t) refl

unfinished_read : (line : List ℕ) (words : List Word) → IsUnfinished words → name_at (at_words line words) ≡ Err (fault.BadLine (end_of line))
unfolding name_at next_word
unfinished_read line _ nothing = refl
unfinished_read line _ (after_live e) = rw e refl

unknown_read : (line : List ℕ) (words : List Word) → ¬ IsUnfinished words
    → ((is_live : Bool) (kind : Kind) (others : List Word) → ¬ Names words is_live kind others)
    → name_at (at_words line words) ≡ Err fault.UnknownCommand
unknown_read line words finished none = go (name_at (at_words line words)) (name_read line words)
  where
    go : (r : Result ((Kind × Bool) × Left) LineFault) → NameIs line words r → r ≡ Err fault.UnknownCommand
    go (Ok x) h = absurd (none x.0.1 x.0.0 h.0 h.1)
    go (Err f) (inl h) = absurd (finished h.0)
    go (Err f) (inr h) = ap (λ (g : LineFault). Err g) h.2

command_read : (line : List ℕ) (words : List Word) (c : Command) → IsCommand line words c → command_or_bad (named_command (at_words line words)) ≡ c
unfolding named_command
command_read line words c (made {live = is_live} {kind = kind} {others = others} n m) =
    rw (names_read line words is_live kind others n, makes_read line kind is_live others c m) refl
command_read line words _ (broken {live = is_live} {kind = kind} {others = others} {column = column} n b) =
    rw (names_read line words is_live kind others n, first_bad_read line kind is_live others column b) refl
command_read line words _ (unfinished u) = rw (unfinished_read line words u) refl
command_read line words _ (unknown u n) = rw (unknown_read line words u n) refl

-- ---- the session

pub session_read : (text : List ℕ) (k : ℕ) → IsSession text k → session_of text ≡ Some k
unfolding session_of entity_of
session_read text k s =
    let some = s.some in
    rw s.spelt (passing_again (λ n. nat_lt 0 n) (whole_of s.digits) k (whole_complete s.digits k s.number) (grind (arith, common_steps, some)))

pub session_found : (text : List ℕ) (k : ℕ) → session_of text ≡ Some k → IsSession text k
unfolding session_of entity_of
session_found [] k e = absurd (true≢false (ap is_there (sym e)))
session_found (b ∷ digits) k e = go (b == 64) refl e
  where
    go : (v : Bool) → (b == 64) ≡ v → cond v (entity_of digits) None ≡ Some k → IsSession (b ∷ digits) k
    go false h e = absurd (true≢false (ap is_there (sym e)))
    go true h e =
        let (w, t) = passing_sound (λ n. nat_lt 0 n) (whole_of digits) k e in
        let at : b ≡ 64 = grind (arith, common_steps, h) in
        record {
          digits = digits;
          spelt = ap (λ (x : ℕ). x ∷ digits) at;
          number = whole_sound digits k w;
          some = grind (arith, common_steps, t);
        }

none_read : (text : List ℕ) → ((k : ℕ) → ¬ IsSession text k) → session_of text ≡ None
none_read text h = go (session_of text) refl
  where
    go : (o : Option ℕ) → session_of text ≡ o → session_of text ≡ None
    go None e = e
    go (Some k) e = absurd (h k (session_found text k e))

-- ---- a line

-- a line of the grammar is the one that is read
pub line_is : (line : List ℕ) (s : ScriptLine) → IsLine line s → s ≡ line_in line
unfolding line_in session_at
line_is line _ (of_session {first = first} {others = others} {k = k} {c = c} w s few h) =
    let few2 : nat_le k most_sessions ≡ true = grind (arith, common_steps, few) in
    rw (w, session_read first.text k s, few2, command_read line others c h) refl
line_is line _ (too_many {first = first} {others = others} {k = k} w s many) =
    let many2 : nat_le k most_sessions ≡ false = grind (arith, common_steps, many) in
    rw (w, session_read first.text k s, many2) refl
line_is line _ (no_session {first = first} {others = others} w none) = rw (w, none_read first.text none) refl

pub line_once : (line : List ℕ) (a b : ScriptLine) → IsLine line a → IsLine line b → a ≡ b
line_once line a b x y = line_is line a x ∙ sym (line_is line b y)

-- ---- a script

pub lines_once : (lines : List (List ℕ)) (a b : List ScriptLine) → AreLines lines a → AreLines lines b → a ≡ b
lines_once [] [] [] x y = refl
lines_once [] [] (s ∷ b) x y = absurd y
lines_once [] (s ∷ a) b x y = absurd x
lines_once (line ∷ lines) [] b x y = absurd x
lines_once (line ∷ lines) (s ∷ a) [] x y = absurd y
lines_once (line ∷ lines) (s ∷ a) (t ∷ b) x y =
    ap (λ (u : ScriptLine). u ∷ a) (line_once line s t x.0 y.0)
    ∙ ap (λ (l : List ScriptLine). t ∷ l) (lines_once lines a b x.1 y.1)
