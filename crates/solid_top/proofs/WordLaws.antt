-- What clap makes of the words of a command line: those with no hyphen in front are a command's
-- name and a number, and a third is refused.
use Rattle.std.proofs.Common.{ap, ap₂, refl, codes, ◌≡◌, ◌≢◌, ◌∙◌, ◌&&◌, ◌||◌, sym, subst, true, false, ℕ, Bool, List, length, ◌≤◌, Option, Some, None, [], ◌∷◌, arith, if◌then◌else◌, is_some, option_and_then, IfNone, inl, inr}
use Rattle.std.specs.List.{list_any}
use Rattle.std.specs.Str.{bytes_eq}
use Rattle.clap.specs.Words.{HasMatchesOf, first_value, found_of}
use Rattle.std.specs.Option.{option_map_or}
use Rattle.clap.specs.Lexer.{long_of, long_of_rest, short_of_rest, strip_byte}
use Rattle.clap.specs.Walk.{Held, Rule, Step, Text, Walk, after_step, arg_by_index, finished, first_of, idle, long_or_other, nothing_held, settled, short_or_plain, to_positional, trailing, value, walked, word_met}
use Rattle.clap.specs.Simple.{Shape, built, entered, is_simple, matches_of}
use Rattle.clap.specs.Kinds.{HasKind, Kinds, or_else}
use Rattle.clap.specs.Values.{kind_of}
use Rattle.clap.specs.declared.error.Error.{Error}
use Rattle.clap.specs.declared.error.kind.ErrorKind.{ErrorKind}
use Rattle.clap.specs.declared.error.kind.ErrorKind.TheVariants as kind
use Rattle.clap.specs.Faults.{bundle_fault, check_fault, defaults_fault, entered_fault, fault_of, flag_word_fault, settle_fault, step_fault, turn_fault, walk_fault, word_fault}
use Rattle.clap.specs.declared.parser.matches.ArgMatches.{ArgMatches}
use Rattle.clap.proofs.OnLiterals.{clap_on_literals}
use Rattle.clap.proofs.WalkLemmas.{first_value-rows}
use Rattle.solid_base.specs.Digits.{AreDigits, number_of}
use Rattle.std.proofs.lemmas.Bool.Decides.{nat_tests}
use Rattle.solid_base.specs.Spelling.{digit_count}
use Rattle.solid_base.proofs.Digits.{digit_within, number_of_below}
use Rattle.solid_top.specs.Commands.{IsCommand, IsSphereCount}
use Rattle.solid_top.specs.CommandLine.{begins_with_hyphen, given_words, words_app, words_given}
use Rattle.solid_top.specs.declared.commands.Command.TheVariants as command

-- the parser as clap builds it, and its places
abbrev shape : Shape
shape = (built words_app).top

abbrev table : List Rule
table = shape.rules

app_simple : is_simple words_app ≡ true
unfolding clap_on_literals
app_simple = refl

-- ---- one plain word

-- a word with no hyphen in front is no flag
unhyphened : (w : List ℕ) → begins_with_hyphen w ≡ false → (bytes_eq w (45 ∷ 45 ∷ []) ≡ false) × (strip_byte 45 w ≡ None)
unhyphened [] h = (refl, refl)
unhyphened (x ∷ r) h = (ap (λ (b : Bool). b && bytes_eq r (45 ∷ [])) h, ap (λ (b : Bool). if b then Some r else None) h)

word_value : (c : List Rule) (p : ℕ) (w : Text) (h : Held) → begins_with_hyphen w ≡ false → word_met c [] false idle p w h ≡ (h, value)
word_value c p w h plain =
    let (dashes, cut) = unhyphened w plain in
    ap₂ (λ (b : Bool) (o : Option Text). if b then (h, trailing p) else long_or_other c idle w (option_and_then long_of_rest (option_and_then (strip_byte 45) o)) h) dashes cut
    ∙ ap (λ (o : Option Text). short_or_plain c idle w (option_and_then short_of_rest o) h) cut

-- the walk over the words, before the place p
abbrev walk_at : ℕ → Held → Walk
walk_at p h = record { held = h; waiting = idle; position = p; is_trailing = false; stopped = None }

word_walked : (p : ℕ) (w : Text) (h : Held) → begins_with_hyphen w ≡ false
    → walked table [] (walk_at p h) w ≡ to_positional table (arg_by_index table p) w (walk_at p h) h
unfolding walked
word_walked p w h plain = ap (λ (met : Held × Step). after_step table w (walk_at p h) met.0 met.1) (word_value table p w h plain)

-- ---- the first word, and the second

abbrev held_one : Text → Held
held_one w = record { rows = []; pending = Some (codes "command", w ∷ []); skip = 0 }

abbrev held_two : Text → Text → Held
held_two w v = record { rows = (settled table (held_one w)).rows; pending = Some (codes "number", v ∷ []); skip = 0 }

walked_one : (w : Text) → begins_with_hyphen w ≡ false → walked table [] (walk_at 1 nothing_held) w ≡ walk_at 2 (held_one w)
walked_one w plain = word_walked 1 w nothing_held plain

walked_two : (w v : Text) → begins_with_hyphen v ≡ false → walked table [] (walk_at 2 (held_one w)) v ≡ walk_at 3 (held_two w v)
walked_two w v plain = word_walked 2 v (held_one w) plain

-- ---- a third word is refused

or_else_nil : (a b : Kinds) → or_else a b ≡ [] → (a ≡ []) × (b ≡ [])
or_else_nil [] b h = (refl, h)
or_else_nil (k ∷ ks) b h = cc

some_fault : (k : ErrorKind) (ks : Kinds) → k ∷ ks ≡ [] → ⊥
some_fault k ks h = cc

fault_parts : (w : Walk) (word : Text) (rest : List Text) → walk_fault shape [] w (word ∷ rest) ≡ []
    → (turn_fault shape [] w word ≡ []) × (walk_fault shape [] (walked table [] w word) rest ≡ [])
unfolding walk_fault
fault_parts w word rest h = or_else_nil _ _ h

no_third : (w v u : Text) (rest : List Text) → begins_with_hyphen w ≡ false → begins_with_hyphen v ≡ false → begins_with_hyphen u ≡ false
    → walk_fault shape [] (walk_at 1 nothing_held) (w ∷ v ∷ u ∷ rest) ≡ [] → ⊥
no_third w v u rest pw pv pu h =
    let one = subst (λ (k : Walk). walk_fault shape [] k (v ∷ u ∷ rest) ≡ []) (walked_one w pw) (fault_parts (walk_at 1 nothing_held) w (v ∷ u ∷ rest) h).1 in
    let two = subst (λ (k : Walk). walk_fault shape [] k (u ∷ rest) ≡ []) (walked_two w v pv) (fault_parts (walk_at 2 (held_one w)) v (u ∷ rest) one).1 in
    let turn = (fault_parts (walk_at 3 (held_two w v)) u rest two).0 in
    some_fault _ _ (subst (λ (met : Held × Step). step_fault shape 3 met.0 met.1 ≡ []) (word_value table 3 u (held_two w v) pu) (or_else_nil _ _ turn).1)

-- ---- the words

or_false : (a b : Bool) → (a || b) ≡ false → (a ≡ false) × (b ≡ false)
or_false false b h = (refl, h)
or_false true b h = cc

-- words that are taken are those that are given
words_back : (words : List Text) → list_any begins_with_hyphen words ≡ false → fault_of words_app words ≡ []
    → given_words (first_of (codes "command") (matches_of words_app words)) (first_of (codes "number") (matches_of words_app words)) ≡ words
unfolding clap_on_literals
words_back [] plain fine = refl
words_back (w ∷ []) plain fine =
    ap (λ (k : Walk). given_words (first_of (codes "command") (finished table k.held)) (first_of (codes "number") (finished table k.held))) (walked_one w (or_false _ _ plain).0)
words_back (w ∷ v ∷ []) plain fine =
    let (pw, more) = or_false _ _ plain in
    let (pv, end) = or_false _ _ more in
    ap (λ (k : Walk). given_words (first_of (codes "command") (finished table (walked table [] k v).held)) (first_of (codes "number") (finished table (walked table [] k v).held))) (walked_one w pw)
    ∙ ap (λ (k : Walk). given_words (first_of (codes "command") (finished table k.held)) (first_of (codes "number") (finished table k.held))) (walked_two w v pv)
words_back (w ∷ v ∷ u ∷ rest) plain fine =
    let (pw, more) = or_false _ _ plain in
    let (pv, more') = or_false _ _ more in
    let (pu, end) = or_false _ _ more' in
    absurd (no_third w v u rest pw pv pu (or_else_nil _ _ fine).0)

-- ---- two words are taken

-- a word with no hyphen in front has no fault
word_faultless : (w : Text) (h : Held) → begins_with_hyphen w ≡ false → word_fault shape [] false idle w h ≡ []
word_faultless w h plain =
    let (dashes, cut) = unhyphened w plain in
    ap (λ (b : Bool). if b then [] else flag_word_fault table shape.args_override_self (long_of w) w h) dashes
    ∙ ap (λ (o : Option Text). flag_word_fault table shape.args_override_self (option_and_then long_of_rest (option_and_then (strip_byte 45) o)) w h) cut
    ∙ ap (λ (o : Option Text). option_map_or (λ flags. bundle_fault table shape.args_override_self flags h) (option_and_then short_of_rest o) []) cut

turn_faultless : (p : ℕ) (w : Text) (h : Held) → begins_with_hyphen w ≡ false → step_fault shape p h value ≡ [] → turn_fault shape [] (walk_at p h) w ≡ []
turn_faultless p w h plain fine =
    ap₂ (λ (k : Kinds) (met : Held × Step). or_else k (step_fault shape p met.0 met.1)) (word_faultless w h plain) (word_value table p w h plain) ∙ fine

-- the faults of a parse, from those of its words and the walk after them
abbrev whole_fault : Kinds → Walk → Kinds
whole_fault faults end =
    or_else faults (or_else (entered_fault (built words_app) end.stopped) (or_else (settle_fault table shape.args_override_self end.held)
    (or_else (defaults_fault (settled table end.held).rows table) (check_fault shape (finished table end.held) (is_some (entered (built words_app) end.stopped))))))

two_faultless : (w v : Text) → begins_with_hyphen w ≡ false → begins_with_hyphen v ≡ false → fault_of words_app (w ∷ v ∷ []) ≡ []
unfolding clap_on_literals
two_faultless w v pw pv =
    let one = walked_one w pw in
    let first = turn_faultless 1 w nothing_held pw refl in
    let second : turn_fault shape [] (walked table [] (walk_at 1 nothing_held) w) v ≡ [] =
    ap (λ (k : Walk). turn_fault shape [] k v) one ∙ turn_faultless 2 v (held_one w) pv refl in
    let end : walked table [] (walked table [] (walk_at 1 nothing_held) w) v ≡ walk_at 3 (held_two w v) =
    ap (λ (k : Walk). walked table [] k v) one ∙ walked_two w v pv in
    ap₂ whole_fault (ap₂ or_else first (ap (λ (k : Kinds). or_else k []) second)) end

-- ---- digits

digits_plain : (word : Text) → AreDigits word → begins_with_hyphen word ≡ false
digits_plain [] h = refl
digits_plain (b ∷ rest) h = (let within = digit_within b h.0 in grind (arith, nat_tests, within.0))

pub four_digits : (word : Text) → AreDigits word → length word ≤ 4 → number_of word ≤ 9999
four_digits word h four = (let less = number_of_below 4 word h four in omega (arith, less))

pub all_digits : (word : Text) → AreDigits word → digit_count word ≡ length word
all_digits [] h = refl
all_digits (b ∷ bs) h = let rest = all_digits bs h.1 in rw h.0 (omega (arith, rest))

-- ---- for command_of

pub unflagged : (words : List Text) → IsCommand words → list_any begins_with_hyphen words ≡ false
unflagged words (command.Check, named) = ap (list_any begins_with_hyphen) named
unflagged words (command.Replay, named) = ap (list_any begins_with_hyphen) named
unflagged words (command.Serve, named) = ap (list_any begins_with_hyphen) named
unflagged words (command.Load n, (word, named, count)) =
    ap (list_any begins_with_hyphen) named ∙ ap (λ (b : Bool). b || false) (digits_plain word count.digits)

pub faultless : (words : List Text) → IsCommand words → fault_of words_app words ≡ []
unfolding clap_on_literals
faultless words (command.Check, named) = ap (fault_of words_app) named
faultless words (command.Replay, named) = ap (fault_of words_app) named
faultless words (command.Serve, named) = ap (fault_of words_app) named
faultless words (command.Load n, (word, named, count)) =
    ap (fault_of words_app) named ∙ two_faultless (codes "load") word refl (digits_plain word count.digits)

-- the words that clap found
pub words_found : (words : List Text) (m : ArgMatches) → HasMatchesOf words_app words m → list_any begins_with_hyphen words ≡ false → fault_of words_app words ≡ []
    → words_given (found_of m) ≡ words
words_found words m h plain fine =
    let rows_are : (id : Text) → first_value (found_of m) id ≡ first_of id (matches_of words_app words) =
    (λ (id : Text). first_value-rows (found_of m) id ∙ ap (first_of id) (h app_simple).0) in
    ap₂ given_words (rows_are (codes "command")) (rows_are (codes "number")) ∙ words_back words plain fine

-- an error other than out of memory comes from words that are no command
pub refused : (words : List Text) (e : Error) → HasKind (fault_of words_app words) e → (kind_of e ≡ kind.OutOfMemory → ⊥) → IsCommand words → ⊥
refused words e h other is =
    elim (subst (λ (k : Kinds). HasKind k e) (faultless words is) h) [
      | inl memory ↦ other memory
      | inr none ↦ none
    ]

-- ---- for command_given

pub no_words : IsCommand [] → ⊥
no_words (command.Check, named) = cc
no_words (command.Replay, named) = cc
no_words (command.Serve, named) = cc
no_words (command.Load n, (word, named, count)) = cc

pub one_none : (word : Text) → (word ≢ codes "check") × (word ≢ codes "replay") × (word ≢ codes "serve") → IsCommand (word ∷ []) → ⊥
one_none word (no_check, no_replay, no_serve) (command.Check, named) = no_check cc
one_none word (no_check, no_replay, no_serve) (command.Replay, named) = no_replay cc
one_none word (no_check, no_replay, no_serve) (command.Serve, named) = no_serve cc
one_none word other (command.Load n, (number, named, count)) = cc

abbrev first_or : Text → List Text → Text
first_or word [] = word
first_or word (w ∷ rest) = w

abbrev second : Text → List Text → Text
second word [] = word
second word (w ∷ rest) = first_or word rest

pub two_none : (word number : Text) → (word ≡ codes "load" → (n : ℕ) → IsSphereCount number n → ⊥) → IsCommand (word ∷ number ∷ []) → ⊥
two_none word number none (command.Check, named) = cc
two_none word number none (command.Replay, named) = cc
two_none word number none (command.Serve, named) = cc
two_none word number none (command.Load n, (other, named, count)) =
    let same : number ≡ other = ap (second word) named in
    none (ap (first_or word) named) n (subst (λ (w : Text). IsSphereCount w n) (sym same) count)

pub none_then : {X P Q : Type 0} (r : Option X) → IfNone r P → (P → Q) → IfNone r Q
none_then None h f = f h
none_then (Some x) h f = h
