-- What is read from a line is what the grammar says of it.
use Rattle.std.proofs.Common.{subst, ◌≡◌, inl, inr, ℕ, ◌+◌, List, [], ◌∷◌, map, Bool, true, false, nat_le, cond, Option, Some, None, Result, Ok, Err, ℤ, refl, sym, ap, ◌∙◌, arith, append-nil, true≢false}
use Rattle.std.specs.List.{filter}
use Rattle.std.proofs.lemmas.Grind.{common_steps}
use Rattle.solid_base.specs.Outcomes.{◌>>=◌}
use Rattle.solid_base.specs.Spelling.{is_blank}
use Rattle.script_lines.specs.declared.commands.Command.{Command}
use Rattle.script_lines.specs.declared.commands.ScriptLine.{ScriptLine}
use Rattle.script_lines.specs.declared.faults.LineFault.{LineFault}
use Rattle.script_lines.specs.declared.faults.LineFault.TheVariants as fault
use Rattle.script_lines.specs.declared.tables.Kind.{Kind}
use Rattle.script_lines.specs.Tables.{has_record, rules_of, command_of}
use Rattle.script_lines.specs.Lines.{is_kept, kept_lines, lines_of}
use Rattle.script_lines.specs.Words.{Word, words_from, words_of, with_byte, end_of}
use Rattle.script_lines.specs.Grammar.{Ends, Makes, Breaks, IsFirstBad, Names, IsCommand, made, broken, unfinished, unknown, most_sessions, IsSession, IsLine, of_session, too_many, no_session}
use Rattle.script_lines.specs.Scripts.{AreLines, IsScript}
use Rattle.script_lines.specs.Reading.{Left, numbers_from, next_word, no_more, record_at, text_after, name_at, command_at, named_command, command_or_bad, session_of, session_at, line_with, line_in}
use Rattle.script_lines.proofs.FittingLaws.{is_there}
use Rattle.script_lines.proofs.TableLaws.{AllFit, Read, numbers_read}
use Rattle.script_lines.proofs.NameLaws.{NameIs, name_read}
use Rattle.script_lines.proofs.OneLine.{session_read, session_found}

abbrev words_left : List ℕ → List Word → Left
words_left line words = record { line = line; words = words }

-- ---- the words after a command's name

-- what stands after the words of the table: the end that a command has, or where it is broken
abbrev EndRead : Bool → List ℕ → List Word → List ℤ → Result (List ℕ) LineFault → Type 0
EndRead b line rest numbers (Ok text) = Ends b line rest text
EndRead b line rest numbers (Err f) =
    (column : ℕ) × Breaks b [] numbers rest (end_of line) column × (f ≡ fault.BadLine column)

end_read : (b : Bool) (line : List ℕ) (rest : List Word) (numbers : List ℤ) → EndRead b line rest numbers (text_after b (words_left line rest))
unfolding no_more record_at next_word
end_read false line [] numbers = refl
end_read false line (w ∷ words) numbers = (w.column, (refl, refl), refl)
end_read true line [] numbers = (end_of line, (refl, refl), refl)
end_read true line (w ∷ words) numbers = refl

-- the command that the words make, or the first of them that breaks a rule
abbrev WordsRead : List ℕ → Kind → Bool → List Word → Result Command LineFault → Type 0
WordsRead line kind is_live words (Ok c) = Makes line kind is_live words c
WordsRead line kind is_live words (Err f) =
    (column : ℕ) × IsFirstBad kind words (end_of line) column × (f ≡ fault.BadLine column)

ended : (line : List ℕ) (kind : Kind) (is_live : Bool) (words : List Word) (numbers : List ℤ) (left : Left) (h : AllFit (rules_of kind) [] line words numbers left)
    → (text : Result (List ℕ) LineFault) → EndRead (has_record kind) line h.rest numbers text
    → WordsRead line kind is_live words (text >>= λ text. Ok (command_of kind is_live numbers text))
ended line kind is_live words numbers left h (Ok text) e = record {
  fitting = h.fitting;
  rest = h.rest;
  numbers = numbers;
  text = text;
  split = h.split;
  fit = h.fit;
  ends = e;
  is = refl;
}
ended line kind is_live words numbers left h (Err f) e = (
  e.0,
  record {
    obeyed = rules_of kind;
    others = [];
    fitting = h.fitting;
    rest = h.rest;
    numbers = numbers;
    rules = sym (append-nil (rules_of kind));
    split = h.split;
    fit = h.fit;
    breaks = e.1;
  },
  e.2,
)

words_read : (line : List ℕ) (kind : Kind) (is_live : Bool) (words : List Word) → WordsRead line kind is_live words (command_at kind is_live (words_left line words))
unfolding command_at
words_read line kind is_live words = go (numbers_from (rules_of kind) [] (words_left line words)) (numbers_read (rules_of kind) [] line words)
  where
    go : (r : Result (List ℤ × Left) LineFault) → Read (rules_of kind) [] line words r
        → WordsRead line kind is_live words (r >>= λ x. text_after (has_record kind) x.1 >>= λ text. Ok (command_of kind is_live x.0 text))
    go (Ok x) h = rw h.is (ended line kind is_live words x.0 x.1 h _ (end_read (has_record kind) line h.rest x.0))
    go (Err f) h = (
      h.column,
      record {
        obeyed = h.obeyed;
        others = h.other ∷ h.others;
        fitting = h.fitting;
        rest = h.rest;
        numbers = h.numbers;
        rules = h.rules_split;
        split = h.split;
        fit = h.fit;
        breaks = h.breaks (has_record kind);
      },
      h.is,
    )

-- ---- the words after the session

command_read : (line : List ℕ) (words : List Word) → IsCommand line words (command_or_bad (named_command (words_left line words)))
unfolding named_command
command_read line words = go (name_at (words_left line words)) (name_read line words)
  where
    after : (kind : Kind) (is_live : Bool) (others : List Word) → Names words is_live kind others
        → (r : Result Command LineFault) → WordsRead line kind is_live others r → IsCommand line words (command_or_bad r)
    after kind is_live others n (Ok c) m = made n m
    after kind is_live others n (Err f) b = rw b.2 (broken n b.1)

    go : (r : Result ((Kind × Bool) × Left) LineFault) → NameIs line words r
        → IsCommand line words (command_or_bad (r >>= λ x. command_at x.0.0 x.0.1 x.1))
    go (Ok x) h = rw h.2 (after x.0.0 x.0.1 h.0 h.1 _ (words_read line x.0.0 x.0.1 h.0))
    go (Err f) (inl h) = rw h.1 (unfinished h.0)
    go (Err f) (inr h) = rw h.2 (unknown h.0 h.1)

-- ---- a line

words_line : (line : List ℕ) (first : Word) (others : List Word) → words_of line ≡ first ∷ others → IsLine line (line_in line)
unfolding line_in session_at
words_line line first others w = go (session_of first.text) refl
  where
    within : (k : ℕ) → IsSession first.text k → (v : Bool) → nat_le k most_sessions ≡ v
        → IsLine line (line_with (cond v (Ok k) (Err fault.TooManySessions) >>= λ k. Ok (k, words_left line others)))
    within k s true h = of_session w s (grind (arith, common_steps, h)) (command_read line others)
    within k s false h = too_many w s (grind (arith, common_steps, h))

    go : (o : Option ℕ) → session_of first.text ≡ o → IsLine line (line_with (session_at (record { line = line; words = words_of line })))
    go None e = rw (w, e) (no_session w (λ k s. true≢false (ap is_there (sym (session_read first.text k s) ∙ e))))
    go (Some k) e = rw (w, e) (within k (session_found first.text k e) (nat_le k most_sessions) refl)

-- ---- a line that isn't skipped has a word

abbrev has_words : List Word → Bool
has_words [] = false
has_words (w ∷ words) = true

some_word : (column b : ℕ) (bs : List ℕ) (words : List Word) → has_words (with_byte column b bs words) ≡ true
some_word column b [] words = refl
some_word column b (c ∷ bs) [] = refl
some_word column b (c ∷ bs) (w ∷ words) = go (is_blank c)
  where
    go : (v : Bool) → has_words (cond v (record { column = column; text = b ∷ [] } ∷ w ∷ words) (record { column = column; text = b ∷ w.text } ∷ words)) ≡ true
    go true = refl
    go false = refl

no_words : (column : ℕ) (text : List ℕ) → words_from column text ≡ [] → is_kept text ≡ false
unfolding words_from
no_words column [] e = refl
no_words column (b ∷ bs) e = go (is_blank b) refl (no_words (column + 1) bs)
  where
    go : (v : Bool) → is_blank b ≡ v → (words_from (column + 1) bs ≡ [] → is_kept bs ≡ false) → is_kept (b ∷ bs) ≡ false
    go true k more = rw k (more (rw k at e))
    go false k more = absurd (true≢false (sym (some_word column b bs (words_from (column + 1) bs)) ∙ ap has_words (rw k at e)))

-- what is read from a line that isn't skipped is what the grammar says of it
pub line_some : (line : List ℕ) → is_kept line ≡ true → IsLine line (line_in line)
line_some line kept = go (words_of line) refl
  where
    go : (words : List Word) → words_of line ≡ words → IsLine line (line_in line)
    go [] e = absurd (true≢false (sym kept ∙ no_words 1 line e))
    go (w ∷ words) e = words_line line w words e

-- ---- a script

lines_some : (lines : List (List ℕ)) → AreLines (filter is_kept lines) (map line_in (filter is_kept lines))
lines_some [] = tt
lines_some (line ∷ lines) = go (is_kept line) refl (lines_some lines)
  where
    go : (v : Bool) → is_kept line ≡ v → AreLines (filter is_kept lines) (map line_in (filter is_kept lines)) → AreLines (filter is_kept (line ∷ lines)) (map line_in (filter is_kept (line ∷ lines)))
    go true k more = rw k (line_some line k, more)
    go false k more = rw k more

-- the lines that are read are a script
pub script_some : (bytes : List ℕ) → IsScript bytes (map line_in (kept_lines bytes))
script_some bytes = lines_some (lines_of bytes)

-- a line in front of a script
pub one_more : (bytes rest text : List ℕ) (line : ScriptLine) (lines : List ScriptLine) → kept_lines bytes ≡ text ∷ kept_lines rest → IsLine text line → IsScript rest lines
    → IsScript bytes (line ∷ lines)
one_more bytes rest text line lines kept is more = subst (λ (texts : List (List ℕ)). AreLines texts (line ∷ lines)) (sym kept) (is, more)

-- no line
pub none_left : (bytes : List ℕ) → kept_lines bytes ≡ [] → IsScript bytes []
none_left bytes none = subst (λ (texts : List (List ℕ)). AreLines texts []) (sym none) tt
