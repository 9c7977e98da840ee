-- What a line of a script asks for, and the first word from the left that breaks a rule. solidd's
-- own.
use Rattle.std.specs.Prelude.{◌≡◌, ◌<◌, ◌≤◌, ℕ, ℤ, ◌-◌, List, [], ◌∷◌, ◌++◌, Bool, true, false}
use Rattle.std.specs.Prelude.{IsTrue}
use Rattle.std.specs.Prelude.{codes, drop}
use Rattle.script_lines.specs.declared.commands.Command.{Command}
use Rattle.script_lines.specs.declared.commands.Command.TheVariants as command
use Rattle.script_lines.specs.declared.commands.ScriptLine.{ScriptLine}
use Rattle.script_lines.specs.declared.faults.LineFault.TheVariants as fault
use Rattle.script_lines.specs.declared.tables.Kind.{Kind}
use Rattle.script_lines.specs.declared.tables.Rule.{Rule}
use Rattle.script_lines.specs.Tables.{IsWholeNumber, Fits, word_of, may_be_live, has_record}
use Rattle.script_lines.specs.Tables.{rules_of, command_of}
use Rattle.script_lines.specs.Words.{Word, words_of, end_of}

-- ---- the words after a command's name

-- solidd's own: the words obey the rules, one each, after these numbers; together with those before
-- them their numbers are the last ones
abbrev pub Fit : List Rule → List ℤ → List Word → List ℤ → Type 0
Fit [] before [] numbers = numbers ≡ before
Fit [] before (w ∷ words) numbers = ⊥
Fit (r ∷ rules) before [] numbers = ⊥
Fit (r ∷ rules) before (w ∷ words) numbers =
    (v : ℤ) × Fits r before w.text v × Fit rules (before ++ v ∷ []) words numbers

-- solidd's own: what stands after a command's last word: nothing, or the record, which runs from
-- its first byte that isn't a blank to the line's end
abbrev pub Ends : Bool → List ℕ → List Word → List ℕ → Type 0
Ends false line [] text = text ≡ []
Ends false line (w ∷ words) text = ⊥
Ends true line [] text = ⊥
Ends true line (w ∷ words) text = text ≡ drop (w.column - 1) line

-- solidd's own: the words after a command's name make this command
pub record Makes (line : List ℕ) (kind : Kind) (live : Bool) (words : List Word) (c : Command)
    : Type 0 where
  pub fitting : List Word
  pub rest : List Word
  pub numbers : List ℤ
  pub text : List ℕ
  pub split : words ≡ fitting ++ rest
  pub fit : Fit (rules_of kind) [] fitting numbers
  pub ends : Ends (has_record kind) line rest text
  pub is : c ≡ command_of kind live numbers text

-- solidd's own: where the rules that are left are broken next: by a word that doesn't obey its
-- rule, at the line's end by one that is missing, or by one too many
abbrev pub Breaks : Bool → List Rule → List ℤ → List Word → ℕ → ℕ → Type 0
Breaks record_follows [] before [] end column = IsTrue record_follows × (column ≡ end)
Breaks record_follows [] before (w ∷ words) end column =
    (record_follows ≡ false) × (column ≡ w.column)
Breaks record_follows (r ∷ rules) before [] end column = column ≡ end
Breaks record_follows (r ∷ rules) before (w ∷ words) end column =
    ((v : ℤ) → ¬ Fits r before w.text v) × (column ≡ w.column)

-- solidd's own: the column of the first word from the left that breaks a rule of the command: all
-- before it obey theirs
pub record IsFirstBad (kind : Kind) (words : List Word) (end column : ℕ) : Type 0 where
  pub obeyed : List Rule
  pub others : List Rule
  pub fitting : List Word
  pub rest : List Word
  pub numbers : List ℤ
  pub rules : rules_of kind ≡ obeyed ++ others
  pub split : words ≡ fitting ++ rest
  pub fit : Fit obeyed [] fitting numbers
  pub breaks : Breaks (has_record kind) others numbers rest end column

-- ---- the words after the session

-- solidd's own: the words begin with a command's name, perhaps after `live`
pub data Names : List Word → Bool → Kind → List Word → Type 0 where
  held : {w : Word} {kind : Kind} {words : List Word}
      → w.text ≡ word_of kind → Names (w ∷ words) false kind words
  live : {l w : Word} {kind : Kind} {words : List Word}
      → l.text ≡ codes "live" → w.text ≡ word_of kind → IsTrue (may_be_live kind)
      → Names (l ∷ w ∷ words) true kind words

-- solidd's own: the words end where a command's name should stand
pub data IsUnfinished : List Word → Type 0 where
  nothing : IsUnfinished []
  after_live : {l : Word} → l.text ≡ codes "live" → IsUnfinished (l ∷ [])

-- solidd's own: the words after the session are this command, or break a rule there
pub data IsCommand (line : List ℕ) (words : List Word) : Command → Type 0 where
  made : {live : Bool} {kind : Kind} {others : List Word} {c : Command}
      → Names words live kind others → Makes line kind live others c → IsCommand line words c
  broken : {live : Bool} {kind : Kind} {others : List Word} {column : ℕ}
      → Names words live kind others → IsFirstBad kind others (end_of line) column
      → IsCommand line words (command.Bad (fault.BadLine column))
  unfinished : IsUnfinished words
      → IsCommand line words (command.Bad (fault.BadLine (end_of line)))
  unknown : ¬ IsUnfinished words
      → ((live : Bool) (kind : Kind) (others : List Word) → ¬ Names words live kind others)
      → IsCommand line words (command.Bad fault.UnknownCommand)

-- ---- a line

-- solidd's own: how many sessions there are, beside that of the lines that name none
abbrev pub most_sessions : ℕ
most_sessions = 8

-- solidd's own: the word names a session: `@` and a whole number above 0
pub record IsSession (text : List ℕ) (k : ℕ) : Type 0 where
  pub digits : List ℕ
  pub spelt : text ≡ codes "@" ++ digits
  pub number : IsWholeNumber digits k
  pub some : 0 < k

-- solidd's own: the session and the command of a line
pub data IsLine (line : List ℕ) : ScriptLine → Type 0 where
  of_session : {first : Word} {others : List Word} {k : ℕ} {c : Command}
      → words_of line ≡ first ∷ others → IsSession first.text k → k ≤ most_sessions
      → IsCommand line others c → IsLine line (record { session = k; command = c })
  too_many : {first : Word} {others : List Word} {k : ℕ}
      → words_of line ≡ first ∷ others → IsSession first.text k → most_sessions < k
      → IsLine line (record { session = 0; command = command.Bad fault.TooManySessions })
  no_session : {first : Word} {others : List Word}
      → words_of line ≡ first ∷ others → ((k : ℕ) → ¬ IsSession first.text k)
      → IsLine line (record { session = 0; command = command.Bad (fault.BadLine 1) })
