-- The next field of a record's text, found from the left (IGES 5.3, 2.2.3 (free format): the
-- parameter delimiter stands between fields, the record delimiter after the last).
use Rattle.std.specs.Prelude.{ℕ, ◌+◌, List, [], ◌∷◌, Bool, true, false, cond, not, ◌&&◌, ◌||◌, ◌==◌}
use Rattle.std.specs.Prelude.{nat_lt, length, take, drop, Option, Some, None, Result, Ok, Err}
use Rattle.std.specs.List.{prefix_len}
use Rattle.solid_base.specs.Digits.{number_of}
use Rattle.solid_base.specs.Spelling.{after_blanks, before_blanks, digit_count, after_digits}
use Rattle.solid_base.specs.Spelling.{class_of, Spelling}
use Rattle.solid_base.specs.Spelling as spelling
use Rattle.iges_fields.specs.declared.kinds.FieldKind.{FieldKind}
use Rattle.iges_fields.specs.declared.kinds.FieldKind.TheVariants as kind
use Rattle.iges_fields.specs.declared.faults.FieldFault.{FieldFault}
use Rattle.iges_fields.specs.declared.faults.FieldFault.TheVariants as fault

-- a field that was read: its kind and content, what stands after its delimiter, and whether that
-- delimiter ends the record
pub record Reading : Type 0 where
  pub kind : FieldKind
  pub text : List ℕ
  pub rest : List ℕ
  pub ended : Bool

-- the field with this content, whose delimiter must stand next
abbrev pub delimited : ℕ → ℕ → FieldKind → List ℕ → List ℕ → Result Reading FieldFault
delimited comma semi kind text [] = Err fault.NoEnd
delimited comma semi kind text (b ∷ rest) =
    cond (b == comma) (Ok (record { kind = kind; text = text; rest = rest; ended = false }))
    (cond (b == semi) (Ok (record { kind = kind; text = text; rest = rest; ended = true }))
    (Err fault.BadToken))

-- a text of so many bytes, whatever they are, in what stands after its H
abbrev pub text_at : ℕ → ℕ → ℕ → List ℕ → Result Reading FieldFault
text_at comma semi count bytes =
    cond (nat_lt (length bytes) count) (Err fault.BadText)
    (delimited comma semi kind.Text (take count bytes) (after_blanks (drop count bytes)))

abbrev pub is_delimiter : ℕ → ℕ → ℕ → Bool
is_delimiter comma semi b = (b == comma) || (b == semi)

-- how many bytes stand before the first delimiter
abbrev pub bytes_before : ℕ → ℕ → List ℕ → ℕ
bytes_before comma semi bytes = prefix_len (λ b. not (is_delimiter comma semi b)) bytes

-- what a spelling makes of its field
abbrev pub kind_of : Option Spelling → Option FieldKind
kind_of None = None
kind_of (Some spelling.Empty) = Some kind.Empty
kind_of (Some spelling.Whole) = Some kind.Whole
kind_of (Some spelling.Real) = Some kind.Real

-- a field of this kind, where it is one
abbrev pub of_kind : ℕ → ℕ → Option FieldKind → List ℕ → List ℕ → Result Reading FieldFault
of_kind comma semi None text rest = Err fault.BadToken
of_kind comma semi (Some kind) text rest = delimited comma semi kind text rest

-- a field that is no text: it runs to the next delimiter, and the blanks after it do not count
abbrev pub word_at : ℕ → ℕ → List ℕ → Result Reading FieldFault
word_at comma semi bytes =
    of_kind comma semi
    (kind_of (class_of (before_blanks (take (bytes_before comma semi bytes) bytes))))
    (before_blanks (take (bytes_before comma semi bytes) bytes))
    (drop (bytes_before comma semi bytes) bytes)

-- whether an H stands after so many digits, of which there is one at least
abbrev pub is_counted : ℕ → List ℕ → Bool
is_counted count [] = false
is_counted count (b ∷ bs) = not (count == 0) && (b == 72)

-- the field that begins here: a text where digits and H do, else one that runs to the next
-- delimiter
abbrev pub content_at : ℕ → ℕ → List ℕ → Result Reading FieldFault
content_at comma semi bytes =
    cond (is_counted (digit_count bytes) (after_digits bytes))
    (text_at comma semi (number_of (take (digit_count bytes) bytes))
    (drop (digit_count bytes + 1) bytes))
    (word_at comma semi bytes)

-- the next field of a text, or the first fault
unfoldable pub field_at : ℕ → ℕ → List ℕ → Result Reading FieldFault
field_at comma semi text = content_at comma semi (after_blanks text)
