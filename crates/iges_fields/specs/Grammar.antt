-- What a field is, apart from how it is found (IGES 5.3, 2.2.2 (constants) and 2.2.3 (free format)
-- (free format)).
use Rattle.std.specs.Prelude.{◌≡◌, ℕ, ◌<◌, List, [], ◌∷◌, ◌++◌, Bool, cond, length}
use Rattle.solid_base.specs.Digits.{AreDigits, number_of}
use Rattle.solid_base.specs.Spelling.{AreBlanks, IsWhole, IsReal}
use Rattle.iges_fields.specs.declared.kinds.FieldKind.{FieldKind}
use Rattle.iges_fields.specs.declared.kinds.FieldKind.TheVariants as kind
use Rattle.iges_fields.specs.Reading.{Reading}

-- a text (IGES 5.3, 2.2.2 (constants): a string): the digits of its count, H, and that many bytes,
-- whatever they are
pub record IsText (content spelt : List ℕ) : Type 0 where
  pub digits : List ℕ
  pub are_digits : AreDigits digits
  pub some : 0 < length digits
  pub counts : number_of digits ≡ length content
  pub is : spelt ≡ digits ++ 72 ∷ content

-- how a field of this kind and content is spelt
abbrev pub IsSpelling : FieldKind → List ℕ → List ℕ → Type 0
IsSpelling kind.Empty content spelt = (content ≡ []) × (spelt ≡ [])
IsSpelling kind.Whole content spelt = IsWhole content × (spelt ≡ content)
IsSpelling kind.Real content spelt = IsReal content × (spelt ≡ content)
IsSpelling kind.Text content spelt = IsText content spelt

-- the delimiter after a field: semi after the last of a record, comma after the others
abbrev pub delimiter : ℕ → ℕ → Bool → ℕ
delimiter comma semi ended = cond ended semi comma

-- a text begins with a field: blanks, its spelling, blanks and its delimiter
pub record IsField (comma semi : ℕ) (text : List ℕ) (field : Reading) : Type 0 where
  pub before : List ℕ
  pub spelt : List ℕ
  pub after : List ℕ
  pub blank_before : AreBlanks before
  pub spells : IsSpelling field.kind field.text spelt
  pub blank_after : AreBlanks after
  pub is : text ≡ before ++ (spelt ++ (after ++ delimiter comma semi field.ended ∷ field.rest))

-- a text begins with blanks and the count of a text that runs past the end
pub record RunsPast (text : List ℕ) : Type 0 where
  pub before : List ℕ
  pub digits : List ℕ
  pub bytes : List ℕ
  pub blank_before : AreBlanks before
  pub are_digits : AreDigits digits
  pub past : length bytes < number_of digits
  pub is : text ≡ before ++ (digits ++ 72 ∷ bytes)

-- a text is a field with no delimiter after it
pub record IsOpen (text : List ℕ) : Type 0 where
  pub kind : FieldKind
  pub content : List ℕ
  pub before : List ℕ
  pub spelt : List ℕ
  pub after : List ℕ
  pub blank_before : AreBlanks before
  pub spells : IsSpelling kind content spelt
  pub blank_after : AreBlanks after
  pub is : text ≡ before ++ (spelt ++ after)

-- a text begins with no field, with no count that runs past the end, and is no field without a
-- delimiter
pub record IsNoField (comma semi : ℕ) (text : List ℕ) : Type 0 where
  pub no_field : (field : Reading) → IsField comma semi text field → ⊥
  pub no_past : RunsPast text → ⊥
  pub no_open : IsOpen text → ⊥
