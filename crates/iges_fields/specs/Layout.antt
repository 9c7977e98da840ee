-- How tokens lie in the lines of a file that is written: solidd's own.
use Rattle.std.specs.Prelude.{◌≡◌, ℕ, ◌+◌, ◌-◌, ◌%◌, ◌<◌, ◌^◌, List, [], ◌∷◌, ◌++◌, Bool, true}
use Rattle.std.specs.Prelude.{false, cond, ◌||◌, ◌==◌, nat_le, length, replicate, decimal, Ok}
use Rattle.std.specs.List.{AllByRecursion, concat}
use Rattle.solid_base.specs.Spelling.{IsWhole, IsReal}
use Rattle.solid_base.specs.Texts.{IsOneLine}
use Rattle.solid_base.specs.declared.entities.Token.{Token}
use Rattle.solid_base.specs.declared.entities.Token.TheVariants as token
use Rattle.iges_fields.specs.declared.kinds.FieldKind.{FieldKind}
use Rattle.iges_fields.specs.declared.kinds.FieldKind.TheVariants as kind
use Rattle.iges_fields.specs.Grammar.{delimiter, IsField}
use Rattle.iges_fields.specs.Reading.{Reading, field_at}

-- ---- tokens as fields

abbrev pub kind_of_token : Token → FieldKind
kind_of_token token.Empty = kind.Empty
kind_of_token (token.Whole text) = kind.Whole
kind_of_token (token.Real text) = kind.Real
kind_of_token (token.Text text) = kind.Text

abbrev pub content_of_token : Token → List ℕ
content_of_token token.Empty = []
content_of_token (token.Whole text) = text
content_of_token (token.Real text) = text
content_of_token (token.Text text) = text

-- a text as its count, H and its bytes (IGES 5.3, 2.2.2 (constants)); a number as it was spelt
abbrev pub spelling_of_token : Token → List ℕ
spelling_of_token token.Empty = []
spelling_of_token (token.Whole text) = text
spelling_of_token (token.Real text) = text
spelling_of_token (token.Text text) = decimal (length text) ++ 72 ∷ text

-- a whole and a real number are spelt as such
abbrev pub IsSpelt : Token → Type 0
IsSpelt token.Empty = Unit {0}
IsSpelt (token.Whole text) = IsWhole text
IsSpelt (token.Real text) = IsReal text
IsSpelt (token.Text text) = Unit {0}

abbrev pub AreSpelt : List Token → Type 0
AreSpelt tokens = AllByRecursion IsSpelt tokens

-- the bytes of each token's content are of one line: none is a line feed
abbrev pub AreOneLine : List Token → Type 0
AreOneLine tokens = AllByRecursion (λ t. IsOneLine (content_of_token t)) tokens

-- how many bytes tokens are spelt with, each with one delimiter after it and no blanks
unfoldable pub spelt_size : List Token → ℕ
spelt_size [] = 0
spelt_size (t ∷ ts) = length (spelling_of_token t) + 1 + spelt_size ts

-- a text is no longer than memory can hold
abbrev pub IsHeld : Token → Type 0
IsHeld token.Empty = Unit {0}
IsHeld (token.Whole text) = Unit {0}
IsHeld (token.Real text) = Unit {0}
IsHeld (token.Text text) = length text < 2 ^ 64

abbrev pub AreHeld : List Token → Type 0
AreHeld tokens = AllByRecursion IsHeld tokens

-- the field that a token is read as
abbrev pub field_of : Token → List ℕ → Bool → Reading
field_of t rest ended = record {
  kind = kind_of_token t;
  text = content_of_token t;
  rest = rest;
  ended = ended;
}

-- whether no token stands after
abbrev pub is_last : List Token → Bool
is_last [] = true
is_last (t ∷ ts) = false

-- a text begins with these fields, and semi ends the last of them; what stands after it is free
abbrev pub AreFields : ℕ → ℕ → List ℕ → List Token → Type 0
AreFields comma semi text [] = Unit {0}
AreFields comma semi text (t ∷ ts) =
    (rest : List ℕ) × IsField comma semi text (field_of t rest (is_last ts))
    × AreFields comma semi rest ts

-- what reading a text gives, field by field, is these tokens, and the record ends after the last
abbrev pub Reads : ℕ → ℕ → List ℕ → List Token → Type 0
Reads comma semi text [] = ⊥
Reads comma semi text (t ∷ []) =
    (rest : List ℕ) × (field_at comma semi text ≡ Ok (field_of t rest true))
Reads comma semi text (t ∷ u ∷ ts) =
    (rest : List ℕ) × (field_at comma semi text ≡ Ok (field_of t rest false))
    × Reads comma semi rest (u ∷ ts)

-- ---- lines

-- a token with the delimiter after it
abbrev pub piece : ℕ → Token → List ℕ
piece d t = spelling_of_token t ++ d ∷ []

-- the blanks before a piece of so many bytes, where so many bytes are laid before it: none where it
-- fits on the line or the line is still empty, else as many as fill the line
abbrev pub gap : ℕ → ℕ → ℕ → ℕ
gap width used size =
    cond ((used % width == 0) || nat_le (used % width + size) width) 0 (width - used % width)

-- a piece, and the blanks before it
abbrev pub placed : ℕ → ℕ → List ℕ → List ℕ
placed width used bytes = replicate (gap width used (length bytes)) 32 ++ bytes

-- tokens, one after the other, where so many bytes are laid before them
unfoldable pub laid : ℕ → ℕ → ℕ → ℕ → List Token → List ℕ
laid width comma semi used [] = []
laid width comma semi used (t ∷ ts) =
    placed width used (piece (delimiter comma semi (is_last ts)) t)
    ++ laid width comma semi
    (used + length (placed width used (piece (delimiter comma semi (is_last ts)) t))) ts

-- lines of this width that hold a text, the last one filled up with blanks
pub record AreLines (width : ℕ) (text : List ℕ) (lines : List (List ℕ)) : Type 0 where
  pub wide : AllByRecursion (λ line. length line ≡ width) lines
  pub blanks : ℕ
  pub few : blanks < width
  pub joined : concat lines ≡ text ++ replicate blanks 32
