-- Entries of the directory (IGES 5.3, 2.2.4.4 (directory entry section): two lines of ten fields of
-- eight columns, numbered from 1 to 20). Which fields are read and kept, and the ranges, are
-- solidd's own.
use Rattle.std.specs.Prelude.{◌≡◌, ◌≢◌, ◌≤◌, ◌⊎◌, ℕ, ◌+◌, ◌-◌, ◌*◌, List, [], ◌∷◌, ◌++◌, length}
use Rattle.std.specs.Prelude.{take, drop}
use Rattle.solid_base.specs.Spelling.{AreBlanks}
use Rattle.solid_base.specs.Texts.{blank_attributes}
use Rattle.iges_directory.specs.declared.pairs.Pair.{Pair}
use Rattle.iges_directory.specs.ColumnNumbers.{IsNumber}

-- the columns of fields of one line, from the one to the other; they are counted from 1
abbrev pub fields : ℕ → ℕ → List ℕ → List ℕ
fields from to line = take (8 * (to + 1 - from)) (drop (8 * (from - 1)) line)

-- the eight columns of a field of a line
abbrev pub field : ℕ → List ℕ → List ℕ
field n line = fields n n line

-- the fields that are kept unread: 3 structure, 4 line font, 5 level, 6 view, 8 label display, 9
-- status; 12 line weight, 13 colour, 16 and 17 reserved, 18 label, 19 subscript. Fields 11 to 20
-- are those of the second line
abbrev pub attributes : List ℕ → List ℕ → List ℕ
attributes one two = ((fields 3 6 one ++ fields 8 9 one) ++ fields 2 3 two) ++ fields 6 9 two

-- the entry of the null entity (IGES 5.3, type 0); what it gives is solidd's own
abbrev pub null_pair : Pair
null_pair = record {
  kind = 0;
  first = 0;
  count = 0;
  matrix = 0;
  form = 0;
  attrs = blank_attributes;
}

-- columns hold this number, and it is within two bounds
pub record HoldsWithin (least most n : ℕ) (columns : List ℕ) : Type 0 where
  pub number : IsNumber n columns
  pub at_least : least ≤ n
  pub at_most : n ≤ most

-- the lines give this type: field 1, and field 11, which may be blank
pub record IsOfType (kind : ℕ) (one two : List ℕ) : Type 0 where
  pub first : HoldsWithin 0 99999 kind (field 1 one)
  pub second : HoldsWithin 0 99999 kind (field 1 two) ⊎ AreBlanks (field 1 two)

-- the lines are this entry in a file with so many parameter lines: 1 and 11 the type, 2 the first
-- parameter line, 14 how many there are, which all exist, 7 the matrix, 15 the form
pub record IsEntity (params : ℕ) (one two : List ℕ) (pair : Pair) : Type 0 where
  pub of_type : IsOfType pair.kind one two
  pub not_null : pair.kind ≢ 0
  pub first : HoldsWithin 1 params pair.first (field 2 one)
  pub count : HoldsWithin 1 (params - pair.first + 1) pair.count (field 4 two)
  pub matrix : HoldsWithin 0 9999999 pair.matrix (field 7 one)
  pub form : HoldsWithin 0 99999 pair.form (field 5 two)
  pub attrs : pair.attrs ≡ attributes one two

-- the lines are this entry; of the null entity nothing but the type is read
abbrev pub IsPair : ℕ → List ℕ → List ℕ → Pair → Type 0
IsPair params one two pair =
    (IsOfType 0 one two × (pair ≡ null_pair)) ⊎ IsEntity params one two pair

-- two lines and two lines are these entries
abbrev pub ArePairs : ℕ → List (List ℕ) → List Pair → Type 0
ArePairs params [] [] = Unit {0}
ArePairs params [] (pair ∷ pairs) = ⊥
ArePairs params (one ∷ []) pairs = ⊥
ArePairs params (one ∷ two ∷ lines) [] = ⊥
ArePairs params (one ∷ two ∷ lines) (pair ∷ pairs) =
    IsPair params one two pair × ArePairs params lines pairs

-- how many parameter lines entries have
abbrev pub text_of : List Pair → ℕ
text_of [] = 0
text_of (pair ∷ pairs) = pair.count + text_of pairs

-- the lines are a directory with these entries in a file with so many parameter lines
pub record IsDirectory (params : ℕ) (lines : List (List ℕ)) (pairs : List Pair) : Type 0 where
  pub few : length lines ≤ 200000
  pub entries : ArePairs params lines pairs
  pub text : text_of pairs ≤ 500000
