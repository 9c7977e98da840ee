-- The first fault of a directory, by its cause. The fields of an entry are those of IGES 5.3,
-- 2.2.4.4 (directory entry section); their ranges and the order of faults are solidd's own: the
-- number of lines, then the pairs of lines one by one; of a pair field 1, field 11, whether their
-- types differ, field 2, field 14, whether the parameter lines so far are too many, field 7 and
-- field 15. Each cause below says too that none before it in this order stands in the pair.
use Rattle.std.specs.Prelude.{◌≡◌, ◌≢◌, ◌≤◌, ◌<◌, ◌⊎◌, ℕ, ◌+◌, ◌-◌, ◌*◌, ◌%◌, List, ◌∷◌, ◌++◌}
use Rattle.std.specs.Prelude.{length}
use Rattle.solid_base.specs.Spelling.{AreBlanks}
use Rattle.iges_directory.specs.declared.directory_faults.DirFault.{DirFault}
use Rattle.iges_directory.specs.declared.directory_faults.DirFault.TheVariants as fault
use Rattle.iges_directory.specs.declared.pairs.Pair.{Pair}
use Rattle.iges_directory.specs.Pairs.{field, HoldsWithin, IsOfType, text_of, IsDirectory}

-- ---- one field

-- solidd's own: eight columns hold a number in this range; blank columns hold 0
abbrev pub IsInRange : ℕ → ℕ → List ℕ → Type 0
IsInRange least most columns = (n : ℕ) × HoldsWithin least most n columns

-- solidd's own: eight columns hold no number in this range
abbrev pub IsOutOfRange : ℕ → ℕ → List ℕ → Type 0
IsOutOfRange least most columns = ¬ IsInRange least most columns

-- ---- the fields of a pair that are right as far as one of them

-- solidd's own: fields 1 and 11 give a type, and not that of the null entity, of which nothing else
-- is read
pub record HasType (one two : List ℕ) : Type 0 where
  pub kind : ℕ
  pub of_type : IsOfType kind one two
  pub not_null : kind ≢ 0

-- solidd's own: field 2 then names one of so many parameter lines
pub record HasFirstLine (params first : ℕ) (one two : List ℕ) : Type 0 where
  pub has_type : HasType one two
  pub number : HoldsWithin 1 params first (field 2 one)

-- solidd's own: field 14 then says how many parameter lines the entity has, which all exist
pub record HasLineCount (params count : ℕ) (one two : List ℕ) : Type 0 where
  pub first : ℕ
  pub first_line : HasFirstLine params first one two
  pub number : HoldsWithin 1 (params - first + 1) count (field 4 two)

-- solidd's own: with those of the entries before it these are then at most 500,000
pub record HasRoom (params : ℕ) (before : List Pair) (one two : List ℕ) : Type 0 where
  pub count : ℕ
  pub line_count : HasLineCount params count one two
  pub few : text_of before + count ≤ 500000

-- ---- the causes: what is wrong with a pair of lines first

-- solidd's own: fields 1 and 11 are in their range, and field 11 is neither blank nor the number of
-- field 1
pub record HasTwoTypes (one two : List ℕ) : Type 0 where
  pub kind : ℕ
  pub again : ℕ
  pub first : HoldsWithin 0 99999 kind (field 1 one)
  pub second : HoldsWithin 0 99999 again (field 1 two)
  pub differ : again ≢ kind
  pub not_blank : ¬ AreBlanks (field 1 two)

-- solidd's own: the fields up to field 2 are right, and field 14 is no number from 1 to that of the
-- lines from the first one on
pub record HasBadCount (params : ℕ) (one two : List ℕ) : Type 0 where
  pub first : ℕ
  pub first_line : HasFirstLine params first one two
  pub bad : IsOutOfRange 1 (params - first + 1) (field 4 two)

-- solidd's own: the fields up to field 14 are right, and with this entity the entries so far have
-- more than 500,000 parameter lines
pub record HasTooMuchText (params : ℕ) (before : List Pair) (one two : List ℕ) : Type 0 where
  pub count : ℕ
  pub line_count : HasLineCount params count one two
  pub many : 500000 < text_of before + count

-- solidd's own: in the pair after these entries the field of this number is no number in its range,
-- and it is the first: 1, 11, 2, 14, 7 and 15 are looked at in this order, the types after field 11
-- and the parameter lines so far after field 14
abbrev pub HasBadField : ℕ → ℕ → List Pair → List ℕ → List ℕ → Type 0
HasBadField params number before one two =
    ((number ≡ 1) × IsOutOfRange 0 99999 (field 1 one)) ⊎
    (((number ≡ 11) × IsInRange 0 99999 (field 1 one) × IsOutOfRange 0 99999 (field 1 two)) ⊎
    (((number ≡ 2) × HasType one two × IsOutOfRange 1 params (field 2 one)) ⊎
    (((number ≡ 14) × HasBadCount params one two) ⊎
    (((number ≡ 7) × HasRoom params before one two × IsOutOfRange 0 9999999 (field 7 one)) ⊎
    ((number ≡ 15) × HasRoom params before one two × IsInRange 0 9999999 (field 7 one)
    × IsOutOfRange 0 99999 (field 5 two))))))

-- ---- a directory

-- solidd's own: the number of lines is right, and of the pair of lines of this entity a property
-- holds, where the lines before it are a directory with the entries before it. An entity is named
-- by the number of its first line, 2i + 1 where i entries stand before it
pub record IsFirstBadPair (params : ℕ) (lines : List (List ℕ)) (entity : ℕ)
    (bad : List Pair → List ℕ → List ℕ → Type 0) : Type 0 where
  pub front : List (List ℕ)
  pub before : List Pair
  pub one : List ℕ
  pub two : List ℕ
  pub rest : List (List ℕ)
  pub even : length lines % 2 ≡ 0
  pub few : length lines ≤ 200000
  pub good : IsDirectory params front before
  pub holds : bad before one two
  pub cut : lines ≡ front ++ one ∷ two ∷ rest
  pub number : entity ≡ 2 * length before + 1

-- solidd's own: this is the first fault of directory lines in a file with so many parameter lines;
-- out of memory is none of theirs
abbrev pub IsDirectoryFault : ℕ → List (List ℕ) → DirFault → Type 0
IsDirectoryFault params lines (fault.Memory e) = ⊥
IsDirectoryFault params lines fault.OddLines = length lines % 2 ≡ 1
IsDirectoryFault params lines fault.TooManyEntities =
    (length lines % 2 ≡ 0) × (200000 < length lines)
IsDirectoryFault params lines (fault.BadField entity number) =
    IsFirstBadPair params lines entity (HasBadField params number)
IsDirectoryFault params lines (fault.TypeDiffers entity) =
    IsFirstBadPair params lines entity (λ before. HasTwoTypes)
IsDirectoryFault params lines (fault.TooMuchText entity) =
    IsFirstBadPair params lines entity (HasTooMuchText params)
