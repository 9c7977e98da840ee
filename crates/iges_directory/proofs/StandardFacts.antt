-- Worked directories: a fault of each kind and its edges, and which of two faults is the first.
use Rattle.std.proofs.Common.{ℕ, List, [], ◌∷◌, ◌++◌, codes, length, replicate, refl, arith}
use Rattle.std.proofs.lemmas.List.{length-replicate}
use Rattle.solid_base.specs.Columns.{digits_in}
use Rattle.iges_directory.specs.declared.directory_faults.DirFault.{DirFault}
use Rattle.iges_directory.specs.declared.directory_faults.DirFault.TheVariants as fault
use Rattle.iges_directory.specs.ColumnNumbers.{number_in}
use Rattle.iges_directory.specs.Pairs.{IsDirectory}
use Rattle.iges_directory.specs.DirectoryReading.{within, type_in, entity_in, pair_in, pairs_from, directory_in}
use Rattle.iges_directory.specs.FirstFaults.{IsDirectoryFault}
use Rattle.iges_directory.proofs.FirstFaultLaws.{fault_again, fault_takes}

-- ---- lines

abbrev sphere : List ℕ
sphere = codes "     158"

abbrev zero : List ℕ
zero = codes "       0"

abbrev one : List ℕ
one = codes "       1"

abbrev word : List ℕ
word = codes "       x"

-- a pair of lines by fields 1, 2, 7, 11, 14 and 15; all others are blank
abbrev pair : List ℕ → List ℕ → List ℕ → List ℕ → List ℕ → List ℕ → List (List ℕ)
pair kind first matrix again count form =
    (kind ++ first ++ replicate 32 32 ++ matrix ++ replicate 24 32) ∷ (again ++ replicate 16 32 ++ count ++ form ++ replicate 40 32) ∷ []

-- a sphere with one parameter line, the first
abbrev right : List (List ℕ)
right = pair sphere one zero sphere one zero

-- ---- the number of lines

odd_before_fields : (a b c : List ℕ) → IsDirectoryFault 0 (a ∷ b ∷ c ∷ []) fault.OddLines
odd_before_fields a b c = refl

too_many : (line : List ℕ) → IsDirectoryFault 0 (replicate 200002 line) fault.TooManyEntities
too_many line = rw (length-replicate 200002 line) (refl, omega arith)

odd_before_too_many : (line : List ℕ) → IsDirectoryFault 0 (replicate 200003 line) fault.OddLines
odd_before_too_many line = omega (arith, length-replicate 200003 line)

not_too_many : (line : List ℕ) → ¬ IsDirectoryFault 0 (replicate 200000 line) fault.TooManyEntities
not_too_many line h = omega (arith, h.1, length-replicate 200000 line)

-- ---- one pair

word_in_field_1 : IsDirectoryFault 1 (pair word one zero sphere one zero) (fault.BadField 1 1)
unfolding directory_in pairs_from pair_in type_in entity_in within number_in digits_in
word_in_field_1 = fault_takes 1 (pair word one zero sphere one zero) (fault.BadField 1 1) refl

type_of_six_digits : IsDirectoryFault 1 (pair (codes "  100000") one zero sphere one zero) (fault.BadField 1 1)
unfolding directory_in pairs_from pair_in type_in entity_in within number_in digits_in
type_of_six_digits = fault_takes 1 (pair (codes "  100000") one zero sphere one zero) (fault.BadField 1 1) refl

negative_field_11 : IsDirectoryFault 1 (pair sphere one zero (codes "    -158") one zero) (fault.BadField 1 11)
unfolding directory_in pairs_from pair_in type_in entity_in within number_in digits_in
negative_field_11 = fault_takes 1 (pair sphere one zero (codes "    -158") one zero) (fault.BadField 1 11) refl

two_types : IsDirectoryFault 1 (pair sphere one zero (codes "     180") one zero) (fault.TypeDiffers 1)
unfolding directory_in pairs_from pair_in type_in entity_in within number_in digits_in
two_types = fault_takes 1 (pair sphere one zero (codes "     180") one zero) (fault.TypeDiffers 1) refl

line_0_in_field_2 : IsDirectoryFault 1 (pair sphere zero zero sphere one zero) (fault.BadField 1 2)
unfolding directory_in pairs_from pair_in type_in entity_in within number_in digits_in
line_0_in_field_2 = fault_takes 1 (pair sphere zero zero sphere one zero) (fault.BadField 1 2) refl

line_after_the_last : IsDirectoryFault 3 (pair sphere (codes "       4") zero sphere one zero) (fault.BadField 1 2)
unfolding directory_in pairs_from pair_in type_in entity_in within number_in digits_in
line_after_the_last = fault_takes 3 (pair sphere (codes "       4") zero sphere one zero) (fault.BadField 1 2) refl

no_lines_in_field_14 : IsDirectoryFault 3 (pair sphere (codes "       3") zero sphere zero zero) (fault.BadField 1 14)
unfolding directory_in pairs_from pair_in type_in entity_in within number_in digits_in
no_lines_in_field_14 = fault_takes 3 (pair sphere (codes "       3") zero sphere zero zero) (fault.BadField 1 14) refl

one_line_too_many : IsDirectoryFault 3 (pair sphere (codes "       2") zero sphere (codes "       3") zero) (fault.BadField 1 14)
unfolding directory_in pairs_from pair_in type_in entity_in within number_in digits_in
one_line_too_many = fault_takes 3 (pair sphere (codes "       2") zero sphere (codes "       3") zero) (fault.BadField 1 14) refl

lines_of_one_entity : IsDirectoryFault 600000 (pair sphere one zero sphere (codes "  500001") zero) (fault.TooMuchText 1)
unfolding directory_in pairs_from pair_in type_in entity_in within number_in digits_in
lines_of_one_entity = fault_takes 600000 (pair sphere one zero sphere (codes "  500001") zero) (fault.TooMuchText 1) refl

matrix_of_eight_digits : IsDirectoryFault 1 (pair sphere one (codes "10000000") sphere one zero) (fault.BadField 1 7)
unfolding directory_in pairs_from pair_in type_in entity_in within number_in digits_in
matrix_of_eight_digits = fault_takes 1 (pair sphere one (codes "10000000") sphere one zero) (fault.BadField 1 7) refl

form_of_six_digits : IsDirectoryFault 1 (pair sphere one zero sphere one (codes "  100000")) (fault.BadField 1 15)
unfolding directory_in pairs_from pair_in type_in entity_in within number_in digits_in
form_of_six_digits = fault_takes 1 (pair sphere one zero sphere one (codes "  100000")) (fault.BadField 1 15) refl

-- ---- two faults in one pair: the first in the order of checks

field_1_before_field_2 : IsDirectoryFault 1 (pair word word zero sphere one zero) (fault.BadField 1 1)
unfolding directory_in pairs_from pair_in type_in entity_in within number_in digits_in
field_1_before_field_2 = fault_takes 1 (pair word word zero sphere one zero) (fault.BadField 1 1) refl

field_11_before_types : IsDirectoryFault 1 (pair sphere word zero word one zero) (fault.BadField 1 11)
unfolding directory_in pairs_from pair_in type_in entity_in within number_in digits_in
field_11_before_types = fault_takes 1 (pair sphere word zero word one zero) (fault.BadField 1 11) refl

types_before_field_2 : IsDirectoryFault 1 (pair sphere word zero one one zero) (fault.TypeDiffers 1)
unfolding directory_in pairs_from pair_in type_in entity_in within number_in digits_in
types_before_field_2 = fault_takes 1 (pair sphere word zero one one zero) (fault.TypeDiffers 1) refl

field_2_before_field_14 : IsDirectoryFault 1 (pair sphere word zero sphere word zero) (fault.BadField 1 2)
unfolding directory_in pairs_from pair_in type_in entity_in within number_in digits_in
field_2_before_field_14 = fault_takes 1 (pair sphere word zero sphere word zero) (fault.BadField 1 2) refl

field_14_before_field_7 : IsDirectoryFault 1 (pair sphere one word sphere word zero) (fault.BadField 1 14)
unfolding directory_in pairs_from pair_in type_in entity_in within number_in digits_in
field_14_before_field_7 = fault_takes 1 (pair sphere one word sphere word zero) (fault.BadField 1 14) refl

text_before_field_7 : IsDirectoryFault 600000 (pair sphere one word sphere (codes "  500001") zero) (fault.TooMuchText 1)
unfolding directory_in pairs_from pair_in type_in entity_in within number_in digits_in
text_before_field_7 = fault_takes 600000 (pair sphere one word sphere (codes "  500001") zero) (fault.TooMuchText 1) refl

field_7_before_field_15 : IsDirectoryFault 1 (pair sphere one word sphere one word) (fault.BadField 1 7)
unfolding directory_in pairs_from pair_in type_in entity_in within number_in digits_in
field_7_before_field_15 = fault_takes 1 (pair sphere one word sphere one word) (fault.BadField 1 7) refl

-- ---- several pairs

-- a fault in the last pair
last_pair : IsDirectoryFault 1 (right ++ right ++ pair sphere one zero sphere one word) (fault.BadField 5 15)
unfolding directory_in pairs_from pair_in type_in entity_in within number_in digits_in
last_pair = fault_takes 1 (right ++ right ++ pair sphere one zero sphere one word) (fault.BadField 5 15) refl

-- the first of two faulty pairs, though the second has a field that is checked earlier
first_pair : IsDirectoryFault 1 (pair sphere one word sphere one zero ++ pair word one zero sphere one zero) (fault.BadField 1 7)
unfolding directory_in pairs_from pair_in type_in entity_in within number_in digits_in
first_pair = fault_takes 1 (pair sphere one word sphere one zero ++ pair word one zero sphere one zero) (fault.BadField 1 7) refl

-- the second pair alone has few lines, both together too many
lines_of_two_entities : IsDirectoryFault 600000 (pair sphere one zero sphere (codes "  500000") zero ++ right) (fault.TooMuchText 3)
unfolding directory_in pairs_from pair_in type_in entity_in within number_in digits_in
lines_of_two_entities = fault_takes 600000 (pair sphere one zero sphere (codes "  500000") zero ++ right) (fault.TooMuchText 3) refl

-- a null entity adds no lines, and its other fields aren't read
null_entity_between : IsDirectoryFault 600000 (pair sphere one zero sphere (codes "  500000") zero ++ pair zero word word zero word word ++ right) (fault.TooMuchText 5)
unfolding directory_in pairs_from pair_in type_in entity_in within number_in digits_in
null_entity_between = fault_takes 600000 (pair sphere one zero sphere (codes "  500000") zero ++ pair zero word word zero word word ++ right) (fault.TooMuchText 5) refl

-- ---- no fault

no_lines : IsDirectory 0 [] []
no_lines = record { few = omega arith; entries = tt; text = omega arith }

-- the greatest type, matrix and form, and the last parameter line
abbrev greatest : List (List ℕ)
greatest = pair (codes "   99999") one (codes " 9999999") (codes "        ") one (codes "   99999")

greatest_is_right : (f : DirFault) → ¬ IsDirectoryFault 1 greatest f
unfolding directory_in pairs_from pair_in type_in entity_in within number_in digits_in
greatest_is_right f h = let e = fault_again 1 greatest f h in cc

-- exactly 500,000 parameter lines
text_is_right : (f : DirFault) → ¬ IsDirectoryFault 500000 (pair sphere one zero sphere (codes "  500000") zero) f
unfolding directory_in pairs_from pair_in type_in entity_in within number_in digits_in
text_is_right f h = let e = fault_again 500000 (pair sphere one zero sphere (codes "  500000") zero) f h in cc
