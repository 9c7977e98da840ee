-- How a directory is read, in the order of checks, which is solidd's own: the number of lines, then
-- its pairs one by one; of a pair the type, the parameter lines, the matrix and the form. What an
-- entry is stands in Pairs, and what a first fault is in FirstFaults.
use Rattle.std.specs.Prelude.{ℕ, ◌+◌, ◌-◌, ◌*◌, List, [], ◌∷◌, ◌++◌, cond, ◌==◌, ◌&&◌, ◌||◌, not}
use Rattle.std.specs.Prelude.{nat_le, nat_lt, ◌%◌, length, Option, None, Some, Result, Ok, Err}
use Rattle.std.specs.List.{list_all}
use Rattle.solid_base.specs.Outcomes.{◌>>=◌}
use Rattle.solid_base.specs.Spelling.{is_blank}
use Rattle.iges_directory.specs.declared.directory_faults.DirFault.{DirFault}
use Rattle.iges_directory.specs.declared.directory_faults.DirFault.TheVariants as fault
use Rattle.iges_directory.specs.declared.pairs.Pair.{Pair}
use Rattle.iges_directory.specs.ColumnNumbers.{number_in}
use Rattle.iges_directory.specs.Pairs.{field, attributes, null_pair, text_of}

-- a number that a field of an entity holds, where it is within two bounds
unfoldable pub within : ℕ → ℕ → ℕ → ℕ → Option ℕ → Result ℕ DirFault
within entity number least most None = Err (fault.BadField entity number)
within entity number least most (Some n) =
    cond (nat_le least n && nat_le n most) (Ok n) (Err (fault.BadField entity number))

-- the type of an entity: field 1, and field 11, which may be blank and else is the same
unfoldable pub type_in : ℕ → List ℕ → List ℕ → Result ℕ DirFault
type_in entity one two =
    within entity 1 0 99999 (number_in (field 1 one)) >>= λ kind.
    within entity 11 0 99999 (number_in (field 1 two)) >>= λ again.
    cond ((again == kind) || list_all is_blank (field 1 two)) (Ok kind)
    (Err (fault.TypeDiffers entity))

-- the entry of an entity of which the type and the parameter lines are known: field 7 and field 15
abbrev pub after_lines : ℕ → ℕ → ℕ → ℕ → List ℕ → List ℕ → Result Pair DirFault
after_lines entity kind first count one two =
    within entity 7 0 9999999 (number_in (field 7 one)) >>= λ matrix.
    within entity 15 0 99999 (number_in (field 5 two)) >>= λ form.
    Ok (record {
      kind = kind;
      first = first;
      count = count;
      matrix = matrix;
      form = form;
      attrs = attributes one two;
    })

-- the entry of an entity of which the type and the first parameter line are known: field 14, which
-- is at most the number of lines from there on, and the parameter lines of the entries so far, and
-- then the rest
abbrev pub after_first : ℕ → ℕ → ℕ → ℕ → ℕ → List ℕ → List ℕ → Result Pair DirFault
after_first params text entity kind first one two =
    within entity 14 1 (params - first + 1) (number_in (field 4 two)) >>= λ count.
    cond (nat_lt 500000 (text + count)) (Err (fault.TooMuchText entity))
    (after_lines entity kind first count one two)

-- the entry of an entity of this type, after entries with so many parameter lines in a file with
-- params of them: field 2, which is one of them, and then the rest
unfoldable pub entity_in : ℕ → ℕ → ℕ → ℕ → List ℕ → List ℕ → Result Pair DirFault
entity_in params text entity kind one two =
    within entity 2 1 params (number_in (field 2 one)) >>= λ first.
    after_first params text entity kind first one two

-- the entry of a pair of lines; one of type 0 is the null entity
unfoldable pub pair_in : ℕ → ℕ → ℕ → List ℕ → List ℕ → Result Pair DirFault
pair_in params text entity one two =
    type_in entity one two >>= λ kind.
    cond (kind == 0) (Ok null_pair) (entity_in params text entity kind one two)

-- an entry is read, and then those after it; the entity is named by the number of its first line
unfoldable pub pairs_from : ℕ → List Pair → List (List ℕ) → Result (List Pair) DirFault
pairs_from params pairs [] = Ok pairs
pairs_from params pairs (one ∷ []) = Ok pairs
pairs_from params pairs (one ∷ two ∷ lines) =
    pair_in params (text_of pairs) (2 * length pairs + 1) one two >>= λ pair.
    pairs_from params (pairs ++ pair ∷ []) lines

-- the entries of a directory, or the first fault
unfoldable pub directory_in : ℕ → List (List ℕ) → Result (List Pair) DirFault
directory_in params lines =
    cond (not ((length lines % 2) == 0)) (Err fault.OddLines)
    (cond (nat_lt 200000 (length lines)) (Err fault.TooManyEntities) (pairs_from params [] lines))
