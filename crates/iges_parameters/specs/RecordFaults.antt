-- The first fault of a record, said of its whole list of fields: parameter i is field i, and the
-- tables say what is wanted of each. How the fields are read plays no part in it.
use Rattle.std.specs.Prelude.{◌≡◌, ◌⊎◌, ℕ, ◌+◌, ◌<◌, ◌≤◌, List, [], ◌∷◌, ◌++◌, length, map}
use Rattle.std.specs.Prelude.{take, drop, get_or, replicate, Bool, true, false, cond, ◌||◌}
use Rattle.std.specs.Prelude.{◌&&◌, ◌==◌, nat_lt, Option, Some, None, Result, Ok, Err}
use Rattle.std.specs.Prelude.{ℤ, pos, negsuc, ◌<ℤ◌, unsigned_abs, int_lt}
use Rattle.std.specs.List.{slice_get}
use Rattle.std.specs.Ordering.{int_eq}
use Rattle.solid_base.specs.Ranges.{most_whole, column1, column2, column3}
use Rattle.solid_base.specs.Trees.{Operation, item_of}
use Rattle.solid_base.specs.declared.entities.Token.{Token}
use Rattle.solid_base.specs.declared.entities.Token.TheVariants as token
use Rattle.solid_base.specs.declared.entities.RowText.{RowText}
use Rattle.solid_base.specs.declared.geometry.Affine.{Affine}
use Rattle.solid_base.specs.declared.solids.Item.{Item}
use Rattle.solid_base.specs.declared.solids.Item.TheVariants as item
use Rattle.decimal_scale.specs.declared.faults.RealFault.{RealFault}
use Rattle.decimal_scale.specs.Reading.{reading_of}
use Rattle.boolean_tree.specs.Faults.{LacksOperands, LeavesOthers}
use Rattle.iges_parameters.specs.declared.faults.RowFault.{RowFault}
use Rattle.iges_parameters.specs.declared.reading.records.RecordText.{RecordText}
use Rattle.iges_parameters.specs.declared.faults.RowFault.TheVariants as fault
use Rattle.iges_parameters.specs.declared.tables.Rule.{Rule}
use Rattle.iges_parameters.specs.declared.tables.Values.{Values}
use Rattle.iges_parameters.specs.declared.tables.Values.TheVariants as values
use Rattle.iges_parameters.specs.RecordFields.{fields_of}
use Rattle.iges_parameters.specs.Rules.{integer_of, has_size, is_far}
use Rattle.iges_parameters.specs.Tables.{block_rules, wedge_rules, cylinder_rules, cone_rules}
use Rattle.iges_parameters.specs.Tables.{sphere_rules, torus_rules, ellipsoid_rules, matrix_rules}
use Rattle.iges_parameters.specs.Tables.{instance_rules, list_rules, count, number, number_or_none}
use Rattle.iges_parameters.specs.Tables.{is_read}
use Rattle.iges_parameters.specs.Rows.{point_at, affine_of}
use Rattle.iges_parameters.specs.Rows.{is_unit, is_right_angle, are_orthonormal}
use Rattle.iges_parameters.specs.Writing.{number_of_item}

-- ---- what is wanted

-- IGES 5.3, 2.2.4.4 and 4: field 0 is the type's number; a further field is a parameter that a
-- table rules, or an item of a Boolean tree
pub data Wanted : Type 0 where
  type_number : ℕ → Wanted
  ruled : Rule → Wanted
  tree_item : Wanted

-- solidd's own: the field with this index; after the last field of a record each is empty
abbrev pub field_with : List (Option Token) → ℕ → Option Token
field_with fields index = get_or fields index (Some token.Empty)

-- ---- the number of a field

-- solidd's own: the steps of a real, 0 where it is none
abbrev pub steps_in : Result ℤ RealFault → ℤ
steps_in (Ok n) = n
steps_in (Err e) = pos 0

-- solidd's own: the number that a text spells: a whole number for a count or an entity, else steps
abbrev pub number_in : Values → List ℕ → ℤ
number_in values.Real text = steps_in (reading_of text)
number_in values.Size text = steps_in (reading_of text)
number_in (values.SizeBelow other) text = steps_in (reading_of text)
number_in (values.Below other) text = steps_in (reading_of text)
number_in values.Count text = integer_of text
number_in values.Number text = integer_of text

-- solidd's own: a default, 0 where there is none
abbrev pub default_or_0 : Option ℤ → ℤ
default_or_0 None = pos 0
default_or_0 (Some n) = n

-- solidd's own: the number of a field of which this is wanted; an empty one has its default
abbrev pub number_of_field : Wanted → Option Token → ℤ
number_of_field wanted None = pos 0
number_of_field (type_number kind) (Some token.Empty) = pos 0
number_of_field (ruled rule) (Some token.Empty) = default_or_0 rule.default
number_of_field tree_item (Some token.Empty) = pos 0
number_of_field wanted (Some (token.Text text)) = pos 0
number_of_field (type_number kind) (Some (token.Whole text)) = integer_of text
number_of_field (ruled rule) (Some (token.Whole text)) = number_in rule.values text
number_of_field tree_item (Some (token.Whole text)) = integer_of text
number_of_field (type_number kind) (Some (token.Real text)) = pos 0
number_of_field (ruled rule) (Some (token.Real text)) = number_in rule.values text
number_of_field tree_item (Some (token.Real text)) = pos 0

-- solidd's own: the numbers of the first fields, one for each of which something is wanted
abbrev pub numbers_of : List Wanted → List (Option Token) → List ℤ
numbers_of [] fields = []
numbers_of (w ∷ wanted) [] = number_of_field w (Some token.Empty) ∷ numbers_of wanted []
numbers_of (w ∷ wanted) (f ∷ fields) = number_of_field w f ∷ numbers_of wanted fields

-- IGES 5.3, type 180: the item with this number, where it has one
abbrev pub item_of_number : ℤ → Item
item_of_number (negsuc n) = item.Operand (n + 1)
item_of_number (pos n) = cond (n == 1) item.Join (cond (n == 2) item.Meet item.Less)

-- IGES 5.3, type 180: the items of a tree by a record's numbers: after the type's number and the
-- number of items
abbrev pub items_among : List ℤ → List Item
items_among numbers = map item_of_number (drop 2 numbers)

-- ---- what is wrong with one field

-- solidd's own: a real that can't be read near enough: above 100,000 units
abbrev pub is_beyond_steps : Result ℤ RealFault → Bool
is_beyond_steps (Ok n) = is_far n
is_beyond_steps (Err e) = true

-- solidd's own: a whole number of a magnitude above 9,999,999
abbrev pub is_long : ℤ → Bool
is_long n = nat_lt most_whole (unsigned_abs n)

-- solidd's own: a number beyond the bounds of its kind
abbrev pub is_beyond : Values → List ℕ → Bool
is_beyond values.Real text = is_beyond_steps (reading_of text)
is_beyond values.Size text = is_beyond_steps (reading_of text)
is_beyond (values.SizeBelow other) text = is_beyond_steps (reading_of text)
is_beyond (values.Below other) text = is_beyond_steps (reading_of text)
is_beyond values.Count text = is_long (integer_of text)
is_beyond values.Number text = is_long (integer_of text) || int_lt (integer_of text) (pos 0)

-- solidd's own: a number beyond its bounds is TooFar; one within them that hasn't its size is
-- BadSize
abbrev pub IsOutside : ℕ → Bool → Bool → RowFault → Type 0
IsOutside index true sized f = f ≡ fault.TooFar index
IsOutside index false false f = f ≡ fault.BadSize index
IsOutside index false true f = ⊥

-- IGES 5.3, type 180: parameter n has this number: it is no item's, or it is an operation's that
-- lacks operands after these items
abbrev pub IsNoItem : ℕ → List Item → ℤ → Type 0
IsNoItem n before number =
    (number ≡ pos 0) ⊎ ((pos 3 <ℤ number)
    ⊎ ((o : Operation) × (number ≡ number_of_item (item_of o))
    × LacksOperands n (before ++ item_of o ∷ [])))

-- solidd's own: an item's number beyond its bounds is TooFar; one within them that is no item after
-- these is BadPostfix
abbrev pub IsWrongItem : ℕ → List Item → Bool → ℤ → RowFault → Type 0
IsWrongItem index before true n f = f ≡ fault.TooFar index
IsWrongItem index before false n f = IsNoItem index before n × (f ≡ fault.BadPostfix index)

-- solidd's own: an empty field is Missing where it has no default
abbrev pub IsMissing : Wanted → ℕ → RowFault → Type 0
IsMissing (type_number kind) index f = f ≡ fault.Missing index
IsMissing (ruled rule) index f = (rule.default ≡ None) × (f ≡ fault.Missing index)
IsMissing tree_item index f = f ≡ fault.Missing index

-- solidd's own: a whole number is wanted where a count or an entity stands, else a real
abbrev pub is_whole : Values → Bool
is_whole values.Real = false
is_whole values.Size = false
is_whole (values.SizeBelow other) = false
is_whole (values.Below other) = false
is_whole values.Count = true
is_whole values.Number = true

-- solidd's own: what is wrong with a whole number: as field 0 it is another than the type's; as a
-- parameter it is outside its bounds; as an item of a tree it is none
abbrev pub IsWrongWhole : Wanted → ℕ → List ℤ → List ℕ → RowFault → Type 0
IsWrongWhole (type_number kind) index before text f =
    (int_eq (integer_of text) (pos kind) ≡ false) × (f ≡ fault.WrongKind index)
IsWrongWhole (ruled rule) index before text f =
    IsOutside index (is_beyond rule.values text)
    (has_size rule.values (number_in rule.values text) (drop 1 before)) f
IsWrongWhole tree_item index before text f =
    IsWrongItem index (items_among before) (is_long (integer_of text)) (integer_of text) f

-- solidd's own: what is wrong with a real number: a whole number is wanted, or it is outside its
-- bounds
abbrev pub IsWrongReal : Wanted → ℕ → List ℤ → List ℕ → RowFault → Type 0
IsWrongReal (type_number kind) index before text f = f ≡ fault.WrongKind index
IsWrongReal (ruled rule) index before text f =
    cond {A = Type 0} (is_whole rule.values) (f ≡ fault.WrongKind index)
    (IsOutside index (is_beyond rule.values text)
    (has_size rule.values (number_in rule.values text) (drop 1 before)) f)
IsWrongReal tree_item index before text f = f ≡ fault.WrongKind index

-- solidd's own: a field has this fault, where this is wanted of it and these numbers stand before
-- it, in this order: Token, Missing, WrongKind, TooFar, BadSize, BadPostfix
abbrev pub IsFieldFault : Wanted → ℕ → List ℤ → Option Token → RowFault → Type 0
IsFieldFault wanted index before None f = f ≡ fault.Token index
IsFieldFault wanted index before (Some token.Empty) f = IsMissing wanted index f
IsFieldFault wanted index before (Some (token.Text text)) f = f ≡ fault.WrongKind index
IsFieldFault wanted index before (Some (token.Real text)) f =
    IsWrongReal wanted index before text f
IsFieldFault wanted index before (Some (token.Whole text)) f =
    IsWrongWhole wanted index before text f

-- ---- the first field with a fault

-- solidd's own: the field with this index has this fault
abbrev pub HasFault : List Wanted → List (Option Token) → ℕ → RowFault → Type 0
HasFault wanted fields index f =
    (w : Wanted) × (slice_get wanted index ≡ Some w)
    × IsFieldFault w index (take index (numbers_of wanted fields)) (field_with fields index) f

-- solidd's own: the fault of the first field that has one
pub record IsFirstFault (wanted : List Wanted) (fields : List (Option Token)) (f : RowFault)
    : Type 0 where
  pub index : ℕ
  pub has : HasFault wanted fields index f
  pub none_before : (i : ℕ) (g : RowFault) → i < index → HasFault wanted fields i g → ⊥

-- solidd's own: no field of which something is wanted has a fault
abbrev pub AreFaultless : List Wanted → List (Option Token) → Type 0
AreFaultless wanted fields = (i : ℕ) (g : RowFault) → HasFault wanted fields i g → ⊥

-- ---- the tables of the types

-- IGES 5.3, 4: the table of a primitive's type
unfoldable pub solid_rules : ℕ → List Rule
solid_rules kind =
    cond (kind == 150) block_rules
    (cond (kind == 152) wedge_rules
    (cond (kind == 154) cylinder_rules
    (cond (kind == 156) cone_rules
    (cond (kind == 158) sphere_rules
    (cond (kind == 160) torus_rules
    (cond (kind == 168) ellipsoid_rules []))))))

-- IGES 5.3, 4: the parameters of a type; those of a Boolean tree and of an assembly are as many as
-- their first parameter says
unfoldable pub parameters_with : ℕ → ℕ → List Wanted
parameters_with kind items =
    cond (kind == 124) (map ruled matrix_rules)
    (cond (kind == 180) (map ruled list_rules ++ replicate items tree_item)
    (cond (kind == 184)
    (map ruled (list_rules ++ replicate items number ++ replicate items number_or_none))
    (cond (kind == 430) (map ruled instance_rules) (map ruled (solid_rules kind)))))

-- IGES 5.3, types 180 and 184: how many items parameter 1 says
abbrev pub item_count : List (Option Token) → ℕ
item_count fields = unsigned_abs (number_of_field (ruled count) (field_with fields 1))

-- IGES 5.3, 4: what is wanted of the fields of a record: the type's number, and its parameters
abbrev pub wanted_of : ℕ → List (Option Token) → List Wanted
wanted_of kind fields = type_number kind ∷ parameters_with kind (item_count fields)

-- ---- what is wrong with the parameters together

-- IGES 5.3, 4: where the axes of a type begin: one axis, or the local X axis and the local Z axis
unfoldable pub axes_of : ℕ → List ℕ
axes_of kind =
    cond (kind == 150) (7 ∷ 10 ∷ [])
    (cond (kind == 152) (8 ∷ 11 ∷ [])
    (cond (kind == 154) (6 ∷ [])
    (cond (kind == 156) (7 ∷ [])
    (cond (kind == 160) (6 ∷ [])
    (cond (kind == 168) (7 ∷ 10 ∷ []) [])))))

-- solidd's own: the first axis that isn't of unit length, or that isn't at a right angle to the one
-- before it
abbrev pub IsAxisFault : List ℕ → List ℤ → RowFault → Type 0
IsAxisFault [] numbers f = ⊥
IsAxisFault (a ∷ []) numbers f =
    (is_unit (point_at numbers a) ≡ false) × (f ≡ fault.BadAxis a)
IsAxisFault (a ∷ b ∷ more) numbers f =
    ((is_unit (point_at numbers a) ≡ false) × (f ≡ fault.BadAxis a))
    ⊎ ((is_unit (point_at numbers a) ≡ true)
    × ((is_unit (point_at numbers b) && is_right_angle (point_at numbers a) (point_at numbers b))
    ≡ false) × (f ≡ fault.BadAxis b))

-- solidd's own: a matrix whose columns are out of their bounds
abbrev pub IsMatrixFault : Affine → RowFault → Type 0
IsMatrixFault a f =
    (are_orthonormal (column1 a) (column2 a) (column3 a) ≡ false) × (f ≡ fault.BadMatrix)

-- solidd's own: what is wrong with these numbers of a record together: the items of a tree leave
-- other than one, an axis or a matrix is out of its bounds
pub data IsFaultTogether (kind : ℕ) (numbers : List ℤ) (f : RowFault) : Type 0 where
  other_trees : kind ≡ 180 → LeavesOthers (items_among numbers) → f ≡ fault.BadPostfix 1
      → IsFaultTogether kind numbers f
  wrong_axis : IsAxisFault (axes_of kind) (drop 1 numbers) f → IsFaultTogether kind numbers f
  wrong_matrix : kind ≡ 124 → IsMatrixFault (affine_of (drop 1 numbers)) f
      → IsFaultTogether kind numbers f

-- ---- the fields after the parameters

-- solidd's own: the first place after so many fields where no field stands
pub record IsTailFault (wanted : ℕ) (fields : List (Option Token)) (f : RowFault) : Type 0 where
  pub index : ℕ
  pub after : wanted ≤ index
  pub no_field : slice_get fields index ≡ Some None
  pub none_before : (i : ℕ) → wanted ≤ i → i < index → slice_get fields i ≡ Some None → ⊥
  pub is : f ≡ fault.Token index

-- ---- records

-- solidd's own: the first fault of a record of this type and form that has these fields: of a type
-- that isn't read; of the first faulty parameter; else of the parameters together; else of the
-- fields after them
pub data IsRecordFault (kind form : ℕ) (fields : List (Option Token)) (f : RowFault) : Type 0 where
  not_read : is_read kind form ≡ false → f ≡ fault.NotRead → IsRecordFault kind form fields f
  in_parameter : is_read kind form ≡ true → IsFirstFault (wanted_of kind fields) fields f
      → IsRecordFault kind form fields f
  together : is_read kind form ≡ true → AreFaultless (wanted_of kind fields) fields
      → IsFaultTogether kind (numbers_of (wanted_of kind fields) fields) f
      → IsRecordFault kind form fields f
  in_tail : is_read kind form ≡ true → AreFaultless (wanted_of kind fields) fields
      → ((g : RowFault) → IsFaultTogether kind (numbers_of (wanted_of kind fields) fields) g → ⊥)
      → IsTailFault (length (wanted_of kind fields)) fields f
      → IsRecordFault kind form fields f

-- solidd's own: the first fault of an entity's record in a file with these delimiters
abbrev pub IsRecordFaultIn : ℕ → ℕ → RowText → RowFault → Type 0
IsRecordFaultIn comma semi source f =
    IsRecordFault source.kind source.form (fields_of comma semi source.text) f

-- solidd's own: the same of a record that is read where it stands
abbrev pub IsBorrowedRecordFault : ℕ → ℕ → RecordText → RowFault → Type 0
IsBorrowedRecordFault comma semi source f =
    IsRecordFault source.kind source.form (fields_of comma semi source.text.now) f
