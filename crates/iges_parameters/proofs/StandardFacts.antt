-- Worked records: a fault of each kind and its edges, and which of two faults is the first.
use Rattle.std.proofs.Common.{ℕ, List, [], ◌∷◌, codes, Option, Some, None, refl}
use Rattle.solid_base.specs.declared.entities.Token.{Token}
use Rattle.solid_base.specs.declared.entities.Token.TheVariants as token
use Rattle.solid_base.specs.Decimal.{nearest}
use Rattle.decimal_scale.specs.Reading.{reading_of}
use Rattle.boolean_tree.specs.Spelling.{trees_of_items}
use Rattle.iges_parameters.specs.declared.faults.RowFault.{RowFault}
use Rattle.iges_parameters.specs.declared.faults.RowFault.TheVariants as fault
use Rattle.iges_parameters.specs.Rules.{token_at, whole_of, number_by, has_size, value_of}
use Rattle.iges_parameters.specs.Rules.{parameter_at, numbers_from}
use Rattle.iges_parameters.specs.Tables.{block_rules, wedge_rules, cylinder_rules}
use Rattle.iges_parameters.specs.Tables.{sphere_rules, torus_rules, matrix_rules}
use Rattle.iges_parameters.specs.Tables.{instance_rules, list_rules, is_read}
use Rattle.iges_parameters.specs.Rows.{block_of, wedge_of, cylinder_of, sphere_of}
use Rattle.iges_parameters.specs.Rows.{torus_of, affine_of, checked_prim}
use Rattle.iges_parameters.specs.Rows.{checked_affine, prim_at}
use Rattle.iges_parameters.specs.Lists.{count_at, item_with, item_at, items_from, tree_at}
use Rattle.iges_parameters.specs.Lists.{placed_at, assembly_at}
use Rattle.iges_parameters.specs.Records.{type_of, type_at, matrix_row, instance_row, tree_row}
use Rattle.iges_parameters.specs.Records.{assembly_row, row_at, tail_from, record_of}
use Rattle.iges_parameters.specs.RecordFaults.{IsRecordFault}
use Rattle.iges_parameters.proofs.RecordFaultsRead.{fault_read_is_first, first_fault_is_read}

-- ---- fields

abbrev whole : List ℕ → Option Token
whole spelt = Some (token.Whole spelt)

abbrev real : List ℕ → Option Token
real spelt = Some (token.Real spelt)

abbrev text : List ℕ → Option Token
text content = Some (token.Text content)

abbrev empty : Option Token
empty = Some token.Empty

-- ---- types that aren't read, and field 0

pub sphere_of_form_1 : IsRecordFault 158 1 (None ∷ []) fault.NotRead
unfolding record_of is_read type_at type_of token_at row_at tail_from prim_at
    numbers_from parameter_at value_of number_by has_size reading_of nearest
    checked_prim sphere_of sphere_rules
sphere_of_form_1 = fault_read_is_first 158 1 0 _ fault.NotRead refl

pub no_type_number : IsRecordFault 158 0 [] (fault.Missing 0)
unfolding record_of is_read type_at type_of token_at row_at tail_from prim_at
    numbers_from parameter_at value_of number_by has_size reading_of nearest
    checked_prim sphere_of sphere_rules
no_type_number = fault_read_is_first 158 0 0 _ (fault.Missing 0) refl

pub no_first_field : IsRecordFault 158 0 (None ∷ []) (fault.Token 0)
unfolding record_of is_read type_at type_of token_at row_at tail_from prim_at
    numbers_from parameter_at value_of number_by has_size reading_of nearest
    checked_prim sphere_of sphere_rules
no_first_field = fault_read_is_first 158 0 0 _ (fault.Token 0) refl

pub another_type : IsRecordFault 158 0 (whole (codes "150") ∷ real (codes "1.")
    ∷ []) (fault.WrongKind 0)
unfolding record_of is_read type_at type_of token_at row_at tail_from prim_at
    numbers_from parameter_at value_of number_by has_size reading_of nearest
    checked_prim sphere_of sphere_rules
another_type = fault_read_is_first 158 0 0 _ (fault.WrongKind 0) refl

pub real_type : IsRecordFault 158 0 (real (codes "158.") ∷ real (codes "1.")
    ∷ []) (fault.WrongKind 0)
unfolding record_of is_read type_at type_of token_at row_at tail_from prim_at
    numbers_from parameter_at value_of number_by has_size reading_of nearest
    checked_prim sphere_of sphere_rules
real_type = fault_read_is_first 158 0 0 _ (fault.WrongKind 0) refl

-- ---- one parameter

pub no_field : IsRecordFault 158 0 (whole (codes "158") ∷ None ∷ []) (fault.Token 1)
unfolding record_of is_read type_at type_of token_at row_at tail_from prim_at
    numbers_from parameter_at value_of number_by has_size reading_of nearest
    checked_prim sphere_of sphere_rules
no_field = fault_read_is_first 158 0 0 _ (fault.Token 1) refl

-- an empty parameter is missing at its own index, though the record goes on
pub empty_side : IsRecordFault 150 0 (whole (codes "150") ∷ real (codes "1.") ∷ empty
    ∷ real (codes "3.") ∷ []) (fault.Missing 2)
unfolding record_of is_read type_at type_of token_at row_at tail_from prim_at
    numbers_from parameter_at value_of number_by has_size reading_of nearest
    checked_prim block_of block_rules
empty_side = fault_read_is_first 150 0 0 _ (fault.Missing 2) refl

-- a record that ends early has empty parameters
pub early_end : IsRecordFault 150 0 (whole (codes "150") ∷ real (codes "1.")
    ∷ []) (fault.Missing 2)
unfolding record_of is_read type_at type_of token_at row_at tail_from prim_at
    numbers_from parameter_at value_of number_by has_size reading_of nearest
    checked_prim block_of block_rules
early_end = fault_read_is_first 150 0 0 _ (fault.Missing 2) refl

pub text_radius : IsRecordFault 158 0 (whole (codes "158") ∷ text (codes "r")
    ∷ []) (fault.WrongKind 1)
unfolding record_of is_read type_at type_of token_at row_at tail_from prim_at
    numbers_from parameter_at value_of number_by has_size reading_of nearest
    checked_prim sphere_of sphere_rules
text_radius = fault_read_is_first 158 0 0 _ (fault.WrongKind 1) refl

pub real_count : IsRecordFault 180 0 (whole (codes "180") ∷ real (codes "1.")
    ∷ []) (fault.WrongKind 1)
unfolding record_of is_read type_at type_of token_at row_at tail_from tree_row tree_at
    count_at list_rules numbers_from parameter_at value_of number_by has_size whole_of
    items_from item_at item_with trees_of_items
real_count = fault_read_is_first 180 0 0 _ (fault.WrongKind 1) refl

pub real_item : IsRecordFault 180 0 (whole (codes "180") ∷ whole (codes "1")
    ∷ real (codes "-1.") ∷ []) (fault.WrongKind 2)
unfolding record_of is_read type_at type_of token_at row_at tail_from tree_row tree_at
    count_at list_rules numbers_from parameter_at value_of number_by has_size whole_of
    items_from item_at item_with trees_of_items
real_item = fault_read_is_first 180 0 0 _ (fault.WrongKind 2) refl

pub far_radius : IsRecordFault 158 0 (whole (codes "158") ∷ whole (codes "100001")
    ∷ []) (fault.TooFar 1)
unfolding record_of is_read type_at type_of token_at row_at tail_from prim_at
    numbers_from parameter_at value_of number_by has_size reading_of nearest
    checked_prim sphere_of sphere_rules
far_radius = fault_read_is_first 158 0 0 _ (fault.TooFar 1) refl

pub long_count : IsRecordFault 180 0 (whole (codes "180") ∷ whole (codes "10000000")
    ∷ []) (fault.TooFar 1)
unfolding record_of is_read type_at type_of token_at row_at tail_from tree_row tree_at
    count_at list_rules numbers_from parameter_at value_of number_by has_size whole_of
    items_from item_at item_with trees_of_items
long_count = fault_read_is_first 180 0 0 _ (fault.TooFar 1) refl

pub solid_below_0 : IsRecordFault 430 0 (whole (codes "430") ∷ whole (codes "-1")
    ∷ []) (fault.TooFar 1)
unfolding record_of is_read type_at type_of token_at row_at tail_from instance_row
    instance_rules numbers_from parameter_at value_of number_by has_size whole_of
solid_below_0 = fault_read_is_first 430 0 0 _ (fault.TooFar 1) refl

pub matrix_below_0 : IsRecordFault 184 0 (whole (codes "184") ∷ whole (codes "1")
    ∷ whole (codes "1") ∷ whole (codes "-1") ∷ []) (fault.TooFar 3)
unfolding record_of is_read type_at type_of token_at row_at tail_from assembly_row
    assembly_at count_at list_rules numbers_from parameter_at value_of number_by
    has_size whole_of placed_at
matrix_below_0 = fault_read_is_first 184 0 0 _ (fault.TooFar 3) refl

pub radius_0 : IsRecordFault 158 0 (whole (codes "158") ∷ whole (codes "0")
    ∷ []) (fault.BadSize 1)
unfolding record_of is_read type_at type_of token_at row_at tail_from prim_at
    numbers_from parameter_at value_of number_by has_size reading_of nearest
    checked_prim sphere_of sphere_rules
radius_0 = fault_read_is_first 158 0 0 _ (fault.BadSize 1) refl

pub equal_ltx : IsRecordFault 152 0 (whole (codes "152") ∷ whole (codes "2")
    ∷ whole (codes "1") ∷ whole (codes "1") ∷ whole (codes "2") ∷ []) (fault.BadSize 4)
unfolding record_of is_read type_at type_of token_at row_at tail_from prim_at
    numbers_from parameter_at value_of number_by has_size reading_of nearest
    checked_prim wedge_of wedge_rules
equal_ltx = fault_read_is_first 152 0 0 _ (fault.BadSize 4) refl

pub equal_tube : IsRecordFault 160 0 (whole (codes "160") ∷ whole (codes "2")
    ∷ whole (codes "2") ∷ []) (fault.BadSize 2)
unfolding record_of is_read type_at type_of token_at row_at tail_from prim_at
    numbers_from parameter_at value_of number_by has_size reading_of nearest
    checked_prim torus_of torus_rules
equal_tube = fault_read_is_first 160 0 0 _ (fault.BadSize 2) refl

pub no_items : IsRecordFault 180 0 (whole (codes "180") ∷ whole (codes "0")
    ∷ []) (fault.BadSize 1)
unfolding record_of is_read type_at type_of token_at row_at tail_from tree_row tree_at
    count_at list_rules numbers_from parameter_at value_of number_by has_size whole_of
    items_from item_at item_with trees_of_items
no_items = fault_read_is_first 180 0 0 _ (fault.BadSize 1) refl

pub count_below_0 : IsRecordFault 184 0 (whole (codes "184") ∷ whole (codes "-3")
    ∷ []) (fault.BadSize 1)
unfolding record_of is_read type_at type_of token_at row_at tail_from assembly_row
    assembly_at count_at list_rules numbers_from parameter_at value_of number_by
    has_size whole_of placed_at
count_below_0 = fault_read_is_first 184 0 0 _ (fault.BadSize 1) refl

pub item_0 : IsRecordFault 180 0 (whole (codes "180") ∷ whole (codes "3")
    ∷ whole (codes "-1") ∷ whole (codes "0") ∷ whole (codes "-3")
    ∷ []) (fault.BadPostfix 3)
unfolding record_of is_read type_at type_of token_at row_at tail_from tree_row tree_at
    count_at list_rules numbers_from parameter_at value_of number_by has_size whole_of
    items_from item_at item_with trees_of_items
item_0 = fault_read_is_first 180 0 0 _ (fault.BadPostfix 3) refl

pub item_4 : IsRecordFault 180 0 (whole (codes "180") ∷ whole (codes "3")
    ∷ whole (codes "-1") ∷ whole (codes "-3") ∷ whole (codes "4")
    ∷ []) (fault.BadPostfix 4)
unfolding record_of is_read type_at type_of token_at row_at tail_from tree_row tree_at
    count_at list_rules numbers_from parameter_at value_of number_by has_size whole_of
    items_from item_at item_with trees_of_items
item_4 = fault_read_is_first 180 0 0 _ (fault.BadPostfix 4) refl

pub operation_alone : IsRecordFault 180 0 (whole (codes "180") ∷ whole (codes "1")
    ∷ whole (codes "1") ∷ []) (fault.BadPostfix 2)
unfolding record_of is_read type_at type_of token_at row_at tail_from tree_row tree_at
    count_at list_rules numbers_from parameter_at value_of number_by has_size whole_of
    items_from item_at item_with trees_of_items
operation_alone = fault_read_is_first 180 0 0 _ (fault.BadPostfix 2) refl

pub operation_on_one : IsRecordFault 180 0 (whole (codes "180") ∷ whole (codes "3")
    ∷ whole (codes "-1") ∷ whole (codes "2") ∷ whole (codes "-3")
    ∷ []) (fault.BadPostfix 3)
unfolding record_of is_read type_at type_of token_at row_at tail_from tree_row tree_at
    count_at list_rules numbers_from parameter_at value_of number_by has_size whole_of
    items_from item_at item_with trees_of_items
operation_on_one = fault_read_is_first 180 0 0 _ (fault.BadPostfix 3) refl

-- ---- two faults of one parameter: the first in the order of checks

pub far_before_size : IsRecordFault 158 0 (whole (codes "158")
    ∷ whole (codes "-100001") ∷ []) (fault.TooFar 1)
unfolding record_of is_read type_at type_of token_at row_at tail_from prim_at
    numbers_from parameter_at value_of number_by has_size reading_of nearest
    checked_prim sphere_of sphere_rules
far_before_size = fault_read_is_first 158 0 0 _ (fault.TooFar 1) refl

pub long_before_size : IsRecordFault 180 0 (whole (codes "180")
    ∷ whole (codes "-10000000") ∷ []) (fault.TooFar 1)
unfolding record_of is_read type_at type_of token_at row_at tail_from tree_row tree_at
    count_at list_rules numbers_from parameter_at value_of number_by has_size whole_of
    items_from item_at item_with trees_of_items
long_before_size = fault_read_is_first 180 0 0 _ (fault.TooFar 1) refl

pub long_before_item : IsRecordFault 180 0 (whole (codes "180") ∷ whole (codes "1")
    ∷ whole (codes "10000000") ∷ []) (fault.TooFar 2)
unfolding record_of is_read type_at type_of token_at row_at tail_from tree_row tree_at
    count_at list_rules numbers_from parameter_at value_of number_by has_size whole_of
    items_from item_at item_with trees_of_items
long_before_item = fault_read_is_first 180 0 0 _ (fault.TooFar 2) refl

-- ---- two faulty parameters: the first one

pub size_before_kind : IsRecordFault 154 0 (whole (codes "154") ∷ whole (codes "0")
    ∷ text (codes "r") ∷ []) (fault.BadSize 1)
unfolding record_of is_read type_at type_of token_at row_at tail_from prim_at
    numbers_from parameter_at value_of number_by has_size reading_of nearest
    checked_prim cylinder_of cylinder_rules
size_before_kind = fault_read_is_first 154 0 0 _ (fault.BadSize 1) refl

pub kind_before_size : IsRecordFault 154 0 (whole (codes "154") ∷ text (codes "h")
    ∷ whole (codes "0") ∷ []) (fault.WrongKind 1)
unfolding record_of is_read type_at type_of token_at row_at tail_from prim_at
    numbers_from parameter_at value_of number_by has_size reading_of nearest
    checked_prim cylinder_of cylinder_rules
kind_before_size = fault_read_is_first 154 0 0 _ (fault.WrongKind 1) refl

pub missing_before_token : IsRecordFault 150 0 (whole (codes "150")
    ∷ whole (codes "1") ∷ empty ∷ None ∷ []) (fault.Missing 2)
unfolding record_of is_read type_at type_of token_at row_at tail_from prim_at
    numbers_from parameter_at value_of number_by has_size reading_of nearest
    checked_prim block_of block_rules
missing_before_token = fault_read_is_first 150 0 0 _ (fault.Missing 2) refl

pub item_before_kind : IsRecordFault 180 0 (whole (codes "180") ∷ whole (codes "3")
    ∷ whole (codes "-1") ∷ whole (codes "1") ∷ text (codes "x") ∷ []) (fault.BadPostfix 3)
unfolding record_of is_read type_at type_of token_at row_at tail_from tree_row tree_at
    count_at list_rules numbers_from parameter_at value_of number_by has_size whole_of
    items_from item_at item_with trees_of_items
item_before_kind = fault_read_is_first 180 0 0 _ (fault.BadPostfix 3) refl

-- ---- the parameters together, after each of them

pub two_trees_left : IsRecordFault 180 0 (whole (codes "180") ∷ whole (codes "2")
    ∷ whole (codes "-1") ∷ whole (codes "-3") ∷ []) (fault.BadPostfix 1)
unfolding record_of is_read type_at type_of token_at row_at tail_from tree_row tree_at
    count_at list_rules numbers_from parameter_at value_of number_by has_size whole_of
    items_from item_at item_with trees_of_items
two_trees_left = fault_read_is_first 180 0 0 _ (fault.BadPostfix 1) refl

pub long_axis : IsRecordFault 154 0 (whole (codes "154") ∷ whole (codes "1")
    ∷ whole (codes "1") ∷ empty ∷ empty ∷ empty ∷ empty ∷ empty ∷ whole (codes "2")
    ∷ []) (fault.BadAxis 6)
unfolding record_of is_read type_at type_of token_at row_at tail_from prim_at
    numbers_from parameter_at value_of number_by has_size reading_of nearest
    checked_prim cylinder_of cylinder_rules
long_axis = fault_read_is_first 154 0 0 _ (fault.BadAxis 6) refl

pub first_axis : IsRecordFault 150 0 (whole (codes "150") ∷ whole (codes "1")
    ∷ whole (codes "1") ∷ whole (codes "1") ∷ empty ∷ empty ∷ empty
    ∷ whole (codes "2") ∷ empty ∷ empty ∷ empty ∷ empty ∷ whole (codes "2")
    ∷ []) (fault.BadAxis 7)
unfolding record_of is_read type_at type_of token_at row_at tail_from prim_at
    numbers_from parameter_at value_of number_by has_size reading_of nearest
    checked_prim block_of block_rules
first_axis = fault_read_is_first 150 0 0 _ (fault.BadAxis 7) refl

pub second_axis : IsRecordFault 150 0 (whole (codes "150") ∷ whole (codes "1")
    ∷ whole (codes "1") ∷ whole (codes "1") ∷ empty ∷ empty ∷ empty ∷ empty ∷ empty
    ∷ empty ∷ whole (codes "1") ∷ empty ∷ whole (codes "0") ∷ []) (fault.BadAxis 10)
unfolding record_of is_read type_at type_of token_at row_at tail_from prim_at
    numbers_from parameter_at value_of number_by has_size reading_of nearest
    checked_prim block_of block_rules
second_axis = fault_read_is_first 150 0 0 _ (fault.BadAxis 10) refl

pub second_axis_long : IsRecordFault 152 0 (whole (codes "152") ∷ whole (codes "2")
    ∷ whole (codes "1") ∷ whole (codes "1") ∷ whole (codes "1") ∷ empty ∷ empty
    ∷ empty ∷ empty ∷ empty ∷ empty ∷ empty ∷ empty ∷ whole (codes "2")
    ∷ []) (fault.BadAxis 11)
unfolding record_of is_read type_at type_of token_at row_at tail_from prim_at
    numbers_from parameter_at value_of number_by has_size reading_of nearest
    checked_prim wedge_of wedge_rules
second_axis_long = fault_read_is_first 152 0 0 _ (fault.BadAxis 11) refl

pub zero_matrix : IsRecordFault 124 0 (whole (codes "124") ∷ whole (codes "0")
    ∷ whole (codes "0") ∷ whole (codes "0") ∷ whole (codes "0") ∷ whole (codes "0")
    ∷ whole (codes "0") ∷ whole (codes "0") ∷ whole (codes "0") ∷ whole (codes "0")
    ∷ whole (codes "0") ∷ whole (codes "0") ∷ whole (codes "0") ∷ []) fault.BadMatrix
unfolding record_of is_read type_at type_of token_at row_at tail_from matrix_row
    matrix_rules numbers_from parameter_at value_of number_by has_size reading_of
    nearest checked_affine affine_of
zero_matrix = fault_read_is_first 124 0 0 _ fault.BadMatrix refl

-- a place where no field stands is found before an axis that is too long
pub token_before_axis : IsRecordFault 154 0 (whole (codes "154") ∷ whole (codes "1")
    ∷ whole (codes "1") ∷ empty ∷ empty ∷ empty ∷ whole (codes "0")
    ∷ whole (codes "2") ∷ None ∷ []) (fault.Token 8)
unfolding record_of is_read type_at type_of token_at row_at tail_from prim_at
    numbers_from parameter_at value_of number_by has_size reading_of nearest
    checked_prim cylinder_of cylinder_rules
token_before_axis = fault_read_is_first 154 0 0 _ (fault.Token 8) refl

-- ---- the fields after the parameters

pub token_in_tail : IsRecordFault 158 0 (whole (codes "158") ∷ whole (codes "1")
    ∷ empty ∷ empty ∷ empty ∷ whole (codes "7") ∷ None ∷ whole (codes "8")
    ∷ []) (fault.Token 6)
unfolding record_of is_read type_at type_of token_at row_at tail_from prim_at
    numbers_from parameter_at value_of number_by has_size reading_of nearest
    checked_prim sphere_of sphere_rules
token_in_tail = fault_read_is_first 158 0 0 _ (fault.Token 6) refl

pub size_before_tail : IsRecordFault 158 0 (whole (codes "158") ∷ whole (codes "0")
    ∷ empty ∷ empty ∷ empty ∷ None ∷ []) (fault.BadSize 1)
unfolding record_of is_read type_at type_of token_at row_at tail_from prim_at
    numbers_from parameter_at value_of number_by has_size reading_of nearest
    checked_prim sphere_of sphere_rules
size_before_tail = fault_read_is_first 158 0 0 _ (fault.BadSize 1) refl

pub axis_before_tail : IsRecordFault 154 0 (whole (codes "154") ∷ whole (codes "1")
    ∷ whole (codes "1") ∷ empty ∷ empty ∷ empty ∷ empty ∷ empty ∷ whole (codes "2")
    ∷ None ∷ []) (fault.BadAxis 6)
unfolding record_of is_read type_at type_of token_at row_at tail_from prim_at
    numbers_from parameter_at value_of number_by has_size reading_of nearest
    checked_prim cylinder_of cylinder_rules
axis_before_tail = fault_read_is_first 154 0 0 _ (fault.BadAxis 6) refl

pub trees_before_tail : IsRecordFault 180 0 (whole (codes "180") ∷ whole (codes "2")
    ∷ whole (codes "-1") ∷ whole (codes "-3") ∷ None ∷ []) (fault.BadPostfix 1)
unfolding record_of is_read type_at type_of token_at row_at tail_from tree_row tree_at
    count_at list_rules numbers_from parameter_at value_of number_by has_size whole_of
    items_from item_at item_with trees_of_items
trees_before_tail = fault_read_is_first 180 0 0 _ (fault.BadPostfix 1) refl

-- ---- no fault

-- the greatest radius, and a field after the parameters
abbrev greatest : List (Option Token)
greatest =
    whole (codes "158") ∷ whole (codes "100000") ∷ empty ∷ empty ∷ empty ∷ whole (codes "1") ∷ []

pub greatest_is_right : (f : RowFault) → ¬ IsRecordFault 158 0 greatest f
unfolding record_of is_read type_at type_of token_at row_at tail_from prim_at
    numbers_from parameter_at value_of number_by has_size reading_of nearest
    checked_prim sphere_of sphere_rules
greatest_is_right f h = let e = first_fault_is_read 158 0 0 greatest f h in cc

-- the union of two operands
abbrev union_of_two : List (Option Token)
union_of_two =
    whole (codes "180") ∷ whole (codes "3") ∷ whole (codes "-1") ∷ whole (codes "-3")
    ∷ whole (codes "1") ∷ []

pub union_is_right : (f : RowFault) → ¬ IsRecordFault 180 0 union_of_two f
unfolding record_of is_read type_at type_of token_at row_at tail_from tree_row tree_at
    count_at list_rules numbers_from parameter_at value_of number_by has_size whole_of
    items_from item_at item_with trees_of_items
union_is_right f h = let e = first_fault_is_read 180 0 0 union_of_two f h in cc
