-- The record of a row as it is written: solidd's own form. Each parameter is written, those with a
-- default too.
use Rattle.std.specs.Prelude.{ℕ, ◌+◌, ◌/◌, List, [], ◌∷◌, ◌++◌, length, map, decimal, ℤ, pos}
use Rattle.std.specs.Prelude.{negsuc, neg_ℤ}
use Rattle.solid_base.specs.declared.entities.Token.{Token}
use Rattle.solid_base.specs.declared.entities.Token.TheVariants as token
use Rattle.solid_base.specs.declared.geometry.Vec3.{Vec3}
use Rattle.solid_base.specs.declared.geometry.Affine.{Affine}
use Rattle.solid_base.specs.declared.solids.Primitive.{Primitive}
use Rattle.solid_base.specs.declared.solids.Primitive.TheVariants as prim
use Rattle.solid_base.specs.declared.solids.Item.{Item}
use Rattle.solid_base.specs.declared.solids.Item.TheVariants as item
use Rattle.solid_base.specs.declared.solids.Row.{Row}
use Rattle.solid_base.specs.declared.solids.Row.TheVariants as row
use Rattle.decimal_scale.specs.Writing.{real_text}
use Rattle.iges_fields.specs.Layout.{laid}
use Rattle.iges_parameters.specs.declared.tables.Rule.{Rule}
use Rattle.iges_parameters.specs.declared.tables.Values.{Values}
use Rattle.iges_parameters.specs.declared.tables.Values.TheVariants as values
use Rattle.iges_parameters.specs.Tables.{block_rules, wedge_rules, cylinder_rules, cone_rules}
use Rattle.iges_parameters.specs.Tables.{sphere_rules, torus_rules, ellipsoid_rules, matrix_rules}
use Rattle.iges_parameters.specs.Tables.{instance_rules}

-- ---- numbers

-- a whole number in decimal, with a minus where it is below 0
abbrev pub integer_text : ℤ → List ℕ
integer_text (pos n) = decimal n
integer_text (negsuc n) = 45 ∷ decimal (n + 1)

abbrev pub whole : ℤ → Token
whole n = token.Whole (integer_text n)

-- a number of steps, with its twelve decimals less the zeros after them
abbrev pub real : ℤ → Token
real n = token.Real (real_text n 12)

-- the token of a number of the kind that is wanted
abbrev pub token_by : Values → ℤ → Token
token_by values.Real n = real n
token_by values.Size n = real n
token_by (values.SizeBelow other) n = real n
token_by (values.Below other) n = real n
token_by values.Count n = whole n
token_by values.Number n = whole n

-- the tokens of parameters by their rules
unfoldable pub tokens_by : List Rule → List ℤ → List Token
tokens_by [] ns = []
tokens_by (rule ∷ rules) [] = []
tokens_by (rule ∷ rules) (n ∷ ns) = token_by rule.values n ∷ tokens_by rules ns

-- ---- the parameters of rows, in the order of their indexes

abbrev pub coordinates : Vec3 → List ℤ
coordinates v = v.x ∷ v.y ∷ v.z ∷ []

-- the type of a primitive
abbrev pub type_of_prim : Primitive → ℕ
type_of_prim (prim.Block size corner u w) = 150
type_of_prim (prim.Wedge size ltx corner u w) = 152
type_of_prim (prim.Cylinder h r foot w) = 154
type_of_prim (prim.Cone h r1 r2 foot w) = 156
type_of_prim (prim.Sphere r centre) = 158
type_of_prim (prim.Torus r1 r2 centre w) = 160
type_of_prim (prim.Ellipsoid size centre u w) = 168

abbrev pub rules_of_prim : Primitive → List Rule
rules_of_prim (prim.Block size corner u w) = block_rules
rules_of_prim (prim.Wedge size ltx corner u w) = wedge_rules
rules_of_prim (prim.Cylinder h r foot w) = cylinder_rules
rules_of_prim (prim.Cone h r1 r2 foot w) = cone_rules
rules_of_prim (prim.Sphere r centre) = sphere_rules
rules_of_prim (prim.Torus r1 r2 centre w) = torus_rules
rules_of_prim (prim.Ellipsoid size centre u w) = ellipsoid_rules

abbrev pub numbers_of_prim : Primitive → List ℤ
numbers_of_prim (prim.Block size corner u w) =
    coordinates size ++ coordinates corner ++ coordinates u ++ coordinates w
numbers_of_prim (prim.Wedge size ltx corner u w) =
    coordinates size ++ ltx ∷ (coordinates corner ++ coordinates u ++ coordinates w)
numbers_of_prim (prim.Cylinder h r foot w) = h ∷ r ∷ (coordinates foot ++ coordinates w)
numbers_of_prim (prim.Cone h r1 r2 foot w) = h ∷ r1 ∷ r2 ∷ (coordinates foot ++ coordinates w)
numbers_of_prim (prim.Sphere r centre) = r ∷ coordinates centre
numbers_of_prim (prim.Torus r1 r2 centre w) = r1 ∷ r2 ∷ (coordinates centre ++ coordinates w)
numbers_of_prim (prim.Ellipsoid size centre u w) =
    coordinates size ++ coordinates centre ++ coordinates u ++ coordinates w

-- R11 R12 R13 T1 R21 R22 R23 T2 R31 R32 R33 T3
abbrev pub numbers_of_affine : Affine → List ℤ
numbers_of_affine a =
    coordinates a.row1 ++ a.shift.x
    ∷ (coordinates a.row2 ++ a.shift.y ∷ (coordinates a.row3 ++ a.shift.z ∷ []))

-- an operand is its entity's number below 0; 1 is the union, 2 the intersection, 3 the difference
abbrev pub number_of_item : Item → ℤ
number_of_item (item.Operand entity) = neg_ℤ (pos entity)
number_of_item item.Join = pos 1
number_of_item item.Meet = pos 2
number_of_item item.Less = pos 3

-- ---- records

-- the type's number and the parameters of a row that is read; of a Null row the type's number alone
unfoldable pub parameters_of : Row → List Token
parameters_of row.Null = whole (pos 0) ∷ []
parameters_of (row.Opaque kind form matrix text) = []
parameters_of (row.Matrix form affine next) =
    whole (pos 124) ∷ tokens_by matrix_rules (numbers_of_affine affine)
parameters_of (row.Prim p matrix) =
    whole (pos (type_of_prim p)) ∷ tokens_by (rules_of_prim p) (numbers_of_prim p)
parameters_of (row.Tree items matrix) =
    whole (pos 180) ∷ whole (pos (length items)) ∷ map (λ i. whole (number_of_item i)) items
parameters_of (row.Assembly items matrix) =
    whole (pos 184) ∷ whole (pos (length items))
    ∷ (map (λ p. whole (pos p.item)) items ++ map (λ p. whole (pos p.matrix)) items)
parameters_of (row.Instance child matrix) =
    whole (pos 430) ∷ tokens_by instance_rules (pos child ∷ [])

-- the tokens of a record: the parameters, and the fields that stand after them
abbrev pub tokens_of : Row → List Token → List Token
tokens_of r tail = parameters_of r ++ tail

-- a record that isn't read as it stands; an empty one is a blank, so that it has a line
abbrev pub kept_text : List ℕ → List ℕ
kept_text [] = 32 ∷ []
kept_text (b ∷ text) = b ∷ text

-- the text of a record in lines of 64 columns, without the blanks that fill the last one
unfoldable pub record_text : ℕ → ℕ → Row → List Token → List ℕ
record_text comma semi row.Null tail = laid 64 comma semi 0 (tokens_of row.Null tail)
record_text comma semi (row.Opaque kind form matrix text) tail = kept_text text
record_text comma semi (row.Matrix form affine next) tail =
    laid 64 comma semi 0 (tokens_of (row.Matrix form affine next) tail)
record_text comma semi (row.Prim p matrix) tail =
    laid 64 comma semi 0 (tokens_of (row.Prim p matrix) tail)
record_text comma semi (row.Tree items matrix) tail =
    laid 64 comma semi 0 (tokens_of (row.Tree items matrix) tail)
record_text comma semi (row.Assembly items matrix) tail =
    laid 64 comma semi 0 (tokens_of (row.Assembly items matrix) tail)
record_text comma semi (row.Instance child matrix) tail =
    laid 64 comma semi 0 (tokens_of (row.Instance child matrix) tail)

-- how many lines of 64 columns hold so many bytes
abbrev pub lines_for : ℕ → ℕ
lines_for bytes = (bytes + 63) / 64

-- ---- what a row is read as

-- a row that is read from a record
abbrev pub IsOfRecord : Row → Type 0
IsOfRecord row.Null = ⊥
IsOfRecord (row.Opaque kind form matrix text) = ⊥
IsOfRecord (row.Matrix form affine next) = Unit {0}
IsOfRecord (row.Prim p matrix) = Unit {0}
IsOfRecord (row.Tree items matrix) = Unit {0}
IsOfRecord (row.Assembly items matrix) = Unit {0}
IsOfRecord (row.Instance child matrix) = Unit {0}

-- the type, the form and the matrix of a row's directory entry
abbrev pub type_of_row : Row → ℕ
type_of_row row.Null = 0
type_of_row (row.Opaque kind form matrix text) = kind
type_of_row (row.Matrix form affine next) = 124
type_of_row (row.Prim p matrix) = type_of_prim p
type_of_row (row.Tree items matrix) = 180
type_of_row (row.Assembly items matrix) = 184
type_of_row (row.Instance child matrix) = 430

abbrev pub form_of_row : Row → ℕ
form_of_row row.Null = 0
form_of_row (row.Opaque kind form matrix text) = form
form_of_row (row.Matrix form affine next) = form
form_of_row (row.Prim p matrix) = 0
form_of_row (row.Tree items matrix) = 0
form_of_row (row.Assembly items matrix) = 0
form_of_row (row.Instance child matrix) = 0

abbrev pub matrix_of_row : Row → ℕ
matrix_of_row row.Null = 0
matrix_of_row (row.Opaque kind form matrix text) = matrix
matrix_of_row (row.Matrix form affine next) = next
matrix_of_row (row.Prim p matrix) = matrix
matrix_of_row (row.Tree items matrix) = matrix
matrix_of_row (row.Assembly items matrix) = matrix
matrix_of_row (row.Instance child matrix) = matrix
