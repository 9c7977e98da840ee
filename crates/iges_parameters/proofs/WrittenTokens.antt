-- The tokens of a row's record: they are spelt, and what is laid of them is the record's text, which reads back.
use Rattle.std.proofs.Common.{◌≡◌, ℕ, ◌<◌, ◌≤◌, List, [], ◌∷◌, ◌++◌, length, map, Some, Ok, pos, refl, sym, ap, subst, ◌∙◌, append-nil, length-append, arith}
use Rattle.std.specs.List.{AllByRecursion, concat}
use Rattle.solid_base.specs.declared.entities.Token.{Token}
use Rattle.solid_base.specs.declared.solids.Item.{Item}
use Rattle.solid_base.specs.declared.solids.Placed.{Placed}
use Rattle.solid_base.specs.declared.solids.Primitive.{Primitive}
use Rattle.solid_base.specs.declared.solids.Primitive.TheVariants as prim
use Rattle.solid_base.specs.declared.solids.Row.{Row}
use Rattle.solid_base.specs.declared.solids.Row.TheVariants as row
use Rattle.solid_base.specs.Ranges.{IsLawfulRow, IsLawfulItem, IsLawfulPlaced, most_whole}
use Rattle.iges_fields.specs.Layout.{IsSpelt, AreSpelt, laid, Reads}
use Rattle.iges_parameters.specs.RecordFields.{fields_of}
use Rattle.iges_parameters.specs.Records.{record_of}
use Rattle.iges_parameters.specs.Tables.{matrix_rules, instance_rules}
use Rattle.iges_parameters.specs.Writing.{whole, number_of_item, type_of_prim, rules_of_prim, numbers_of_prim, numbers_of_affine, parameters_of, tokens_of, kept_text, record_text, IsOfRecord, type_of_row, form_of_row, matrix_of_row}
use Rattle.iges_parameters.specs.WrittenRows.{IsLaid}
use Rattle.iges_parameters.proofs.Nearness.{prim_near, affine_near}
use Rattle.iges_parameters.proofs.TokenFields.{reads_fields}
use Rattle.iges_parameters.proofs.NumbersBack.{whole_spelt, numbers_spelt}
use Rattle.iges_parameters.proofs.ListsBack.{item_number}
use Rattle.iges_parameters.proofs.RecordsBack.{row_back}

-- ---- spelling
spelt_joined : (ts us : List Token) → AreSpelt ts → AreSpelt us → AreSpelt (ts ++ us)
spelt_joined [] us h k = k
spelt_joined (t ∷ ts) us h k = (h.0, spelt_joined ts us h.1 k)

number_is_spelt : (n : ℕ) → n ≤ most_whole → IsSpelt (whole (pos n))
number_is_spelt n h = whole_spelt (pos n) (omega arith)

items_spelt : (items : List Item) → AllByRecursion IsLawfulItem items → AreSpelt (map (λ i. whole (number_of_item i)) items)
items_spelt [] h = tt
items_spelt (i ∷ items) h = let most = item_number i h.0 in (whole_spelt (number_of_item i) (omega arith), items_spelt items h.1)

entities_spelt : (items : List Placed) → AllByRecursion IsLawfulPlaced items → AreSpelt (map (λ p. whole (pos p.item)) items)
entities_spelt [] h = tt
entities_spelt (p ∷ items) h = (number_is_spelt p.item h.0.0, entities_spelt items h.1)

matrices_spelt : (items : List Placed) → AllByRecursion IsLawfulPlaced items → AreSpelt (map (λ p. whole (pos p.matrix)) items)
matrices_spelt [] h = tt
matrices_spelt (p ∷ items) h = (number_is_spelt p.matrix h.0.1, matrices_spelt items h.1)

kind_spelt : (p : Primitive) → IsSpelt (whole (pos (type_of_prim p)))
kind_spelt (prim.Block size corner u w) = number_is_spelt 150 (omega arith)
kind_spelt (prim.Wedge size ltx corner u w) = number_is_spelt 152 (omega arith)
kind_spelt (prim.Cylinder h r foot w) = number_is_spelt 154 (omega arith)
kind_spelt (prim.Cone h r1 r2 foot w) = number_is_spelt 156 (omega arith)
kind_spelt (prim.Sphere r centre) = number_is_spelt 158 (omega arith)
kind_spelt (prim.Torus r1 r2 centre w) = number_is_spelt 160 (omega arith)
kind_spelt (prim.Ellipsoid size centre u w) = number_is_spelt 168 (omega arith)

parameters_spelt : (r : Row) → IsLawfulRow r → AreSpelt (parameters_of r)
unfolding parameters_of
parameters_spelt row.Null h = (number_is_spelt 0 (omega arith), tt)
parameters_spelt (row.Opaque kind form matrix text) h = tt
parameters_spelt (row.Matrix form affine next) h = (number_is_spelt 124 (omega arith), numbers_spelt matrix_rules (numbers_of_affine affine) (affine_near affine h.1))
parameters_spelt (row.Prim p matrix) h = (kind_spelt p, numbers_spelt (rules_of_prim p) (numbers_of_prim p) (prim_near p h))
parameters_spelt (row.Tree items matrix) h = (number_is_spelt 180 (omega arith), (number_is_spelt (length items) h.0, items_spelt items h.1))
parameters_spelt (row.Assembly items matrix) h =
    (number_is_spelt 184 (omega arith), (number_is_spelt (length items) h.1, spelt_joined (map (λ p. whole (pos p.item)) items) (map (λ p. whole (pos p.matrix)) items) (entities_spelt items h.2) (matrices_spelt items h.2)))
parameters_spelt (row.Instance child matrix) h = (number_is_spelt 430 (omega arith), numbers_spelt instance_rules (pos child ∷ []) (omega arith, tt))

-- the tokens of a record are spelt
pub tokens_spelt : (r : Row) (tail ts : List Token) → IsLawfulRow r → AreSpelt tail → ts ≡ tokens_of r tail → AreSpelt ts
tokens_spelt r tail ts h spelt is = subst AreSpelt (sym is) (spelt_joined (parameters_of r) tail (parameters_spelt r h) spelt)

-- ---- the text
some_parameters : (r : Row) → IsLaid r → 0 < length (parameters_of r)
unfolding parameters_of
some_parameters row.Null h = omega arith
some_parameters (row.Opaque kind form matrix text) h = absurd h
some_parameters (row.Matrix form affine next) h = omega arith
some_parameters (row.Prim p matrix) h = omega arith
some_parameters (row.Tree items matrix) h = omega arith
some_parameters (row.Assembly items matrix) h = omega arith
some_parameters (row.Instance child matrix) h = omega arith

-- a record has one token at least
pub some_tokens : (r : Row) (tail ts : List Token) → IsLaid r → ts ≡ tokens_of r tail → 0 < length ts
some_tokens r tail ts h is = subst (λ (us : List Token). 0 < length us) (sym is) (let some = some_parameters r h in let n = length-append (parameters_of r) tail in omega (arith, some, n))

pub text_laid : (comma semi : ℕ) (r : Row) (tail : List Token) → IsLaid r → record_text comma semi r tail ≡ laid 64 comma semi 0 (tokens_of r tail)
unfolding record_text
text_laid comma semi row.Null tail h = refl
text_laid comma semi (row.Opaque kind form matrix text) tail h = absurd h
text_laid comma semi (row.Matrix form affine next) tail h = refl
text_laid comma semi (row.Prim p matrix) tail h = refl
text_laid comma semi (row.Tree items matrix) tail h = refl
text_laid comma semi (row.Assembly items matrix) tail h = refl
text_laid comma semi (row.Instance child matrix) tail h = refl

pub text_kept : (comma semi : ℕ) (r : Row) (kind form matrix : ℕ) (text : List ℕ) (tail : List Token) → r ≡ row.Opaque kind form matrix text → record_text comma semi r tail ≡ kept_text text
unfolding record_text
text_kept comma semi r kind form matrix text tail is = ap (λ (x : Row). record_text comma semi x tail) is

-- ---- reading back
-- these lines are of a record that is read as the row and the fields after it
abbrev pub AreReadAs : ℕ → ℕ → Row → List Token → List (List ℕ) → Type 0
AreReadAs comma semi r tail lines = IsOfRecord r → record_of (type_of_row r) (form_of_row r) (matrix_of_row r) (fields_of comma semi (concat lines)) ≡ Ok (r, tail)

pub lines_back : (comma semi : ℕ) (r : Row) (tail ts : List Token) (lines : List (List ℕ)) → IsLawfulRow r → ts ≡ tokens_of r tail → ((after : List ℕ) → Reads comma semi (concat lines ++ after) ts) → AreReadAs comma semi r tail lines
lines_back comma semi r tail ts lines lawful is reads = λ of_record.
    let fields : fields_of comma semi (concat lines) ≡ map Some (tokens_of r tail) =
    ap (fields_of comma semi) (sym (append-nil (concat lines))) ∙ reads_fields comma semi (concat lines ++ []) ts (reads []) ∙ ap (λ (us : List Token). map Some us) is in
    ap (record_of (type_of_row r) (form_of_row r) (matrix_of_row r)) fields ∙ row_back r tail of_record lawful

-- a row is laid unless it isn't read
pub laid_unless : (r : Row) → ((kind form matrix : ℕ) (text : List ℕ) → r ≡ row.Opaque kind form matrix text → ⊥) → IsLaid r
laid_unless row.Null h = tt
laid_unless (row.Opaque kind form matrix text) h = absurd (h kind form matrix text refl)
laid_unless (row.Matrix form affine next) h = tt
laid_unless (row.Prim p matrix) h = tt
laid_unless (row.Tree items matrix) h = tt
laid_unless (row.Assembly items matrix) h = tt
laid_unless (row.Instance child matrix) h = tt
