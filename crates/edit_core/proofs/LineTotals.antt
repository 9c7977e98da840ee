-- The lines of rows, where one entity is put at a place.
use Rattle.std.proofs.Common.{◌≡◌, ℕ, zero, suc, ◌+◌, ◌-◌, ◌*◌, ◌<◌, ◌≤◌, min, List, [], ◌∷◌, length, map, Some, slice_get, slice_index_or, refl, sym, ap, ◌∙◌, arith}
use Rattle.std.proofs.lemmas.Fmt.{decimal_digit}
use Rattle.solid_base.specs.declared.entities.Entity.{Entity}
use Rattle.solid_base.specs.declared.entities.Token.TheVariants as token
use Rattle.solid_base.specs.declared.solids.Row.TheVariants as row
use Rattle.iges_fields.specs.Layout.{laid}
use Rattle.iges_parameters.specs.Accepted.{lines_of, most_lines}
use Rattle.iges_parameters.specs.Writing.{parameters_of, record_text, lines_for}
use Rattle.edit_core.specs.Edits.{null_entity}
use Rattle.edit_core.specs.Placing.{put, counted, counted_of}

-- a null entity takes one line
pub null_text : (comma semi : ℕ) → record_text comma semi row.Null [] ≡ 48 ∷ semi ∷ []
unfolding record_text parameters_of laid
null_text comma semi = ap (λ (digits : List ℕ). laid 64 comma semi 0 (token.Whole digits ∷ [])) (decimal_digit 0 (omega arith))

null_counted : (comma semi : ℕ) → counted comma semi null_entity ≡ 1
unfolding counted null_entity
null_counted comma semi = ap (λ (text : List ℕ). min (lines_for (length text)) (most_lines + 1)) (null_text comma semi)

-- an entity takes the place of another
pub put_within : (comma semi : ℕ) (rows : List Entity) (place : ℕ) (old e : Entity) → slice_get rows place ≡ Some old
    → counted_of comma semi (put rows place e) + counted comma semi old ≡ counted_of comma semi rows + counted comma semi e
put_within comma semi [] place old e is = cc
put_within comma semi (x ∷ rows) zero old e is =
    let same : x ≡ old = cc in
    let lines : counted comma semi x ≡ counted comma semi old = ap (counted comma semi) same in
    omega (arith, lines)
put_within comma semi (x ∷ rows) (suc place) old e is =
    let again = put_within comma semi rows place old e is in
    omega (arith, again)

-- an entity is put past the end, after null ones
pub put_past : (comma semi : ℕ) (rows : List Entity) (place : ℕ) (e : Entity) → length rows ≤ place
    → counted_of comma semi (put rows place e) ≡ counted_of comma semi rows + (place - length rows) + counted comma semi e
put_past comma semi [] zero e past = omega arith
put_past comma semi [] (suc place) e past =
    let again = put_past comma semi [] place e (omega arith) in
    let one = null_counted comma semi in
    omega (arith, again, one)
put_past comma semi (x ∷ rows) zero e past = absurd (omega (arith, past))
put_past comma semi (x ∷ rows) (suc place) e past =
    let again = put_past comma semi rows place e (omega (arith, past)) in
    omega (arith, again)

pub counted_few : (comma semi : ℕ) (e : Entity) → counted comma semi e ≤ most_lines + 1
unfolding counted
counted_few comma semi e = omega arith

-- the lines of an entity are no more than those of all
pub counted_part : (comma semi : ℕ) (rows : List Entity) (place : ℕ) (e : Entity) → slice_get rows place ≡ Some e → counted comma semi e ≤ counted_of comma semi rows
counted_part comma semi [] place e is = cc
counted_part comma semi (x ∷ rows) zero e is =
    let same : x ≡ e = cc in
    let lines : counted comma semi x ≡ counted comma semi e = ap (counted comma semi) same in
    omega (arith, lines)
counted_part comma semi (x ∷ rows) (suc place) e is = let again = counted_part comma semi rows place e is in omega (arith, again)

-- no sum is too large
pub counted_bound : (comma semi : ℕ) (rows : List Entity) → counted_of comma semi rows ≤ 300001 * length rows
counted_bound comma semi [] = omega arith
counted_bound comma semi (x ∷ rows) =
    let one = counted_few comma semi x in
    let again = counted_bound comma semi rows in
    omega (arith, one, again)

-- no more lines are counted than there are
pub counted_least : (comma semi : ℕ) (rows : List Entity) → counted_of comma semi rows ≤ lines_of comma semi rows
unfolding counted
counted_least comma semi [] = omega arith
counted_least comma semi (x ∷ rows) =
    let again = counted_least comma semi rows in
    omega (arith, again)

-- where few lines are counted they are all counted
pub counted_all : (comma semi : ℕ) (rows : List Entity) → counted_of comma semi rows ≤ most_lines → counted_of comma semi rows ≡ lines_of comma semi rows
unfolding counted
counted_all comma semi [] few = refl
counted_all comma semi (x ∷ rows) few =
    let again = counted_all comma semi rows (omega (arith, few)) in
    omega (arith, few, again)

-- ---- shared entities

-- the entity that a place of shared ones holds
pub shared_at : {X : Type 0} (value : X → Entity) (items : List X) (place : ℕ) (x : X) (e : Entity) → place < length items
    → x ≡ slice_index_or items place x → e ≡ value x → slice_get (map value items) place ≡ Some e
shared_at value [] place x e within is seen = absurd (omega (arith, within))
shared_at value (y ∷ items) zero x e within is seen = ap Some (ap value (sym is) ∙ sym seen)
shared_at value (y ∷ items) (suc place) x e within is seen = shared_at value items place x e (omega (arith, within)) is seen
