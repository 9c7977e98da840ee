-- The list of a record's fields is its first field and the list of the rest.
use Rattle.std.proofs.Common.{◌≡◌, ℕ, zero, suc, ◌+◌, ◌<◌, ◌≤◌, true, false, List, [], ◌∷◌, length, Bool, cond, Option, Some, Result, Ok, Err, refl, ap, ◌∙◌, add-one, arith}
use Rattle.solid_base.specs.declared.entities.Token.{Token}
use Rattle.iges_fields.specs.declared.faults.FieldFault.{FieldFault}
use Rattle.iges_fields.specs.Reading.{Reading, field_at}
use Rattle.iges_fields.proofs.Cuts.{field_shorter}
use Rattle.iges_parameters.specs.RecordFields.{token_of, listed, fields_within, fields_of}

listed_same : (f g : List ℕ → List (Option Token)) (r : Result Reading FieldFault) → ((x : Reading) → r ≡ Ok x → f x.rest ≡ g x.rest) → listed f r ≡ listed g r
listed_same f g (Err e) same = refl
listed_same f g (Ok x) same = ap (λ (more : List (Option Token)). Some (token_of x.kind x.text) ∷ cond x.ended [] more) (same x refl)

-- a count that is large enough makes no difference
any_count : (comma semi n m : ℕ) (text : List ℕ) → length text < n → length text < m → fields_within n comma semi text ≡ fields_within m comma semi text
unfolding fields_within
any_count comma semi zero m text few many = absurd (omega (arith, few))
any_count comma semi (suc n) zero text few many = absurd (omega (arith, many))
any_count comma semi (suc n) (suc m) text few many =
    listed_same (fields_within n comma semi) (fields_within m comma semi) (field_at comma semi text)
    (λ x e. any_count comma semi n m x.rest (omega (arith, few, field_shorter comma semi text x e)) (omega (arith, many, field_shorter comma semi text x e)))

pub fields_unfold : (comma semi : ℕ) (text : List ℕ) → fields_of comma semi text ≡ listed (fields_of comma semi) (field_at comma semi text)
unfolding fields_within fields_of
fields_unfold comma semi text =
    let one : fields_of comma semi text ≡ fields_within (suc (length text)) comma semi text = ap (λ (n : ℕ). fields_within n comma semi text) (add-one (length text)) in
    one ∙ listed_same (fields_within (length text) comma semi) (fields_of comma semi) (field_at comma semi text)
    (λ x e. any_count comma semi (length text) (length x.rest + 1) x.rest (field_shorter comma semi text x e) (omega arith))

few_left : (most : ℕ) (ended : Bool) (rest : List (Option Token)) → length rest ≤ most → length (cond ended [] rest) ≤ most
few_left most true rest few = omega arith
few_left most false rest few = few

few_listed : (most : ℕ) (more : List ℕ → List (Option Token)) (r : Result Reading FieldFault) → ((rest : List ℕ) → length (more rest) ≤ most) → length (listed more r) ≤ suc most
few_listed most more (Err e) few = omega arith
few_listed most more (Ok f) few = omega (arith, few_left most f.ended (more f.rest) (few f.rest))

few_within : (most comma semi : ℕ) (text : List ℕ) → length (fields_within most comma semi text) ≤ most
unfolding fields_within
few_within zero comma semi text = omega arith
few_within (suc most) comma semi text = few_listed most (fields_within most comma semi) (field_at comma semi text) (few_within most comma semi)

-- a text has at most one field more than bytes
pub few_fields : (comma semi : ℕ) (text : List ℕ) → length (fields_of comma semi text) ≤ length text + 1
unfolding fields_of
few_fields comma semi text = few_within (length text + 1) comma semi text
