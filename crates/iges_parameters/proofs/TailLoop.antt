-- The fields after the defined parameters, read one after the other, as a loop does.
use Rattle.std.proofs.Common.{◌≡◌, suc, ◌+◌, ◌-◌, ◌^◌, ◌<◌, List, [], ◌∷◌, ◌++◌, length, Option, Some, None, Result, Ok, Err, refl, sym, ap, ◌∙◌, arith}
use Rattle.std.specs.List.{AllByRecursion}
use Rattle.solid_base.specs.declared.entities.Token.{Token}
use Rattle.iges_fields.specs.declared.kinds.Field.{Field}
use Rattle.iges_parameters.specs.declared.faults.RowFault.{RowFault}
use Rattle.iges_parameters.specs.declared.faults.RowFault.TheVariants as fault
use Rattle.iges_parameters.specs.RecordFields.{token_of}
use Rattle.iges_parameters.specs.Rules.{Place}
use Rattle.iges_parameters.specs.Records.{IsMore, tail_from}

pub tail_goes_on : (tokens : List Token) (old new : Place) (field : Field) (total : Result (List Token) RowFault) → IsMore old new (Ok (Some field)) → tail_from tokens old.index old.fields ≡ total
    → tail_from (tokens ++ token_of field.kind field.text.now ∷ []) new.index new.fields ≡ total
unfolding tail_from
tail_goes_on tokens old new field total more so_far =
    let one : tail_from tokens old.index old.fields ≡ tail_from (tokens ++ token_of field.kind field.text.now ∷ []) new.index new.fields = rw (more.0, more.1) refl in
    sym one ∙ so_far

pub tail_few : (old new : Place) (field : Field) → IsMore old new (Ok (Some field)) → old.index + length old.fields < 2 ^ 32 - 1 → new.index + length new.fields < 2 ^ 32 - 1
tail_few old new field more few =
    let count : length old.fields ≡ suc (length new.fields) = ap (λ (fields : List (Option Token)). length fields) more.0 in
    omega (arith, count, more.1, few)

pub tail_fewer : (old new : Place) (field : Field) → IsMore old new (Ok (Some field)) → length new.fields < length old.fields
tail_fewer old new field more =
    let count : length old.fields ≡ suc (length new.fields) = ap (λ (fields : List (Option Token)). length fields) more.0 in
    omega (arith, count)

pub tail_done : (tokens : List Token) (old new : Place) (total : Result (List Token) RowFault) → IsMore old new (Ok None) → tail_from tokens old.index old.fields ≡ total → total ≡ Ok tokens
unfolding tail_from
tail_done tokens old new total more so_far =
    let one : tail_from tokens old.index old.fields ≡ Ok tokens = rw more refl in
    sym so_far ∙ one

pub tail_ends : (tokens : List Token) (old new : Place) (f : RowFault) (total : Result (List Token) RowFault) → IsMore old new (Err f) → tail_from tokens old.index old.fields ≡ total → total ≡ Err f
unfolding tail_from
tail_ends tokens old new f total (rest, fields, is) so_far =
    let one : tail_from tokens old.index old.fields ≡ Err (fault.Token old.index) = rw fields refl in
    rw is (sym so_far ∙ one)

-- what holds of each item, and of one after them
pub all_pushed : {X : Type 0} (P : X → Type 0) (xs : List X) (x : X) → AllByRecursion P xs → P x → AllByRecursion P (xs ++ x ∷ [])
all_pushed P [] x all one = (one, tt)
all_pushed P (y ∷ ys) x all one = (all.0, all_pushed P ys x all.1 one)
