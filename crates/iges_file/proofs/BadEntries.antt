-- An entry whose record has a first fault gives that fault, and no other entry gives one.
use Rattle.std.proofs.Common.{◌≡◌, ℕ, List, Bool, true, false, cond, ◌==◌, Result, Ok, Err, ap, refl, arith}
use Rattle.std.proofs.lemmas.Bool.Decides.{nat_tests}
use Rattle.solid_base.specs.declared.entities.Entity.{Entity}
use Rattle.solid_base.specs.declared.entities.Token.{Token}
use Rattle.solid_base.specs.declared.solids.Row.{Row}
use Rattle.iges_directory.specs.declared.pairs.Pair.{Pair}
use Rattle.iges_parameters.specs.declared.faults.RowFault.{RowFault}
use Rattle.iges_parameters.specs.RecordFields.{fields_of}
use Rattle.iges_parameters.specs.Records.{record_of}
use Rattle.iges_parameters.specs.Tables.{is_read}
use Rattle.iges_parameters.proofs.RecordFaultsRead.{fault_read_is_first, first_fault_is_read}
use Rattle.iges_file.specs.Entities.{entity_in, entity_with, with_record, known_entity, kept_entity, null_entity, text_of, IsBadEntry}

-- the record's fault is the entity's
failed_record : (pair : Pair) (r : Result (Row × List Token) RowFault) (f : RowFault)
    → with_record pair r ≡ Err f → r ≡ Err f
failed_record pair (Ok read) f e = absurd (let d = e in cc)
failed_record pair (Err g) f e = e_is g f e where
  e_is : (g f : RowFault) → ◌≡◌ {A = Result Entity RowFault} (Err g) (Err f) → ◌≡◌ {A = Result (Row × List Token) RowFault} (Err g) (Err f)
  e_is g f e = (let same : g ≡ f = cc in ap (λ (h : RowFault). Err h) same)

-- an entry that is read, and isn't null
failed_entry : (comma semi : ℕ) (params : List (List ℕ)) (pair : Pair) (f : RowFault) (null read : Bool)
    → (pair.kind == 0) ≡ null → is_read pair.kind pair.form ≡ read
    → cond null (Ok (null_entity pair)) (cond read (known_entity comma semi pair (text_of params pair)) (Ok (kept_entity pair (text_of params pair)))) ≡ Err f
    → IsBadEntry comma semi params pair f
failed_entry comma semi params pair f true read n r e = absurd (let d : ◌≡◌ {A = Result Entity RowFault} (Ok (null_entity pair)) (Err f) = e in cc)
failed_entry comma semi params pair f false false n r e =
    absurd (let d : ◌≡◌ {A = Result Entity RowFault} (Ok (kept_entity pair (text_of params pair))) (Err f) = e in cc)
failed_entry comma semi params pair f false true n r e = record {
  not_null = λ z. grind (arith, nat_tests);
  read = r;
  first = fault_read_is_first pair.kind pair.form pair.matrix (fields_of comma semi (text_of params pair)) f
      (failed_record pair (record_of pair.kind pair.form pair.matrix (fields_of comma semi (text_of params pair))) f e);
}

pub bad_entry_found : (comma semi : ℕ) (params : List (List ℕ)) (pair : Pair) (f : RowFault)
    → entity_in comma semi params pair ≡ Err f → IsBadEntry comma semi params pair f
unfolding entity_in entity_with
bad_entry_found comma semi params pair f e = failed_entry comma semi params pair f (pair.kind == 0) (is_read pair.kind pair.form) refl refl e

pub bad_entry_read : (comma semi : ℕ) (params : List (List ℕ)) (pair : Pair) (f : RowFault)
    → IsBadEntry comma semi params pair f → entity_in comma semi params pair ≡ Err f
unfolding entity_in entity_with
bad_entry_read comma semi params pair f bad =
    let null : (pair.kind == 0) ≡ false = (let n = bad.not_null in grind (arith, nat_tests)) in
    let failed = first_fault_is_read pair.kind pair.form pair.matrix (fields_of comma semi (text_of params pair)) f bad.first in
    rw (null, bad.read, failed) refl
