-- The reading of a record gives a fault exactly where it is the first fault of the record's fields.
use Rattle.std.proofs.Common.{◌≡◌, inl, inr, ℕ, List, [], ◌∷◌, length, drop, Bool, true, false, Option, Result, Ok, Err, ℤ, refl, sym, ap, subst, ◌∙◌}
use Rattle.solid_base.specs.declared.entities.Token.{Token}
use Rattle.solid_base.specs.declared.entities.RowText.{RowText}
use Rattle.solid_base.specs.declared.solids.Row.{Row}
use Rattle.iges_parameters.specs.declared.reading.records.RecordText.{RecordText}
use Rattle.iges_parameters.specs.declared.faults.RowFault.{RowFault}
use Rattle.iges_parameters.specs.declared.faults.RowFault.TheVariants as fault
use Rattle.solid_base.specs.Outcomes.{◌>>=◌}
use Rattle.iges_parameters.specs.RecordFields.{fields_of}
use Rattle.iges_parameters.specs.Rules.{Place}
use Rattle.iges_parameters.specs.Tables.{is_read, solid_types}
use Rattle.iges_parameters.specs.Records.{tail_from, record_of, record_in}
use Rattle.iges_parameters.specs.RecordFaults.{numbers_of, item_count, wanted_of, AreFaultless, IsFaultTogether, IsTailFault, IsRecordFault, IsRecordFaultIn, IsBorrowedRecordFault, not_read, in_parameter, together, in_tail}
use Rattle.iges_parameters.proofs.TreesBlamed.{bind_err}
use Rattle.iges_parameters.proofs.FieldFaults.{fault_same, as_fault, no_fault}
use Rattle.iges_parameters.proofs.FirstFaults.{outcome, bind_stops, bind_goes, run, Ready, fault_is_first, first_is_fault, IsThrough, goes_through, faultless_goes}
use Rattle.iges_parameters.proofs.TailFaults.{tail_fault, fault_tail}
use Rattle.iges_parameters.proofs.RecordsByTables.{fault_there, there_fault, tail_after, shape, finish, IsAmong, read_types, record_same}
use Rattle.iges_parameters.proofs.ParametersTogether.{Ends, type_ready, shape_says, shape_said}

-- ---- fields read by what is wanted, and then judged together

record_ready : (kind : ℕ) (fields : List (Option Token)) → IsAmong kind (124 ∷ solid_types) → Ready (Ends kind) (wanted_of kind fields) 0 []
record_ready kind fields is = (tt, λ n t h. type_ready kind is (item_count fields) n)

-- the tail is read from the place after the parameters
same_tail : (wanted : ℕ) (fields : List (Option Token)) (p : Place) → p.index ≡ wanted → p.fields ≡ drop wanted fields → tail_after p ≡ tail_from [] wanted (drop wanted fields)
same_tail wanted fields p index left = ap (λ (i : ℕ). tail_from [] i p.fields) index ∙ ap (λ (fs : List (Option Token)). tail_from [] wanted fs) left

after_parameters : (kind form : ℕ) (fields : List (Option Token)) (f : RowFault) (ns : List ℤ) (p : Place) → is_read kind form ≡ true → IsAmong kind (124 ∷ solid_types) → IsThrough (Ends kind) (wanted_of kind fields) fields ns p
    → finish kind (ns, p) ≡ Err f → IsRecordFault kind form fields f
after_parameters kind form fields f ns p read is through h =
    elim (bind_err (shape kind ns) _ f h) [
      | inl wrong ↦ together read through.faultless (subst (λ (ms : List ℤ). IsFaultTogether kind ms f) through.numbers (shape_says kind is ns f through.end wrong))
      | inr (u, fine, last) ↦ in_tail read through.faultless
          (λ g wrong. no_fault (shape kind ns) u g fine (shape_said kind is ns g (subst (λ (ms : List ℤ). IsFaultTogether kind ms g) (sym through.numbers) wrong)))
          (tail_fault (length (wanted_of kind fields)) fields f (sym (same_tail (length (wanted_of kind fields)) fields p through.place through.left) ∙ last))
    ]

read_fault : (kind form : ℕ) (fields : List (Option Token)) (f : RowFault) → is_read kind form ≡ true → run (wanted_of kind fields) [] 0 fields >>= finish kind ≡ Err f → IsRecordFault kind form fields f
read_fault kind form fields f read h =
    let is = read_types kind form read in
    let ready = record_ready kind fields is in
    elim (bind_err (run (wanted_of kind fields) [] 0 fields) (finish kind) f h) [
      | inl wrong ↦ in_parameter read (fault_is_first (Ends kind) (wanted_of kind fields) fields f ready wrong)
      | inr (x, there, more) ↦ after_parameters kind form fields f x.0 x.1 read is (goes_through (Ends kind) (wanted_of kind fields) fields x.0 x.1 ready there) more
    ]

-- the shape of numbers that have no fault together
shape_fine : (kind : ℕ) (fields : List (Option Token)) (ns : List ℤ) (p : Place) → IsAmong kind (124 ∷ solid_types) → IsThrough (Ends kind) (wanted_of kind fields) fields ns p
    → ((g : RowFault) → IsFaultTogether kind (numbers_of (wanted_of kind fields) fields) g → ⊥) → (u : ℕ) × (shape kind ns ≡ Ok u)
shape_fine kind fields ns p is through none =
    elim (outcome (shape kind ns)) [
      | inl (e, wrong) ↦ absurd (none e (subst (λ (ms : List ℤ). IsFaultTogether kind ms e) through.numbers (shape_says kind is ns e through.end wrong)))
      | inr there ↦ there
    ]

finish_together : (kind : ℕ) (fields : List (Option Token)) (f : RowFault) → IsAmong kind (124 ∷ solid_types) → AreFaultless (wanted_of kind fields) fields
    → IsFaultTogether kind (numbers_of (wanted_of kind fields) fields) f → run (wanted_of kind fields) [] 0 fields >>= finish kind ≡ Err f
finish_together kind fields f is faultless wrong =
    let ready = record_ready kind fields is in
    let (x, there) = faultless_goes (Ends kind) (wanted_of kind fields) fields ready faultless in
    let through = goes_through (Ends kind) (wanted_of kind fields) fields x.0 x.1 ready there in
    bind_goes (run (wanted_of kind fields) [] 0 fields) (finish kind) x (Err f) there
    (bind_stops (shape kind x.0) _ f (shape_said kind is x.0 f (subst (λ (ms : List ℤ). IsFaultTogether kind ms f) (sym through.numbers) wrong)))

finish_tail : (kind : ℕ) (fields : List (Option Token)) (f : RowFault) → IsAmong kind (124 ∷ solid_types) → AreFaultless (wanted_of kind fields) fields
    → ((g : RowFault) → IsFaultTogether kind (numbers_of (wanted_of kind fields) fields) g → ⊥) → IsTailFault (length (wanted_of kind fields)) fields f → run (wanted_of kind fields) [] 0 fields >>= finish kind ≡ Err f
finish_tail kind fields f is faultless none wrong =
    let ready = record_ready kind fields is in
    let (x, there) = faultless_goes (Ends kind) (wanted_of kind fields) fields ready faultless in
    let through = goes_through (Ends kind) (wanted_of kind fields) fields x.0 x.1 ready there in
    let (u, fine) = shape_fine kind fields x.0 x.1 is through none in
    bind_goes (run (wanted_of kind fields) [] 0 fields) (finish kind) x (Err f) there
    (bind_goes (shape kind x.0) _ u (Err f) fine (same_tail (length (wanted_of kind fields)) fields x.1 through.place through.left ∙ fault_tail (length (wanted_of kind fields)) fields f wrong))

-- ---- both ways

unread : (kind form matrix : ℕ) (fields : List (Option Token)) → is_read kind form ≡ false → record_of kind form matrix fields ≡ Err fault.NotRead
unfolding record_of
unread kind form matrix fields is = rw is refl

-- the fault that reading gives is the record's first
pub fault_read_is_first : (kind form matrix : ℕ) (fields : List (Option Token)) (f : RowFault) → record_of kind form matrix fields ≡ Err f → IsRecordFault kind form fields f
fault_read_is_first kind form matrix fields f h = go (is_read kind form) refl where
  go : (v : Bool) → is_read kind form ≡ v → IsRecordFault kind form fields f
  go true is = read_fault kind form fields f is (there_fault (run (wanted_of kind fields) [] 0 fields >>= finish kind) f (sym (record_same kind form matrix fields is) ∙ fault_there (record_of kind form matrix fields) f h))
  go false is = not_read is (fault_same fault.NotRead f (sym (unread kind form matrix fields is) ∙ h))

as_read : (kind form matrix : ℕ) (fields : List (Option Token)) (f : RowFault) → is_read kind form ≡ true → run (wanted_of kind fields) [] 0 fields >>= finish kind ≡ Err f → record_of kind form matrix fields ≡ Err f
as_read kind form matrix fields f is h = there_fault (record_of kind form matrix fields) f (record_same kind form matrix fields is ∙ fault_there (run (wanted_of kind fields) [] 0 fields >>= finish kind) f h)

-- the record's first fault is the one that reading gives
pub first_fault_is_read : (kind form matrix : ℕ) (fields : List (Option Token)) (f : RowFault) → IsRecordFault kind form fields f → record_of kind form matrix fields ≡ Err f
first_fault_is_read kind form matrix fields f (not_read is same) = unread kind form matrix fields is ∙ as_fault fault.NotRead f same
first_fault_is_read kind form matrix fields f (in_parameter is first) =
    as_read kind form matrix fields f is (bind_stops (run (wanted_of kind fields) [] 0 fields) (finish kind) f (first_is_fault (Ends kind) (wanted_of kind fields) fields f (record_ready kind fields (read_types kind form is)) first))
first_fault_is_read kind form matrix fields f (together is faultless wrong) = as_read kind form matrix fields f is (finish_together kind fields f (read_types kind form is) faultless wrong)
first_fault_is_read kind form matrix fields f (in_tail is faultless none wrong) = as_read kind form matrix fields f is (finish_tail kind fields f (read_types kind form is) faultless none wrong)

-- a record has one first fault at most
pub first_fault_unique : (kind form : ℕ) (fields : List (Option Token)) (f g : RowFault) → IsRecordFault kind form fields f → IsRecordFault kind form fields g → f ≡ g
first_fault_unique kind form fields f g h k =
    let same : ◌≡◌ {A = Result (Row × List Token) RowFault} (Err f) (Err g) = sym (first_fault_is_read kind form 0 fields f h) ∙ first_fault_is_read kind form 0 fields g k in
    fault_same {A = Row × List Token} g f (sym same)

pub record_fault_in : (comma semi : ℕ) (source : RowText) (f : RowFault) → record_in comma semi source ≡ Err f → IsRecordFaultIn comma semi source f
record_fault_in comma semi source f h = fault_read_is_first source.kind source.form source.matrix (fields_of comma semi source.text) f h

pub borrowed_record_fault : (comma semi : ℕ) (source : RecordText) (f : RowFault) → record_of source.kind source.form source.matrix (fields_of comma semi source.text.now) ≡ Err f → IsBorrowedRecordFault comma semi source f
borrowed_record_fault comma semi source f h = fault_read_is_first source.kind source.form source.matrix (fields_of comma semi source.text.now) f h
