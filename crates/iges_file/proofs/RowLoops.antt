-- The entities of entries, read one after the other, as a loop does.
use Rattle.std.proofs.Common.{◌≡◌, ℕ, ◌+◌, ◌*◌, List, [], ◌∷◌, ◌++◌, length, Ok, Err, refl, arith}
use Rattle.solid_base.specs.declared.entities.Entity.{Entity}
use Rattle.iges_directory.specs.declared.pairs.Pair.{Pair}
use Rattle.iges_parameters.specs.declared.faults.RowFault.{RowFault}
use Rattle.iges_parameters.specs.declared.faults.RowFault.TheVariants as row
use Rattle.iges_parameters.specs.Faults.{IsOfText}
use Rattle.iges_file.specs.Faults.{of_row}
use Rattle.iges_file.proofs.BadEntries.{bad_entry_found}
use Rattle.iges_file.specs.Entities.{entity_in, AreEntities, IsBadRow, IsRowsFault}

-- an entity more
pub entities_pushed : (comma semi : ℕ) (params : List (List ℕ)) (pairs : List Pair) (es : List Entity) (pair : Pair) (e : Entity) → AreEntities comma semi params pairs es → entity_in comma semi params pair ≡ Ok e
    → AreEntities comma semi params (pairs ++ pair ∷ []) (es ++ e ∷ [])
entities_pushed comma semi params [] [] pair e all one = (one, tt)
entities_pushed comma semi params [] (f ∷ es) pair e all one = absurd all
entities_pushed comma semi params (p ∷ pairs) [] pair e all one = absurd all
entities_pushed comma semi params (p ∷ pairs) (f ∷ es) pair e all one = (all.0, entities_pushed comma semi params pairs es pair e all.1 one)

-- the first record that has a fault
blamed : (comma semi : ℕ) (params : List (List ℕ)) (front rest : List Pair) (es : List Entity) (pair : Pair) (number : ℕ) (f : RowFault) → AreEntities comma semi params front es
    → number ≡ 2 * length front + 1 → entity_in comma semi params pair ≡ Err f → IsBadRow comma semi params (front ++ pair ∷ rest) number f
blamed comma semi params front rest es pair number f good is bad = record { front = front; entities = es; pair = pair; rest = rest; good = good; bad = bad_entry_found comma semi params pair f bad; cut = refl; number = is }

pub row_blamed : (comma semi : ℕ) (params : List (List ℕ)) (front rest : List Pair) (es : List Entity) (pair : Pair) (number : ℕ) (f : RowFault) → AreEntities comma semi params front es
    → number ≡ 2 * length front + 1 → (IsOfText f → entity_in comma semi params pair ≡ Err f) → IsRowsFault comma semi params (front ++ pair ∷ rest) (of_row number f)
row_blamed comma semi params front rest es pair number (row.Memory e) good is bad = tt
row_blamed comma semi params front rest es pair number row.NotRead good is bad = blamed comma semi params front rest es pair number row.NotRead good is (bad (λ e. cc))
row_blamed comma semi params front rest es pair number (row.Token i) good is bad = blamed comma semi params front rest es pair number (row.Token i) good is (bad (λ e. cc))
row_blamed comma semi params front rest es pair number (row.Missing i) good is bad = blamed comma semi params front rest es pair number (row.Missing i) good is (bad (λ e. cc))
row_blamed comma semi params front rest es pair number (row.WrongKind i) good is bad = blamed comma semi params front rest es pair number (row.WrongKind i) good is (bad (λ e. cc))
row_blamed comma semi params front rest es pair number (row.TooFar i) good is bad = blamed comma semi params front rest es pair number (row.TooFar i) good is (bad (λ e. cc))
row_blamed comma semi params front rest es pair number (row.BadSize i) good is bad = blamed comma semi params front rest es pair number (row.BadSize i) good is (bad (λ e. cc))
row_blamed comma semi params front rest es pair number (row.BadAxis i) good is bad = blamed comma semi params front rest es pair number (row.BadAxis i) good is (bad (λ e. cc))
row_blamed comma semi params front rest es pair number row.BadMatrix good is bad = blamed comma semi params front rest es pair number row.BadMatrix good is (bad (λ e. cc))
row_blamed comma semi params front rest es pair number (row.BadPostfix i) good is bad = blamed comma semi params front rest es pair number (row.BadPostfix i) good is (bad (λ e. cc))

-- an entity for each entry
pub entities_counted : (comma semi : ℕ) (params : List (List ℕ)) (pairs : List Pair) (rows : List Entity) → AreEntities comma semi params pairs rows → length rows ≡ length pairs
entities_counted comma semi params [] [] h = refl
entities_counted comma semi params [] (e ∷ es) h = absurd h
entities_counted comma semi params (p ∷ ps) [] h = absurd h
entities_counted comma semi params (p ∷ ps) (e ∷ es) h = omega (arith, entities_counted comma semi params ps es h.1)
