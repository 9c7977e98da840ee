-- A batch makes one model, or is refused by one first fault, and never both.
use Rattle.std.proofs.Common.{◌≡◌, ◌⊎◌, inl, inr, ℕ, List, [], ◌∷◌, ◌++◌, drop, get_or, Ok, refl, sym, ap, subst, ◌∙◌}
use Rattle.std.specs.List.{AllByRecursion}
use Rattle.solid_base.specs.declared.entities.Entity.{Entity}
use Rattle.solid_base.specs.declared.entities.RowText.{RowText}
use Rattle.solid_base.specs.declared.entities.Token.{Token}
use Rattle.solid_base.specs.declared.solids.Row.{Row}
use Rattle.iges_parameters.specs.declared.faults.RowFault.{RowFault}
use Rattle.iges_parameters.specs.RecordFields.{fields_of}
use Rattle.iges_parameters.specs.Records.{record_in}
use Rattle.iges_parameters.specs.RecordFaults.{IsRecordFaultIn}
use Rattle.iges_parameters.proofs.RecordFaultsRead.{first_fault_is_read, first_fault_unique}
use Rattle.edit_core.specs.declared.changes.Change.{Change}
use Rattle.edit_core.specs.declared.changes.Change.TheVariants as change
use Rattle.edit_core.specs.declared.faults.EditFault.{EditFault}
use Rattle.edit_core.specs.declared.faults.EditFault.TheVariants as fault
use Rattle.edit_core.specs.Batches.{Staged}
use Rattle.edit_core.specs.Edits.{edit_comma, edit_semi, Stands, IsNumberToAdd, IsMade, CanBeMade, IsPlaced, AreAfter, IsChangeFault, IsFirstChangeFault, nothing_to_replace, nothing_to_drop, taken, bad_number, bad_replacement, bad_addition}

-- ---- one change

abbrev HasRecordFault : RowText → ℕ → EditFault → Type 0
HasRecordFault source n f = (r : RowFault) × IsRecordFaultIn edit_comma edit_semi source r × (f ≡ fault.BadRecord n r)

abbrev View : List Entity → ℕ → Change → EditFault → Type 0
View rows n (change.Replace source) f = (¬ Stands rows n × (f ≡ fault.NoEntity n)) ⊎ (Stands rows n × HasRecordFault source n f)
View rows n (change.Add source) f = (Stands rows n × (f ≡ fault.Taken n)) ⊎ ((¬ Stands rows n × ¬ IsNumberToAdd n × (f ≡ fault.BadNumber n)) ⊎ (¬ Stands rows n × IsNumberToAdd n × HasRecordFault source n f))
View rows n change.Drop f = ¬ Stands rows n × (f ≡ fault.NoEntity n)

view : (rows : List Entity) (n : ℕ) (c : Change) (f : EditFault) → IsChangeFault rows n c f → View rows n c f
view rows n c f (nothing_to_replace a) = inl (a, refl)
view rows n c f (nothing_to_drop a) = (a, refl)
view rows n c f (taken a) = inl (a, refl)
view rows n c f (bad_number a b) = inr (inl (a, b, refl))
view rows n c f (bad_replacement {f = r} a b) = inr (a, (r, b, refl))
view rows n c f (bad_addition {f = r} a b d) = inr (inr (a, b, (r, d, refl)))

record_unique : (source : RowText) (n : ℕ) (f g : EditFault) → HasRecordFault source n f → HasRecordFault source n g → f ≡ g
record_unique source n f g (r, first, is) (q, second, also) =
    is ∙ ap (λ (x : RowFault). fault.BadRecord n x) (first_fault_unique source.kind source.form (fields_of edit_comma edit_semi source.text) r q first second) ∙ sym also

change_unique : (rows : List Entity) (n : ℕ) (c : Change) (f g : EditFault) → View rows n c f → View rows n c g → f ≡ g
change_unique rows n (change.Replace source) f g (inl a) (inl b) = a.1 ∙ sym b.1
change_unique rows n (change.Replace source) f g (inl a) (inr b) = absurd (a.0 b.0)
change_unique rows n (change.Replace source) f g (inr a) (inl b) = absurd (b.0 a.0)
change_unique rows n (change.Replace source) f g (inr a) (inr b) = record_unique source n f g a.1 b.1
change_unique rows n (change.Add source) f g (inl a) (inl b) = a.1 ∙ sym b.1
change_unique rows n (change.Add source) f g (inl a) (inr (inl b)) = absurd (let (free, bad, is) = b in free a.0)
change_unique rows n (change.Add source) f g (inl a) (inr (inr b)) = absurd (let (free, may, is) = b in free a.0)
change_unique rows n (change.Add source) f g (inr (inl a)) (inl b) = absurd (let (free, bad, is) = a in free b.0)
change_unique rows n (change.Add source) f g (inr (inr a)) (inl b) = absurd (let (free, may, is) = a in free b.0)
change_unique rows n (change.Add source) f g (inr (inl a)) (inr (inl b)) = (let (free, bad, is) = a in let (free_too, bad_too, also) = b in is ∙ sym also)
change_unique rows n (change.Add source) f g (inr (inl a)) (inr (inr b)) = absurd (let (free, bad, is) = a in let (free_too, may, also) = b in bad may)
change_unique rows n (change.Add source) f g (inr (inr a)) (inr (inl b)) = absurd (let (free, bad, is) = b in let (free_too, may, also) = a in bad may)
change_unique rows n (change.Add source) f g (inr (inr a)) (inr (inr b)) = (let (free, may, is) = a in let (free_too, may_too, also) = b in record_unique source n f g is also)
change_unique rows n change.Drop f g a b = a.1 ∙ sym b.1

read_no_fault : (source : RowText) (n : ℕ) (x : Row × List Token) (f : EditFault) → record_in edit_comma edit_semi source ≡ Ok x → HasRecordFault source n f → ⊥
read_no_fault source n x f is (r, first, also) =
    let bad = first_fault_is_read source.kind source.form source.matrix (fields_of edit_comma edit_semi source.text) r first in
    cc

made_no_fault : (rows : List Entity) (n : ℕ) (c : Change) (e : Entity) (f : EditFault) → IsMade rows n c e → View rows n c f → ⊥
made_no_fault rows n (change.Replace source) e f made (inl a) = (let (stands, read, kept) = made in a.0 stands)
made_no_fault rows n (change.Replace source) e f made (inr a) = (let (stands, read, kept) = made in read_no_fault source n (e.row, e.tail) f read a.1)
made_no_fault rows n (change.Add source) e f made (inl a) = (let (free, may, read, blank) = made in free a.0)
made_no_fault rows n (change.Add source) e f made (inr (inl a)) = (let (free, may, read, blank) = made in let (free_too, bad, is) = a in bad may)
made_no_fault rows n (change.Add source) e f made (inr (inr a)) = (let (free, may, read, blank) = made in let (free_too, may_too, is) = a in read_no_fault source n (e.row, e.tail) f read is)
made_no_fault rows n change.Drop e f made a = (let (stands, null) = made in a.0 stands)

-- ---- the first change that can't be made

pub first_same : {X : Type 0} (P : X → Type 0) (f g : List X) (x y : X) (r s : List X) → f ++ x ∷ r ≡ g ++ y ∷ s → AllByRecursion P f → AllByRecursion P g → ¬ P x → ¬ P y → x ≡ y
first_same P [] [] x y r s e a b bad worse = ap (λ l. get_or l 0 x) e
first_same P [] (z ∷ g) x y r s e a b bad worse = absurd (bad (subst P (sym (ap (λ l. get_or l 0 x) e)) b.0))
first_same P (z ∷ f) [] x y r s e a b bad worse = absurd (worse (subst P (ap (λ l. get_or l 0 z) e) a.0))
first_same P (z ∷ f) (w ∷ g) x y r s e a b bad worse = first_same P f g x y r s (ap (drop 1) e) a.1 b.1 bad worse

cant_be_made : (rows : List Entity) (s : Staged) (f : EditFault) → IsChangeFault rows s.0 s.1 f → ¬ CanBeMade rows s
cant_be_made rows s f bad (e, made) = made_no_fault rows s.0 s.1 e f made (view rows s.0 s.1 f bad)

pub first_change_unique : (rows : List Entity) (batch : List Staged) (f g : EditFault) → IsFirstChangeFault rows batch f → IsFirstChangeFault rows batch g → f ≡ g
first_change_unique rows batch f g a b =
    let same = first_same (CanBeMade rows) a.front b.front a.staged b.staged a.rest b.rest (sym a.stands ∙ b.stands) a.before b.before (cant_be_made rows a.staged f a.is) (cant_be_made rows b.staged g b.is) in
    let here = subst (λ (s : Staged). View rows s.0 s.1 f) same (view rows a.staged.0 a.staged.1 f a.is) in
    change_unique rows b.staged.0 b.staged.1 f g here (view rows b.staged.0 b.staged.1 g b.is)

-- where all changes are made, none has a fault
pub in_all : {X : Type 0} (P : X → Type 0) (front : List X) (x : X) (rest : List X) → AllByRecursion P (front ++ x ∷ rest) → P x
in_all P [] x rest h = h.0
in_all P (y ∷ front) x rest h = in_all P front x rest h.1

pub after_no_fault : (rows after : List Entity) (batch : List Staged) (f : EditFault) → AreAfter rows batch after → IsFirstChangeFault rows batch f → ⊥
after_no_fault rows after batch f h a =
    let (e, is, made) = in_all (IsPlaced rows after) a.front a.staged a.rest (subst (AllByRecursion (IsPlaced rows after)) a.stands h.changed) in
    made_no_fault rows a.staged.0 a.staged.1 e f made (view rows a.staged.0 a.staged.1 f a.is)
