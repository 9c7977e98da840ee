-- The fields after a record's parameters: their fault is the first place where no field stands.
use Rattle.std.proofs.Common.{◌≡◌, ℕ, zero, suc, ◌+◌, ◌-◌, ◌<◌, List, [], ◌∷◌, ◌++◌, drop, slice_get, Option, Some, None, Err, refl, sym, ap, ◌∙◌, arith}
use Rattle.solid_base.specs.declared.entities.Token.{Token}
use Rattle.iges_parameters.specs.declared.faults.RowFault.{RowFault}
use Rattle.iges_parameters.specs.declared.faults.RowFault.TheVariants as fault
use Rattle.iges_parameters.specs.Records.{tail_from}
use Rattle.iges_parameters.specs.RecordFaults.{IsTailFault}
use Rattle.iges_parameters.proofs.FieldFaults.{fault_same, as_fault}

-- the first place in a list where no field stands
record IsFirstNone (rest : List (Option Token)) (k : ℕ) : Type 0 where
  none : slice_get rest k ≡ Some None
  before : (i : ℕ) → i < k → slice_get rest i ≡ Some None → ⊥

one_later : (t : Token) (rest : List (Option Token)) (k : ℕ) → IsFirstNone rest k → IsFirstNone (Some t ∷ rest) (suc k)
one_later t rest k h = record { none = h.none; before = none_of } where
  none_of : (i : ℕ) → i < suc k → slice_get (Some t ∷ rest) i ≡ Some None → ⊥
  none_of zero less is = cc
  none_of (suc i) less is = h.before i (omega (arith, less)) is

tail_first : (before : List Token) (index : ℕ) (rest : List (Option Token)) (f : RowFault) → tail_from before index rest ≡ Err f → (k : ℕ) × IsFirstNone rest k × (f ≡ fault.Token (index + k))
unfolding tail_from
tail_first before index [] f h = cc
tail_first before index (None ∷ rest) f h =
    let here : index ≡ index + 0 = omega arith in
    (0, record { none = refl; before = λ i less is. absurd (omega (arith, less)) }, fault_same {A = List Token} (fault.Token index) f h ∙ ap (λ (i : ℕ). fault.Token i) here)
tail_first before index (Some t ∷ rest) f h =
    let (k, first, is) = tail_first (before ++ t ∷ []) (index + 1) rest f h in
    let there : (index + 1) + k ≡ index + suc k = omega arith in
    (suc k, one_later t rest k first, is ∙ ap (λ (i : ℕ). fault.Token i) there)

first_tail : (before : List Token) (index : ℕ) (rest : List (Option Token)) (k : ℕ) → slice_get rest k ≡ Some None → ((i : ℕ) → i < k → slice_get rest i ≡ Some None → ⊥) → tail_from before index rest ≡ Err (fault.Token (index + k))
unfolding tail_from
first_tail before index [] k is none = cc
first_tail before index (None ∷ rest) zero is none = let here : index ≡ index + 0 = omega arith in ap (λ (i : ℕ). Err (fault.Token i)) here
first_tail before index (None ∷ rest) (suc k) is none = absurd (none 0 (omega arith) refl)
first_tail before index (Some t ∷ rest) zero is none = cc
first_tail before index (Some t ∷ rest) (suc k) is none =
    let there : (index + 1) + k ≡ index + suc k = omega arith in
    first_tail (before ++ t ∷ []) (index + 1) rest k is (λ i less none_i. none (suc i) (omega (arith, less)) none_i) ∙ ap (λ (i : ℕ). Err (fault.Token i)) there

dropped_get : (n : ℕ) (fields : List (Option Token)) (k : ℕ) → slice_get (drop n fields) k ≡ slice_get fields (n + k)
dropped_get zero fields k = let same : k ≡ 0 + k = omega arith in ap (λ (i : ℕ). slice_get fields i) same
dropped_get (suc n) [] k = refl
dropped_get (suc n) (f ∷ fields) k =
    let same : suc (n + k) ≡ suc n + k = omega arith in
    dropped_get n fields k ∙ ap (λ (i : ℕ). slice_get (f ∷ fields) i) same

pub tail_fault : (wanted : ℕ) (fields : List (Option Token)) (f : RowFault) → tail_from [] wanted (drop wanted fields) ≡ Err f → IsTailFault wanted fields f
tail_fault wanted fields f h =
    let (k, first, is) = tail_first [] wanted (drop wanted fields) f h in
    record {
      index = wanted + k;
      after = omega arith;
      no_field = sym (dropped_get wanted fields k) ∙ first.none;
      none_before = λ i from less none. (
          let there : wanted + (i - wanted) ≡ i = omega (arith, from) in
          first.before (i - wanted) (omega (arith, from, less)) (dropped_get wanted fields (i - wanted) ∙ ap (λ (j : ℕ). slice_get fields j) there ∙ none)
          );
      is = is;
    }

pub fault_tail : (wanted : ℕ) (fields : List (Option Token)) (f : RowFault) → IsTailFault wanted fields f → tail_from [] wanted (drop wanted fields) ≡ Err f
fault_tail wanted fields f h =
    let there : wanted + (h.index - wanted) ≡ h.index = omega (arith, h.after) in
    let same = dropped_get wanted fields (h.index - wanted) ∙ ap (λ (j : ℕ). slice_get fields j) there in
    first_tail [] wanted (drop wanted fields) (h.index - wanted) (same ∙ h.no_field)
    (λ i less none. h.none_before (wanted + i) (omega arith) (omega (arith, less, h.after)) (sym (dropped_get wanted fields i) ∙ none))
    ∙ ap (λ (j : ℕ). Err (fault.Token j)) there ∙ as_fault {A = List Token} (fault.Token h.index) f h.is
