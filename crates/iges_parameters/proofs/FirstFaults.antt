-- Fields read one by one by what is wanted of them: the fault is that of the first field that has one.
use Rattle.std.proofs.Common.{◌≡◌, ◌⊎◌, inl, inr, ℕ, zero, suc, ◌+◌, ◌<◌, List, [], ◌∷◌, ◌++◌, length, drop, take, slice_get, Option, Some, None, Result, Ok, Err, ℤ, refl, sym, ap, subst, ◌∙◌, arith, append_assoc}
use Rattle.std.proofs.lemmas.List.{append-nil}
use Rattle.solid_base.specs.declared.entities.Token.{Token}
use Rattle.solid_base.specs.declared.entities.Token.TheVariants as token
use Rattle.iges_parameters.specs.declared.faults.RowFault.{RowFault}
use Rattle.solid_base.specs.Outcomes.{◌>>=◌}
use Rattle.iges_parameters.specs.Rules.{Place}
use Rattle.iges_parameters.specs.RecordFaults.{Wanted, field_with, number_of_field, numbers_of, IsFieldFault, HasFault, IsFirstFault, AreFaultless}
use Rattle.iges_parameters.proofs.ItemsSteps.{bind_ok, ok_same}
use Rattle.iges_parameters.proofs.TreesBlamed.{bind_err}
use Rattle.iges_parameters.proofs.FieldFaults.{no_fault, value_at, taken, IsPlaced, field_fault, field_back, field_ok}

-- ---- results
pub outcome : {A : Type 0} (r : Result A RowFault) → ((e : RowFault) × (r ≡ Err e)) ⊎ ((x : A) × (r ≡ Ok x))
outcome (Err e) = inl (e, refl)
outcome (Ok x) = inr (x, refl)

pub bind_stops : {A B : Type 0} (r : Result A RowFault) (f : A → Result B RowFault) (e : RowFault) → r ≡ Err e → r >>= f ≡ Err e
bind_stops (Ok x) f e h = cc
bind_stops (Err g) f e h = let same : g ≡ e = cc in ap (λ (z : RowFault). Err z) same

pub bind_goes : {A B : Type 0} (r : Result A RowFault) (f : A → Result B RowFault) (x : A) (y : Result B RowFault) → r ≡ Ok x → f x ≡ y → r >>= f ≡ y
bind_goes (Ok z) f x y is h = ap f (ok_same z x is) ∙ h
bind_goes (Err g) f x y is h = cc

-- ---- the next field, and those after it
abbrev pub next_of : List (Option Token) → Option Token
next_of [] = Some token.Empty
next_of (f ∷ fields) = f

abbrev pub rest_of : List (Option Token) → List (Option Token)
rest_of [] = []
rest_of (f ∷ fields) = fields

abbrev pub at : ℕ → List (Option Token) → Place
at index fields = record { index = index; fields = fields }

-- the numbers of fields by what is wanted of them, after those before, and the place after them
unfoldable pub run : List Wanted → List ℤ → ℕ → List (Option Token) → Result (List ℤ × Place) RowFault
run [] before index fields = Ok (before, at index fields)
run (w ∷ ws) before index fields = taken w index before (next_of fields) >>= λ n. run ws (before ++ n ∷ []) (index + 1) (rest_of fields)

numbers_next : (w : Wanted) (ws : List Wanted) (fields : List (Option Token)) → numbers_of (w ∷ ws) fields ≡ number_of_field w (next_of fields) ∷ numbers_of ws (rest_of fields)
numbers_next w ws [] = refl
numbers_next w ws (f ∷ fields) = refl

field_first : (fields : List (Option Token)) → field_with fields 0 ≡ next_of fields
field_first [] = refl
field_first (f ∷ fields) = refl

field_later : (fields : List (Option Token)) (k : ℕ) → field_with fields (suc k) ≡ field_with (rest_of fields) k
field_later [] k = refl
field_later (f ∷ fields) k = refl

-- ---- faults from a place on

abbrev HasFrom : List Wanted → List ℤ → ℕ → List (Option Token) → ℕ → RowFault → Type 0
HasFrom ws before index fields k f = (w : Wanted) × (slice_get ws k ≡ Some w) × IsFieldFault w (index + k) (before ++ take k (numbers_of ws fields)) (field_with fields k) f

-- the same fault, of the same field
same_fault : (w : Wanted) (i j : ℕ) (b c : List ℤ) (x y : Option Token) (f : RowFault) → i ≡ j → b ≡ c → x ≡ y → IsFieldFault w i b x f → IsFieldFault w j c y f
same_fault w i j b c x y f p q r h =
    subst (λ (z : Option Token). IsFieldFault w j c z f) r (subst (λ (z : List ℤ). IsFieldFault w j z x f) q (subst (λ (z : ℕ). IsFieldFault w z b x f) p h))

wanted_same : (w v : Wanted) → Some w ≡ Some v → w ≡ v
wanted_same w v h = cc

no_index : (index : ℕ) → index + 0 ≡ index
no_index index = omega arith

next_index : (index k : ℕ) → index + suc k ≡ (index + 1) + k
next_index index k = omega arith

has_first : (w : Wanted) (ws : List Wanted) (before : List ℤ) (index : ℕ) (fields : List (Option Token)) (f : RowFault) → HasFrom (w ∷ ws) before index fields 0 f → IsFieldFault w index before (next_of fields) f
has_first w ws before index fields f (v, is, h) =
    same_fault w (index + 0) index (before ++ []) before (field_with fields 0) (next_of fields) f (no_index index) (append-nil before) (field_first fields)
    (subst (λ (z : Wanted). IsFieldFault z (index + 0) (before ++ []) (field_with fields 0) f) (sym (wanted_same w v is)) h)

first_has : (w : Wanted) (ws : List Wanted) (before : List ℤ) (index : ℕ) (fields : List (Option Token)) (f : RowFault) → IsFieldFault w index before (next_of fields) f → HasFrom (w ∷ ws) before index fields 0 f
first_has w ws before index fields f h =
    (w, refl, same_fault w index (index + 0) before (before ++ []) (next_of fields) (field_with fields 0) f (sym (no_index index)) (sym (append-nil before)) (sym (field_first fields)) h)

-- the numbers before a later field
numbers_before : (w : Wanted) (ws : List Wanted) (before : List ℤ) (n : ℤ) (fields : List (Option Token)) (k : ℕ) → n ≡ number_of_field w (next_of fields)
    → before ++ take (suc k) (numbers_of (w ∷ ws) fields) ≡ (before ++ n ∷ []) ++ take k (numbers_of ws (rest_of fields))
numbers_before w ws before n fields k is =
    ap (λ (ns : List ℤ). before ++ take (suc k) ns) (numbers_next w ws fields) ∙ ap (λ (z : ℤ). before ++ z ∷ take k (numbers_of ws (rest_of fields))) (sym is)
    ∙ sym (append_assoc before (n ∷ []) (take k (numbers_of ws (rest_of fields))))

has_later : (w : Wanted) (ws : List Wanted) (before : List ℤ) (n : ℤ) (index : ℕ) (fields : List (Option Token)) (k : ℕ) (f : RowFault) → n ≡ number_of_field w (next_of fields)
    → HasFrom (w ∷ ws) before index fields (suc k) f → HasFrom ws (before ++ n ∷ []) (index + 1) (rest_of fields) k f
has_later w ws before n index fields k f same (v, is, h) =
    (v, is, same_fault v (index + suc k) ((index + 1) + k) _ _ (field_with fields (suc k)) (field_with (rest_of fields) k) f (next_index index k) (numbers_before w ws before n fields k same) (field_later fields k) h)

later_has : (w : Wanted) (ws : List Wanted) (before : List ℤ) (n : ℤ) (index : ℕ) (fields : List (Option Token)) (k : ℕ) (f : RowFault) → n ≡ number_of_field w (next_of fields)
    → HasFrom ws (before ++ n ∷ []) (index + 1) (rest_of fields) k f → HasFrom (w ∷ ws) before index fields (suc k) f
later_has w ws before n index fields k f same (v, is, h) =
    (v, is, same_fault v ((index + 1) + k) (index + suc k) _ _ (field_with (rest_of fields) k) (field_with fields (suc k)) f (sym (next_index index k)) (sym (numbers_before w ws before n fields k same)) (sym (field_later fields k)) h)

-- ---- items stand after items that are read

-- wherever reading comes, an item's place is right; and what holds at the end
abbrev pub Ready : (List ℤ → Type 0) → List Wanted → ℕ → List ℤ → Type 0
Ready End [] index before = End before
Ready End (w ∷ ws) index before = IsPlaced w index before × ((n : ℤ) (t : Token) → value_at w index before t ≡ Ok n → Ready End ws (index + 1) (before ++ n ∷ []))

ready_next : (End : List ℤ → Type 0) (w : Wanted) (ws : List Wanted) (index : ℕ) (before : List ℤ) (field : Option Token) (n : ℤ) → Ready End (w ∷ ws) index before → taken w index before field ≡ Ok n → Ready End ws (index + 1) (before ++ n ∷ [])
ready_next End w ws index before None n ready h = cc
ready_next End w ws index before (Some t) n ready h = ready.1 n t h

-- ---- the fault that reading gives, and the first one

-- nothing is wanted, so nothing is wrong
none_wanted : (before : List ℤ) (index : ℕ) (fields : List (Option Token)) (i : ℕ) (g : RowFault) → HasFrom [] before index fields i g → ⊥
none_wanted before index fields i g (w, is, wrong) = cc

record FirstFrom (ws : List Wanted) (before : List ℤ) (index : ℕ) (fields : List (Option Token)) (f : RowFault) : Type 0 where
  place : ℕ
  has : HasFrom ws before index fields place f
  none_before : (i : ℕ) (g : RowFault) → i < place → HasFrom ws before index fields i g → ⊥

first_now : (w : Wanted) (ws : List Wanted) (before : List ℤ) (index : ℕ) (fields : List (Option Token)) (f : RowFault) → IsFieldFault w index before (next_of fields) f → FirstFrom (w ∷ ws) before index fields f
first_now w ws before index fields f h = record { place = 0; has = first_has w ws before index fields f h; none_before = λ i g less. absurd (omega (arith, less)) }

first_later : (w : Wanted) (ws : List Wanted) (before : List ℤ) (n : ℤ) (index : ℕ) (fields : List (Option Token)) (f : RowFault) → n ≡ number_of_field w (next_of fields)
    → ((g : RowFault) → IsFieldFault w index before (next_of fields) g → ⊥) → FirstFrom ws (before ++ n ∷ []) (index + 1) (rest_of fields) f → FirstFrom (w ∷ ws) before index fields f
first_later w ws before n index fields f same fine h = record { place = suc h.place; has = later_has w ws before n index fields h.place f same h.has; none_before = none } where
  none : (i : ℕ) (g : RowFault) → i < suc h.place → HasFrom (w ∷ ws) before index fields i g → ⊥
  none zero g less has = fine g (has_first w ws before index fields g has)
  none (suc i) g less has = h.none_before i g (omega (arith, less)) (has_later w ws before n index fields i g same has)

-- a field that gives a number has no fault
fine_field : (w : Wanted) (index : ℕ) (before : List ℤ) (field : Option Token) (n : ℤ) → IsPlaced w index before → taken w index before field ≡ Ok n → (g : RowFault) → IsFieldFault w index before field g → ⊥
fine_field w index before field n placed is g h = no_fault (taken w index before field) n g is (field_back w index before field g placed h)

run_first : (End : List ℤ → Type 0) (ws : List Wanted) (before : List ℤ) (index : ℕ) (fields : List (Option Token)) (f : RowFault) → Ready End ws index before → run ws before index fields ≡ Err f → FirstFrom ws before index fields f
unfolding run
run_first End [] before index fields f ready h = absurd (no_fault (run [] before index fields) (before, at index fields) f refl h)
run_first End (w ∷ ws) before index fields f ready h =
    elim (bind_err (taken w index before (next_of fields)) _ f h) [
      | inl wrong ↦ first_now w ws before index fields f (field_fault w index before (next_of fields) f ready.0 wrong)
      | inr (n, is, more) ↦ first_later w ws before n index fields f (field_ok w index before (next_of fields) n is) (fine_field w index before (next_of fields) n ready.0 is)
          (run_first End ws (before ++ n ∷ []) (index + 1) (rest_of fields) f (ready_next End w ws index before (next_of fields) n ready is) more)
    ]

first_run : (End : List ℤ → Type 0) (ws : List Wanted) (before : List ℤ) (index : ℕ) (fields : List (Option Token)) (f : RowFault) (k : ℕ) → Ready End ws index before
    → HasFrom ws before index fields k f → ((i : ℕ) (g : RowFault) → i < k → HasFrom ws before index fields i g → ⊥) → run ws before index fields ≡ Err f
unfolding run
first_run End [] before index fields f k ready (w, is, h) none = cc
first_run End (w ∷ ws) before index fields f zero ready has none =
    bind_stops (taken w index before (next_of fields)) _ f (field_back w index before (next_of fields) f ready.0 (has_first w ws before index fields f has))
first_run End (w ∷ ws) before index fields f (suc k) ready has none =
    elim (outcome (taken w index before (next_of fields))) [
      | inl (e, wrong) ↦ absurd (none 0 e (omega arith) (first_has w ws before index fields e (field_fault w index before (next_of fields) e ready.0 wrong)))
      | inr (n, is) ↦ (
          let same = field_ok w index before (next_of fields) n is in
          bind_goes (taken w index before (next_of fields)) _ n (Err f) is
          (first_run End ws (before ++ n ∷ []) (index + 1) (rest_of fields) f k (ready_next End w ws index before (next_of fields) n ready is) (has_later w ws before n index fields k f same has)
          (λ i g less there. none (suc i) g (omega (arith, less)) (later_has w ws before n index fields i g same there)))
          )
    ]

-- what reading gives that comes to its end
record Through (End : List ℤ → Type 0) (ws : List Wanted) (before : List ℤ) (index : ℕ) (fields : List (Option Token)) (ns : List ℤ) (p : Place) : Type 0 where
  numbers : ns ≡ before ++ numbers_of ws fields
  place : p.index ≡ index + length ws
  left : p.fields ≡ drop (length ws) fields
  end : End ns
  faultless : (i : ℕ) (g : RowFault) → HasFrom ws before index fields i g → ⊥

dropped : (k : ℕ) (fields : List (Option Token)) → drop (suc k) fields ≡ drop k (rest_of fields)
dropped zero [] = refl
dropped (suc k) [] = refl
dropped zero (f ∷ fields) = refl
dropped (suc k) (f ∷ fields) = refl

pair_same : (x y : List ℤ × Place) → x ≡ y → (x.0 ≡ y.0) × (x.1 ≡ y.1)
pair_same x y h = (ap (λ (z : List ℤ × Place). z.0) h, ap (λ (z : List ℤ × Place). z.1) h)

run_through : (End : List ℤ → Type 0) (ws : List Wanted) (before : List ℤ) (index : ℕ) (fields : List (Option Token)) (ns : List ℤ) (p : Place) → Ready End ws index before → run ws before index fields ≡ Ok (ns, p)
    → Through End ws before index fields ns p
unfolding run
run_through End [] before index fields ns p ready h =
    let (numbers, place) = pair_same (before, at index fields) (ns, p) (ok_same (before, at index fields) (ns, p) h) in
    record {
      numbers = sym numbers ∙ sym (append-nil before);
      place = sym (ap (λ (q : Place). q.index) place) ∙ sym (no_index index);
      left = sym (ap (λ (q : Place). q.fields) place);
      end = subst End numbers ready;
      faultless = none_wanted before index fields;
    }
run_through End (w ∷ ws) before index fields ns p ready h =
    let (n, is, more) = bind_ok (taken w index before (next_of fields)) _ (ns, p) h in
    let same = field_ok w index before (next_of fields) n is in
    let rest = run_through End ws (before ++ n ∷ []) (index + 1) (rest_of fields) ns p (ready_next End w ws index before (next_of fields) n ready is) more in
    record {
      numbers = rest.numbers ∙ append_assoc before (n ∷ []) (numbers_of ws (rest_of fields)) ∙ ap (λ (z : ℤ). before ++ z ∷ numbers_of ws (rest_of fields)) same ∙ ap (λ (z : List ℤ). before ++ z) (sym (numbers_next w ws fields));
      place = omega (arith, rest.place);
      left = rest.left ∙ sym (dropped (length ws) fields);
      end = rest.end;
      faultless = none_of n is same rest.faultless;
    } where
      none_of : (n : ℤ) → taken w index before (next_of fields) ≡ Ok n → n ≡ number_of_field w (next_of fields)
          → ((i : ℕ) (g : RowFault) → HasFrom ws (before ++ n ∷ []) (index + 1) (rest_of fields) i g → ⊥) → (i : ℕ) (g : RowFault) → HasFrom (w ∷ ws) before index fields i g → ⊥
      none_of n is same others zero g has = fine_field w index before (next_of fields) n ready.0 is g (has_first w ws before index fields g has)
      none_of n is same others (suc i) g has = others i g (has_later w ws before n index fields i g same has)

-- ---- from the first field on

zero_index : (k : ℕ) → 0 + k ≡ k
zero_index k = omega arith

whole_has : (wanted : List Wanted) (fields : List (Option Token)) (k : ℕ) (f : RowFault) → HasFrom wanted [] 0 fields k f → HasFault wanted fields k f
whole_has wanted fields k f (w, is, h) = (w, is, subst (λ (z : ℕ). IsFieldFault w z (take k (numbers_of wanted fields)) (field_with fields k) f) (zero_index k) h)

has_whole : (wanted : List Wanted) (fields : List (Option Token)) (k : ℕ) (f : RowFault) → HasFault wanted fields k f → HasFrom wanted [] 0 fields k f
has_whole wanted fields k f (w, is, h) = (w, is, subst (λ (z : ℕ). IsFieldFault w z (take k (numbers_of wanted fields)) (field_with fields k) f) (sym (zero_index k)) h)

-- reading gives the fault of the first field that has one, and no other
pub fault_is_first : (End : List ℤ → Type 0) (wanted : List Wanted) (fields : List (Option Token)) (f : RowFault) → Ready End wanted 0 [] → run wanted [] 0 fields ≡ Err f → IsFirstFault wanted fields f
fault_is_first End wanted fields f ready h =
    let first = run_first End wanted [] 0 fields f ready h in
    record { index = first.place; has = whole_has wanted fields first.place f first.has; none_before = λ i g less has. first.none_before i g less (has_whole wanted fields i g has) }

pub first_is_fault : (End : List ℤ → Type 0) (wanted : List Wanted) (fields : List (Option Token)) (f : RowFault) → Ready End wanted 0 [] → IsFirstFault wanted fields f → run wanted [] 0 fields ≡ Err f
first_is_fault End wanted fields f ready h =
    first_run End wanted [] 0 fields f h.index ready (has_whole wanted fields h.index f h.has) (λ i g less has. h.none_before i g less (whole_has wanted fields i g has))

-- reading that comes to its end finds no fault
pub record IsThrough (End : List ℤ → Type 0) (wanted : List Wanted) (fields : List (Option Token)) (ns : List ℤ) (p : Place) : Type 0 where
  pub numbers : ns ≡ numbers_of wanted fields
  pub place : p.index ≡ length wanted
  pub left : p.fields ≡ drop (length wanted) fields
  pub end : End ns
  pub faultless : AreFaultless wanted fields

pub goes_through : (End : List ℤ → Type 0) (wanted : List Wanted) (fields : List (Option Token)) (ns : List ℤ) (p : Place) → Ready End wanted 0 [] → run wanted [] 0 fields ≡ Ok (ns, p) → IsThrough End wanted fields ns p
goes_through End wanted fields ns p ready h =
    let all = run_through End wanted [] 0 fields ns p ready h in
    record { numbers = all.numbers; place = all.place ∙ zero_index (length wanted); left = all.left; end = all.end; faultless = λ i g has. all.faultless i g (has_whole wanted fields i g has) }

-- a record without faults in its fields is read to the end
pub faultless_goes : (End : List ℤ → Type 0) (wanted : List Wanted) (fields : List (Option Token)) → Ready End wanted 0 [] → AreFaultless wanted fields → (x : List ℤ × Place) × (run wanted [] 0 fields ≡ Ok x)
faultless_goes End wanted fields ready none =
    elim (outcome (run wanted [] 0 fields)) [
      | inl (e, wrong) ↦ (let first = fault_is_first End wanted fields e ready wrong in absurd (none first.index e first.has))
      | inr there ↦ there
    ]
