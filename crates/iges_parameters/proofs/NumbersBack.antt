-- Numbers that are written as tokens are spelt as such, and read back, each by its rule.
use Rattle.std.proofs.Common.{◌≡◌, ℕ, suc, ◌+◌, ◌^◌, ◌<◌, ◌≤◌, List, [], ◌∷◌, ◌++◌, ◌==◌, map, decimal, Bool, true, false, cond, IsTrue, nat_le, Option, Some, Result, Ok, Err, ℤ, pos, negsuc, unsigned_abs, refl, sym, ap, ◌∙◌, append_assoc, append-nil, arith}
use Rattle.std.proofs.lemmas.Bool.Decides.{nat_tests}
use Rattle.std.proofs.lemmas.Fmt.{decimal_nonempty}
use Rattle.solid_base.specs.Digits.{is_digit, AreDigits, number_of}
use Rattle.solid_base.specs.Spelling.{Sign, NoSign, Minus, IsWhole, IsReal, sign_of, after_sign}
use Rattle.solid_base.specs.Decimal.{with_sign}
use Rattle.solid_base.specs.Ranges.{most_whole}
use Rattle.solid_base.specs.declared.entities.Token.{Token}
use Rattle.decimal_scale.specs.Writing.{real_text}
use Rattle.decimal_scale.proofs.ReadingBack.{decimal_spelt, real_text_real, reading_of-written}
use Rattle.iges_fields.specs.Layout.{IsSpelt, AreSpelt}
use Rattle.iges_parameters.specs.declared.faults.RowFault.{RowFault}
use Rattle.iges_parameters.specs.declared.faults.RowFault.TheVariants as fault
use Rattle.iges_parameters.specs.declared.tables.Rule.{Rule}
use Rattle.iges_parameters.specs.declared.tables.Values.{Values}
use Rattle.iges_parameters.specs.declared.tables.Values.TheVariants as values
use Rattle.solid_base.specs.Outcomes.{◌>>=◌}
use Rattle.iges_parameters.specs.Rules.{Place, token_at, is_far, near_steps, real_of, integer_of, short_integer, whole_of, not_below_0, number_by, has_size, sized, given, value_of, parameter_at, numbers_from}
use Rattle.iges_parameters.specs.Writing.{integer_text, whole, real, token_by, tokens_by}
use Rattle.iges_parameters.proofs.Nearness.{IsNear, AreNear}

-- ---- spellings
pub whole_spelt : (n : ℤ) → unsigned_abs n < 2 ^ 64 → IsWhole (integer_text n)
whole_spelt (pos n) h = record { sign = NoSign; digits = decimal n; are_digits = (decimal_spelt n (omega arith)).0; some = decimal_nonempty n h; spelt = refl }
whole_spelt (negsuc n) h =
    record { sign = Minus; digits = decimal (n + 1); are_digits = (decimal_spelt (n + 1) (omega arith)).0; some = decimal_nonempty (n + 1) (omega arith); spelt = refl }

pub real_spelt : (n : ℤ) → IsNear n → IsReal (real_text n 12)
real_spelt n h = real_text_real n (omega arith)

pub number_spelt : (v : Values) (n : ℤ) → IsNear n → IsSpelt (token_by v n)
number_spelt values.Real n h = real_spelt n h
number_spelt values.Size n h = real_spelt n h
number_spelt (values.SizeBelow other) n h = real_spelt n h
number_spelt (values.Below other) n h = real_spelt n h
number_spelt values.Count n h = whole_spelt n (omega arith)
number_spelt values.Number n h = whole_spelt n (omega arith)

pub numbers_spelt : (rules : List Rule) (ns : List ℤ) → AreNear ns → AreSpelt (tokens_by rules ns)
unfolding tokens_by
numbers_spelt [] ns h = tt
numbers_spelt (r ∷ rules) [] h = tt
numbers_spelt (r ∷ rules) (n ∷ ns) h = (number_spelt r.values n h.0, numbers_spelt rules ns h.1)

-- ---- whole numbers
no_plus : (b : ℕ) → IsTrue (is_digit b) → (b == 43) ≡ false
no_plus b h = grind (arith, nat_tests)

no_minus : (b : ℕ) → IsTrue (is_digit b) → (b == 45) ≡ false
no_minus b h = grind (arith, nat_tests)

no_sign : (ds : List ℕ) → AreDigits ds → (sign_of ds ≡ NoSign) × (after_sign ds ≡ ds)
no_sign [] h = (refl, refl)
no_sign (b ∷ bs) h =
    let p = no_plus b h.0 in
    let m = no_minus b h.0 in
    (rw (p, m) refl, rw (p, m) refl)

integer_again : (n : ℤ) → unsigned_abs n < 2 ^ 64 → integer_of (integer_text n) ≡ n
integer_again (pos n) h =
    let (all, is) = decimal_spelt n (omega arith) in
    let (s, b) = no_sign (decimal n) all in
    ap (λ (x : Sign). with_sign x (number_of (after_sign (decimal n)))) s ∙ ap (λ (ds : List ℕ). with_sign NoSign (number_of ds)) b ∙ ap (with_sign NoSign) is
integer_again (negsuc n) h =
    let (all, is) = decimal_spelt (n + 1) (omega arith) in
    let size : n + 1 ≡ suc n = omega arith in
    ap (with_sign Minus) (is ∙ size)

pub whole_again : (index : ℕ) (n : ℤ) → unsigned_abs n ≤ most_whole → whole_of index (whole n) ≡ Ok n
unfolding whole_of
whole_again index n h =
    let short : nat_le (unsigned_abs n) most_whole ≡ true = grind (arith, nat_tests) in
    ap (short_integer index) (integer_again n (omega arith)) ∙ ap (λ (b : Bool). cond b (Ok n) (Err (fault.TooFar index))) short

pub type_again : (kind : ℕ) → kind ≤ most_whole → integer_of (integer_text (pos kind)) ≡ pos kind
type_again kind h = integer_again (pos kind) (omega arith)

-- ---- reals
real_again : (index : ℕ) (n : ℤ) → IsNear n → real_of index (real n) ≡ Ok n
real_again index n h =
    let near : is_far n ≡ false = grind (arith, nat_tests) in
    ap (near_steps index) (reading_of-written n (omega arith)) ∙ ap (λ (b : Bool). cond b (Err (fault.TooFar index)) (Ok n)) near

-- ---- a number by its rule
-- a number is of the kind that is wanted
abbrev pub Suits : Values → ℤ → Type 0
Suits values.Real n = IsNear n
Suits values.Size n = IsNear n
Suits (values.SizeBelow other) n = IsNear n
Suits (values.Below other) n = IsNear n
Suits values.Count n = unsigned_abs n ≤ most_whole
Suits values.Number (pos n) = n ≤ most_whole
Suits values.Number (negsuc n) = ⊥

number_again : (v : Values) (index : ℕ) (n : ℤ) → Suits v n → number_by v index (token_by v n) ≡ Ok n
unfolding number_by
number_again values.Real index n h = real_again index n h
number_again values.Size index n h = real_again index n h
number_again (values.SizeBelow other) index n h = real_again index n h
number_again (values.Below other) index n h = real_again index n h
number_again values.Count index n h = whole_again index n h
number_again values.Number index (pos n) h = ap (λ (r : Result ℤ RowFault). r >>= λ m. not_below_0 index m) (whole_again index (pos n) h)
number_again values.Number index (negsuc n) h = absurd h

is_given : (rule : Rule) (index : ℕ) (before : List ℤ) (v : Values) (n : ℤ) → value_of rule index before (token_by v n) ≡ given rule index before (token_by v n)
unfolding value_of
is_given rule index before values.Real n = refl
is_given rule index before values.Size n = refl
is_given rule index before (values.SizeBelow other) n = refl
is_given rule index before (values.Below other) n = refl
is_given rule index before values.Count n = refl
is_given rule index before values.Number n = refl

value_again : (rule : Rule) (index : ℕ) (before : List ℤ) (n : ℤ) → Suits rule.values n → has_size rule.values n before ≡ true → value_of rule index before (token_by rule.values n) ≡ Ok n
value_again rule index before n h size =
    is_given rule index before rule.values n
    ∙ ap (λ (r : Result ℤ RowFault). r >>= λ m. sized rule.values index before m) (number_again rule.values index n h)
    ∙ ap (λ (b : Bool). cond b (Ok n) (Err (fault.BadSize index))) size

-- what is read is this, and the place after it has these fields
abbrev pub ReadsTo : {A : Type 0} → Result (A × Place) RowFault → A → List (Option Token) → Type 0
ReadsTo {A} r x fs = (index : ℕ) × (r ≡ Ok (x, record { index = index; fields = fs }))

pub parameter_again : (rule : Rule) (index : ℕ) (before : List ℤ) (n : ℤ) (fs : List (Option Token)) → Suits rule.values n → has_size rule.values n before ≡ true
    → parameter_at rule before (record { index = index; fields = Some (token_by rule.values n) ∷ fs }) ≡ Ok (n, record { index = index + 1; fields = fs })
unfolding parameter_at token_at
parameter_again rule index before n fs h size =
    ap (λ (r : Result ℤ RowFault). r >>= λ m. Ok (m, record { index = index + 1; fields = fs })) (value_again rule index before n h size)

-- ---- the numbers of a table
-- each number suits its rule, and has its size, where these numbers stand before
abbrev pub AreSuited : List Rule → List ℤ → List ℤ → Type 0
AreSuited [] [] before = Unit {0}
AreSuited [] (n ∷ ns) before = ⊥
AreSuited (r ∷ rs) [] before = ⊥
AreSuited (r ∷ rs) (n ∷ ns) before = Suits r.values n × ((has_size r.values n before ≡ true) × AreSuited rs ns (before ++ n ∷ []))

pub numbers_again : (rules : List Rule) (ns before : List ℤ) (index : ℕ) (fs : List (Option Token)) → AreSuited rules ns before
    → ReadsTo (numbers_from rules before (record { index = index; fields = map Some (tokens_by rules ns) ++ fs })) (before ++ ns) fs
unfolding numbers_from tokens_by
numbers_again [] [] before index fs h = (index, ap (λ (xs : List ℤ). Ok (xs, record { index = index; fields = fs })) (sym (append-nil before)))
numbers_again [] (n ∷ ns) before index fs h = absurd h
numbers_again (r ∷ rs) [] before index fs h = absurd h
numbers_again (r ∷ rs) (n ∷ ns) before index fs h =
    let first = parameter_again r index before n (map Some (tokens_by rs ns) ++ fs) h.0 h.1.0 in
    let (after, more) = numbers_again rs ns (before ++ n ∷ []) (index + 1) fs h.1.1 in
    let glue : (before ++ n ∷ []) ++ ns ≡ before ++ n ∷ ns = append_assoc before (n ∷ []) ns in (
      after,
      ap (λ (x : Result (ℤ × Place) RowFault). x >>= λ m. numbers_from rs (before ++ m.0 ∷ []) m.1) first ∙ more ∙ ap (λ (xs : List ℤ). Ok (xs, record { index = after; fields = fs })) glue,
    )
