-- What the numbers are that are read by rules: defaults, or numbers in their ranges.
use Rattle.std.proofs.Common.{◌≡◌, ◌⊎◌, inl, inr, ℕ, zero, suc, ◌≤◌, List, [], ◌∷◌, ◌++◌, take, get_or, slice_get, Bool, true, false, cond, Option, Some, None, Result, Ok, Err, ℤ, pos, negsuc, ◌≤ℤ◌, unsigned_abs, refl, sym, ap, subst, ◌∙◌, arith, append_assoc}
use Rattle.std.proofs.lemmas.List.{append-nil}
use Rattle.std.proofs.lemmas.Int.{ints}
use Rattle.solid_base.specs.Range.{IsWithin, far}
use Rattle.solid_base.specs.Ranges.{most_whole}
use Rattle.solid_base.specs.declared.entities.Token.{Token}
use Rattle.solid_base.specs.declared.entities.Token.TheVariants as token
use Rattle.decimal_scale.specs.declared.faults.RealFault.{RealFault}
use Rattle.decimal_scale.specs.Reading.{reading_of}
use Rattle.iges_parameters.specs.declared.faults.RowFault.TheVariants as fault
use Rattle.iges_parameters.specs.declared.tables.Rule.{Rule}
use Rattle.iges_parameters.specs.declared.tables.Values.{Values}
use Rattle.iges_parameters.specs.declared.tables.Values.TheVariants as values
use Rattle.solid_base.specs.Outcomes.{◌>>=◌}
use Rattle.iges_parameters.specs.Rules.{Place, token_at, is_far, near_steps, real_of, whole_of, not_below_0, number_by, has_size, sized, default_of, given, value_of, parameter_at, numbers_from}
use Rattle.iges_parameters.proofs.ItemsSteps.{bind_ok, ok_same, guarded}
use Rattle.iges_parameters.proofs.WholeBounds.{whole_within}

-- ---- one number

-- a number that a field gives is within the bounds of its kind
abbrev pub IsNear : Values → ℤ → Type 0
IsNear values.Real n = IsWithin far n
IsNear values.Size n = IsWithin far n
IsNear (values.SizeBelow other) n = IsWithin far n
IsNear (values.Below other) n = IsWithin far n
IsNear values.Count n = unsigned_abs n ≤ most_whole
IsNear values.Number n = (unsigned_abs n ≤ most_whole) × (pos 0 ≤ℤ n)

-- a number by a rule: the default, or a number that was given
abbrev pub IsReadBy : Rule → ℤ → List ℤ → Type 0
IsReadBy rule n before = (rule.default ≡ Some n) ⊎ (IsNear rule.values n × (has_size rule.values n before ≡ true))

not_far : (k : ℤ) → is_far k ≡ false → IsWithin far k
not_far k h = grind (arith, ints)

near_back : (index : ℕ) (read : Result ℤ RealFault) (n : ℤ) → near_steps index read ≡ Ok n → IsWithin far n
near_back index (Err e) n h = cc
near_back index (Ok k) n h = go (is_far k) refl h where
  go : (v : Bool) → is_far k ≡ v → cond v (Err (fault.TooFar index)) (Ok k) ≡ Ok n → IsWithin far n
  go true is e = cc
  go false is e = subst (IsWithin far) (ok_same k n e) (not_far k is)

real_back : (index : ℕ) (t : Token) (n : ℤ) → real_of index t ≡ Ok n → IsWithin far n
real_back index token.Empty n h = cc
real_back index (token.Whole text) n h = near_back index (reading_of text) n h
real_back index (token.Real text) n h = near_back index (reading_of text) n h
real_back index (token.Text text) n h = cc

not_below : (index : ℕ) (k n : ℤ) → not_below_0 index k ≡ Ok n → (k ≡ n) × (pos 0 ≤ℤ n)
not_below index (pos k) n h = (ok_same (pos k) n h, subst (λ (z : ℤ). pos 0 ≤ℤ z) (ok_same (pos k) n h) (omega (arith, ints)))
not_below index (negsuc k) n h = cc

number_back : (v : Values) (index : ℕ) (t : Token) (n : ℤ) → number_by v index t ≡ Ok n → IsNear v n
unfolding number_by
number_back values.Real index t n h = real_back index t n h
number_back values.Size index t n h = real_back index t n h
number_back (values.SizeBelow other) index t n h = real_back index t n h
number_back (values.Below other) index t n h = real_back index t n h
number_back values.Count index t n h = whole_within index t n h
number_back values.Number index t n h =
    let (k, is, after) = bind_ok (whole_of index t) (λ k. not_below_0 index k) n h in
    let (same, from) = not_below index k n after in
    (subst (λ (z : ℤ). unsigned_abs z ≤ most_whole) same (whole_within index t k is), from)

given_back : (rule : Rule) (index : ℕ) (before : List ℤ) (t : Token) (n : ℤ) → given rule index before t ≡ Ok n → IsReadBy rule n before
given_back rule index before t n h =
    let (k, is, after) = bind_ok (number_by rule.values index t) (λ k. sized rule.values index before k) n h in
    let (size, same) = guarded (has_size rule.values k before) (fault.BadSize index) k n after in
    inr (subst (IsNear rule.values) same (number_back rule.values index t k is), subst (λ (z : ℤ). has_size rule.values z before ≡ true) same size)

default_back : (default : Option ℤ) (index : ℕ) (n : ℤ) → default_of default index ≡ Ok n → default ≡ Some n
default_back None index n h = cc
default_back (Some k) index n h = ap (λ (z : ℤ). Some z) (ok_same k n h)

value_back : (rule : Rule) (index : ℕ) (before : List ℤ) (t : Token) (n : ℤ) → value_of rule index before t ≡ Ok n → IsReadBy rule n before
unfolding value_of
value_back rule index before token.Empty n h = inl (default_back rule.default index n h)
value_back rule index before (token.Whole text) n h = given_back rule index before (token.Whole text) n h
value_back rule index before (token.Real text) n h = given_back rule index before (token.Real text) n h
value_back rule index before (token.Text text) n h = given_back rule index before (token.Text text) n h

parameter_back : (rule : Rule) (before : List ℤ) (p : Place) (x : ℤ × Place) → parameter_at rule before p ≡ Ok x → IsReadBy rule x.0 before
unfolding parameter_at
parameter_back rule before p x h =
    let (t, taken, after) = bind_ok (token_at p) (λ t. value_of rule p.index before t.0 >>= λ n. Ok (n, t.1)) x h in
    let (n, is, end) = bind_ok (value_of rule p.index before t.0) (λ n. Ok (n, t.1)) x after in
    subst (λ (z : ℤ). IsReadBy rule z before) (ap (λ (y : ℤ × Place). y.0) (ok_same (n, t.1) x end)) (value_back rule p.index before t.0 n is)

-- ---- the numbers of a table

-- numbers by their rules, after those before
abbrev pub AreReadBy : List Rule → List ℤ → List ℤ → Type 0
AreReadBy [] [] before = Unit {0}
AreReadBy [] (n ∷ ns) before = ⊥
AreReadBy (rule ∷ rules) [] before = ⊥
AreReadBy (rule ∷ rules) (n ∷ ns) before = IsReadBy rule n before × AreReadBy rules ns (before ++ n ∷ [])

pub numbers_back : (rules : List Rule) (before : List ℤ) (p : Place) (x : List ℤ × Place) → numbers_from rules before p ≡ Ok x → (new : List ℤ) × (x.0 ≡ before ++ new) × AreReadBy rules new before
unfolding numbers_from
numbers_back [] before p x h = ([], ap (λ (y : List ℤ × Place). y.0) (sym (ok_same (before, p) x h)) ∙ sym (append-nil before), tt)
numbers_back (rule ∷ rules) before p x h =
    let (n, is, after) = bind_ok (parameter_at rule before p) (λ n. numbers_from rules (before ++ n.0 ∷ []) n.1) x h in
    let (new, whole, rest) = numbers_back rules (before ++ n.0 ∷ []) n.1 x after in
    (n.0 ∷ new, whole ∙ append_assoc before (n.0 ∷ []) new, (parameter_back rule before p n is, rest))

-- the numbers of a table, from its first parameter on
pub table_back : (rules : List Rule) (p : Place) (x : List ℤ × Place) → numbers_from rules [] p ≡ Ok x → AreReadBy rules x.0 []
table_back rules p x h =
    let (new, whole, read) = numbers_back rules [] p x h in
    subst (λ (ns : List ℤ). AreReadBy rules ns []) (sym whole) read

some_same : (r q : Rule) → Some r ≡ Some q → r ≡ q
some_same r q h = cc

-- one of them, by its place
pub nth_back : (rules : List Rule) (ns before : List ℤ) (i : ℕ) (rule : Rule) → AreReadBy rules ns before → slice_get rules i ≡ Some rule → IsReadBy rule (get_or ns i (pos 0)) (before ++ take i ns)
nth_back [] [] before i rule h is = cc
nth_back [] (n ∷ ns) before i rule h is = absurd h
nth_back (r ∷ rules) [] before i rule h is = absurd h
nth_back (r ∷ rules) (n ∷ ns) before zero rule h is =
    subst (λ (bs : List ℤ). IsReadBy rule n bs) (sym (append-nil before)) (subst (λ (q : Rule). IsReadBy q n before) (some_same r rule is) h.0)
nth_back (r ∷ rules) (n ∷ ns) before (suc i) rule h is =
    subst (λ (bs : List ℤ). IsReadBy rule (get_or ns i (pos 0)) bs) (append_assoc before (n ∷ []) (take i ns)) (nth_back rules ns (before ++ n ∷ []) i rule h.1 is)
