-- The bounds of whole numbers that are read.
use Rattle.std.proofs.Common.{◌≡◌, ℕ, ◌≤◌, List, ◌<◌, [], ◌∷◌, true, nat_le, int_lt, pos, Ok, ℤ, unsigned_abs, ap, subst, arith}
use Rattle.std.proofs.lemmas.Bool.Decides.{nat_tests}
use Rattle.solid_base.specs.Ranges.{most_whole}
use Rattle.solid_base.specs.declared.entities.Token.{Token}
use Rattle.solid_base.specs.declared.entities.Token.TheVariants as token
use Rattle.iges_parameters.specs.declared.faults.RowFault.TheVariants as fault
use Rattle.iges_parameters.specs.Rules.{Place, integer_of, short_integer, whole_of, has_size, sized, number_by, value_of, parameter, parameter_at, numbers_from, numbers_by}
use Rattle.iges_parameters.specs.Tables.{count, list_rules}
use Rattle.solid_base.specs.Outcomes.{◌>>=◌}
use Rattle.iges_parameters.specs.declared.tables.Values.TheVariants as values
use Rattle.iges_parameters.proofs.ItemsSteps.{bind_ok, ok_same, guarded}
use Rattle.iges_parameters.proofs.ItemsParts.{parameter_parts}

pub is_within : (n k : ℕ) → nat_le n k ≡ true → n ≤ k
is_within n k h = grind (arith, nat_tests)

short_within : (index : ℕ) (k n : ℤ) → short_integer index k ≡ Ok n → unsigned_abs n ≤ most_whole
short_within index k n h =
    let (test, same) = guarded (nat_le (unsigned_abs k) most_whole) (fault.TooFar index) k n h in
    subst (λ (z : ℤ). unsigned_abs z ≤ most_whole) same (is_within (unsigned_abs k) most_whole test)

pub whole_within : (index : ℕ) (t : Token) (n : ℤ) → whole_of index t ≡ Ok n → unsigned_abs n ≤ most_whole
unfolding whole_of
whole_within index token.Empty n h = cc
whole_within index (token.Whole text) n h = short_within index (integer_of text) n h
whole_within index (token.Real text) n h = cc
whole_within index (token.Text text) n h = cc

-- ---- how many items follow

-- a number of items
abbrev pub IsCount : ℕ → Type 0
IsCount n = (0 < n) × (n ≤ most_whole)

above_0 : (n : ℤ) → int_lt (pos 0) n ≡ true → 0 < unsigned_abs n
above_0 n h = grind (arith, nat_tests)

given_count : (index : ℕ) (t : Token) (n : ℤ) → (whole_of index t >>= λ k. sized values.Count index [] k) ≡ Ok n → IsCount (unsigned_abs n)
unfolding has_size
given_count index t n h =
    let (k, first, last) = bind_ok (whole_of index t) _ _ h in
    let (test, same) = guarded (int_lt (pos 0) k) (fault.BadSize index) k n last in
    subst (λ (z : ℤ). IsCount (unsigned_abs z)) same (above_0 k test, whole_within index t k first)

count_token : (index : ℕ) (t : Token) (n : ℤ) → value_of count index [] t ≡ Ok n → IsCount (unsigned_abs n)
unfolding value_of number_by
count_token index token.Empty n h = cc
count_token index (token.Whole text) n h = given_count index (token.Whole text) n h
count_token index (token.Real text) n h = given_count index (token.Real text) n h
count_token index (token.Text text) n h = given_count index (token.Text text) n h

pub count_within : (ns : List ℤ) (p q : Place) → numbers_by list_rules p ≡ Ok (ns, q) → IsCount (unsigned_abs (parameter ns 1))
unfolding list_rules numbers_from
count_within ns p q h =
    let (n, first, last) = bind_ok (parameter_at count [] p) _ _ h in
    let same : n.0 ∷ [] ≡ ns = ap (λ (x : List ℤ × Place). x.0) (ok_same _ _ last) in
    let is = parameter_parts count [] p n.0 n.1 first in
    subst (λ (xs : List ℤ). IsCount (unsigned_abs (parameter xs 1))) same (count_token p.index is.token n.0 is.value)
