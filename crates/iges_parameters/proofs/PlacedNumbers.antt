-- Numbers of entities read by one rule, one after the other.
use Rattle.std.proofs.Common.{◌≡◌, ◌⊎◌, inl, inr, ℕ, suc, ◌+◌, ◌-◌, ◌<◌, ◌≤◌, List, [], ◌∷◌, ◌++◌, map, replicate, Result, Ok, Err, ℤ, pos, negsuc, unsigned_abs, refl, sym, ap, subst, ◌∙◌, arith}
use Rattle.std.specs.List.{AllByRecursion}
use Rattle.std.proofs.lemmas.List.{map-append}
use Rattle.solid_base.specs.Ranges.{most_whole}
use Rattle.solid_base.specs.declared.entities.Token.{Token}
use Rattle.solid_base.specs.declared.entities.Token.TheVariants as token
use Rattle.iges_parameters.specs.declared.faults.RowFault.{RowFault}
use Rattle.iges_parameters.specs.declared.tables.Rule.{Rule}
use Rattle.iges_parameters.specs.declared.tables.Values.TheVariants as values
use Rattle.solid_base.specs.Outcomes.{◌>>=◌}
use Rattle.iges_parameters.specs.Rules.{Place, token_at, whole_of, not_below_0, number_by, has_size, value_of, parameter_at, numbers_from}
use Rattle.iges_parameters.specs.Tables.{number, number_or_none}
use Rattle.iges_parameters.proofs.ItemsSteps.{bind_ok, ok_same}
use Rattle.iges_parameters.proofs.ItemsParts.{parameter_parts}
use Rattle.iges_parameters.proofs.WholeBounds.{whole_within}

-- the rule of an item, or that of a matrix
abbrev pub IsRule : Rule → Type 0
IsRule rule = (rule ≡ number) ⊎ (rule ≡ number_or_none)

-- ---- one number

-- the numbers before make no difference
same_value : (rule : Rule) (index : ℕ) (before : List ℤ) (t : Token) → IsRule rule → value_of rule index before t ≡ value_of rule index [] t
unfolding value_of has_size
same_value rule index before t (inl e) = rw e (go t) where
  go : (t : Token) → value_of number index before t ≡ value_of number index [] t
  go token.Empty = refl
  go (token.Whole text) = refl
  go (token.Real text) = refl
  go (token.Text text) = refl
same_value rule index before t (inr e) = rw e (go t) where
  go : (t : Token) → value_of number_or_none index before t ≡ value_of number_or_none index [] t
  go token.Empty = refl
  go (token.Whole text) = refl
  go (token.Real text) = refl
  go (token.Text text) = refl

same_then : {A B : Type 0} (r : Result A RowFault) (f g : A → Result B RowFault) → ((x : A) → f x ≡ g x) → (r >>= f) ≡ (r >>= g)
same_then (Ok x) f g same = same x
same_then (Err e) f g same = refl

abbrev before_place : Place → ℤ → Result (ℤ × Place) RowFault
before_place q n = Ok (n, q)

pub same_parameter : (rule : Rule) (before : List ℤ) (p : Place) → IsRule rule → parameter_at rule before p ≡ parameter_at rule [] p
unfolding parameter_at
same_parameter rule before p is = same_then (token_at p) _ _ (λ t. ap (λ (r : Result ℤ RowFault). r >>= before_place t.1) (same_value rule p.index before t.0 is))

-- an entity's number
abbrev pub IsNumber : ℤ → Type 0
IsNumber n = (n ≡ pos (unsigned_abs n)) × (unsigned_abs n ≤ most_whole)

not_below : (index : ℕ) (k n : ℤ) → unsigned_abs k ≤ most_whole → not_below_0 index k ≡ Ok n → IsNumber n
not_below index (pos k) n within h = subst IsNumber (ok_same (pos k) n h) (refl, within)
not_below index (negsuc k) n within h = cc

given_number : (index : ℕ) (t : Token) (n : ℤ) → (number_by values.Number index t >>= λ k. Ok k) ≡ Ok n → IsNumber n
unfolding number_by
given_number index t n h =
    let (k, first, last) = bind_ok (whole_of index t >>= λ k. not_below_0 index k) _ _ h in
    let (j, whole, at_least) = bind_ok (whole_of index t) _ _ first in
    subst IsNumber (ok_same k n last) (not_below index j k (whole_within index t j whole) at_least)

value_number : (rule : Rule) (index : ℕ) (t : Token) (n : ℤ) → IsRule rule → value_of rule index [] t ≡ Ok n → IsNumber n
unfolding value_of has_size
value_number rule index t n (inl e) h = go t (rw e at h) where
  go : (t : Token) → value_of number index [] t ≡ Ok n → IsNumber n
  go token.Empty h = cc
  go (token.Whole text) h = given_number index (token.Whole text) n h
  go (token.Real text) h = given_number index (token.Real text) n h
  go (token.Text text) h = given_number index (token.Text text) n h
value_number rule index t n (inr e) h = go t (rw e at h) where
  go : (t : Token) → value_of number_or_none index [] t ≡ Ok n → IsNumber n
  go token.Empty h = subst IsNumber (ok_same (pos 0) n h) (refl, omega arith)
  go (token.Whole text) h = given_number index (token.Whole text) n h
  go (token.Real text) h = given_number index (token.Real text) n h
  go (token.Text text) h = given_number index (token.Text text) n h

pub parameter_number : (rule : Rule) (p : Place) (n : ℤ) (q : Place) → IsRule rule → parameter_at rule [] p ≡ Ok (n, q) → IsNumber n
parameter_number rule p n q is h = let parts = parameter_parts rule [] p n q h in value_number rule p.index parts.token n is parts.value

-- ---- numbers one after the other

one_taken : (rule : Rule) (count at : ℕ) (before : List ℤ) (p : Place) → at < count → IsRule rule
    → numbers_from (replicate (count - at) rule) before p ≡ (parameter_at rule [] p >>= λ n. numbers_from (replicate (count - (at + 1)) rule) (before ++ n.0 ∷ []) n.1)
unfolding numbers_from
one_taken rule count at before p more is =
    let k : count - at ≡ suc (count - (at + 1)) = omega (arith, more) in
    rw k (ap (λ (r : Result (ℤ × Place) RowFault). r >>= λ n. numbers_from (replicate (count - (at + 1)) rule) (before ++ n.0 ∷ []) n.1) (same_parameter rule before p is))

pub goes_on : (rule : Rule) (count at : ℕ) (ns : List ℕ) (p q : Place) (n : ℤ) (total : Result (List ℤ × Place) RowFault) → at < count → IsRule rule → parameter_at rule [] p ≡ Ok (n, q)
    → numbers_from (replicate (count - at) rule) (map (λ k. pos k) ns) p ≡ total → numbers_from (replicate (count - (at + 1)) rule) (map (λ k. pos k) (ns ++ unsigned_abs n ∷ [])) q ≡ total
goes_on rule count at ns p q n total more is h so_far =
    let next : numbers_from (replicate (count - at) rule) (map (λ k. pos k) ns) p ≡ numbers_from (replicate (count - (at + 1)) rule) (map (λ k. pos k) ns ++ n ∷ []) q =
    one_taken rule count at (map (λ k. pos k) ns) p more is ∙ rw h refl in
    let same : map (λ k. pos k) (ns ++ unsigned_abs n ∷ []) ≡ map (λ k. pos k) ns ++ n ∷ [] =
    map-append (λ k. pos k) ns (unsigned_abs n ∷ []) ∙ ap (λ (z : ℤ). map (λ k. pos k) ns ++ z ∷ []) (sym (parameter_number rule p n q is h).0) in
    rw same (sym next ∙ so_far)

pub ends : (f : RowFault) (rule : Rule) (count at : ℕ) (before : List ℤ) (p : Place) (total : Result (List ℤ × Place) RowFault) → at < count → IsRule rule → parameter_at rule [] p ≡ Err f
    → numbers_from (replicate (count - at) rule) before p ≡ total → total ≡ Err f
ends f rule count at before p total more is h so_far = sym so_far ∙ one_taken rule count at before p more is ∙ rw h refl

pub is_done : (rule : Rule) (count at : ℕ) (before : List ℤ) (p : Place) (total : Result (List ℤ × Place) RowFault) → count ≤ at
    → numbers_from (replicate (count - at) rule) before p ≡ total → total ≡ Ok (before, p)
unfolding numbers_from
is_done rule count at before p total all so_far =
    let k : count - at ≡ 0 = omega (arith, all) in
    let e : numbers_from (replicate (count - at) rule) before p ≡ Ok (before, p) = rw k refl in
    sym so_far ∙ e

pub all_and : (ns : List ℕ) (n : ℕ) → AllByRecursion (λ k. k ≤ most_whole) ns → n ≤ most_whole → AllByRecursion (λ k. k ≤ most_whole) (ns ++ n ∷ [])
all_and [] n all one = (one, tt)
all_and (k ∷ ns) n all one = (all.0, all_and ns n all.1 one)
