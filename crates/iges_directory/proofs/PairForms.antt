-- Entries: what is spelt is read, and what is read is spelt.
use Rattle.std.proofs.Common.{◌≡◌, ◌≢◌, ◌⊎◌, inl, inr, ℕ, ◌+◌, ◌-◌, ◌≤◌, ◌<◌, List, Bool, true, false, cond, ◌&&◌, ◌||◌, ◌==◌, nat_le, nat_lt, Option, Some, None, Result, Ok, Err, refl, sym, ap, subst, ◌∙◌, arith}
use Rattle.std.specs.List.{list_all}
use Rattle.solid_base.specs.Spelling.{is_blank, AreBlanks}
use Rattle.solid_base.proofs.Prefix.{both}
use Rattle.iges_directory.specs.declared.directory_faults.DirFault.{DirFault}
use Rattle.iges_directory.specs.declared.directory_faults.DirFault.TheVariants as fault
use Rattle.iges_directory.specs.declared.pairs.Pair.{Pair}
use Rattle.iges_directory.specs.ColumnNumbers.{number_in}
use Rattle.iges_directory.specs.Pairs.{field, attributes, null_pair, HoldsWithin, IsOfType, IsEntity, IsPair}
use Rattle.solid_base.specs.Outcomes.{◌>>=◌}
use Rattle.iges_directory.specs.DirectoryReading.{within, type_in, after_lines, after_first, entity_in, pair_in}
use Rattle.solid_base.proofs.Columns.{all_test, test_all}
use Rattle.iges_directory.proofs.NumberForms.{number_again, number_takes}

-- ---- tests

le_test : (a b : ℕ) → a ≤ b → nat_le a b ≡ true
le_test a b h = grind arith

test_le : (a b : ℕ) → nat_le a b ≡ true → a ≤ b
test_le a b h = grind arith

pub lt_test : (a b : ℕ) → a < b → nat_lt a b ≡ true
lt_test a b h = grind arith

pub test_lt : (a b : ℕ) → nat_lt a b ≡ true → a < b
test_lt a b h = grind arith

pub not_lt_test : (a b : ℕ) → b ≤ a → nat_lt a b ≡ false
not_lt_test a b h = grind arith

pub at_least : (a b : ℕ) → nat_lt a b ≡ false → b ≤ a
at_least a b h = grind arith

pub same_test : (n : ℕ) → (n == n) ≡ true
same_test n = grind arith

pub test_same : (n m : ℕ) → (n == m) ≡ true → n ≡ m
test_same n m h = grind arith

pub other_test : (n m : ℕ) → n ≢ m → (n == m) ≡ false
other_test n m h = grind arith

pub test_other : (n m : ℕ) → (n == m) ≡ false → n ≢ m
test_other n m h = grind arith

pub no_fault : {A : Type 0} (v : Bool) (x : Result A DirFault) (f : DirFault) (y : A) → cond v x (Err f) ≡ Ok y → (v ≡ true) × (x ≡ Ok y)
no_fault true x f y h = (refl, h)
no_fault false x f y h = cc

pub not_stopped : {A : Type 0} (v : Bool) (x : Result A DirFault) (f : DirFault) (y : A) → cond v (Err f) x ≡ Ok y → (v ≡ false) × (x ≡ Ok y)
not_stopped true x f y h = cc
not_stopped false x f y h = (refl, h)

-- a check and the next one gave something
pub both_gave : {A B : Type 0} (o : Result A DirFault) (f : A → Result B DirFault) (y : B) → (o >>= f) ≡ Ok y → (x : A) × (o ≡ Ok x) × (f x ≡ Ok y)
both_gave (Ok x) f y h = (x, refl, h)
both_gave (Err e) f y h = cc

-- ---- a field

pub within_again : (entity k least most n : ℕ) (columns : List ℕ) → HoldsWithin least most n columns → within entity k least most (number_in columns) ≡ Ok n
unfolding within
within_again entity k least most n columns h = rw (number_again n columns h.number, le_test least n h.at_least, le_test n most h.at_most) refl

read_within : (entity k least most n : ℕ) (o : Option ℕ) → within entity k least most o ≡ Ok n → (o ≡ Some n) × (least ≤ n) × (n ≤ most)
unfolding within
read_within entity k least most n None h = cc
read_within entity k least most n (Some m) h =
    let (tests, value) = no_fault (nat_le least m && nat_le m most) (Ok m) (fault.BadField entity k) n h in
    let (low, high) = both (nat_le least m) (nat_le m most) tests in
    let same : m ≡ n = cc in
    (ap Some same, subst (λ x. least ≤ x) same (test_le least m low), subst (λ x. x ≤ most) same (test_le m most high))

pub within_takes : (entity k least most n : ℕ) (columns : List ℕ) → within entity k least most (number_in columns) ≡ Ok n → HoldsWithin least most n columns
within_takes entity k least most n columns h =
    let (value, low, high) = read_within entity k least most n (number_in columns) h in
    record { number = number_takes n columns value; at_least = low; at_most = high }

-- ---- the type

blank_zero : (columns : List ℕ) → AreBlanks columns → HoldsWithin 0 99999 0 columns
blank_zero columns h = record { number = inl (h, refl); at_least = omega arith; at_most = omega arith }

or_right : (v w : Bool) → w ≡ true → v || w ≡ true
or_right true w h = refl
or_right false w h = h

or_cases : (v w : Bool) → v || w ≡ true → (v ≡ true) ⊎ (w ≡ true)
or_cases true w h = inl refl
or_cases false w h = inr h

pub type_again : (entity kind : ℕ) (one two : List ℕ) → IsOfType kind one two → type_in entity one two ≡ Ok kind
unfolding type_in
type_again entity kind one two h = elim h.second [
  | inl s ↦ rw (within_again entity 1 0 99999 kind (field 1 one) h.first, within_again entity 11 0 99999 kind (field 1 two) s, same_test kind) refl
  | inr b ↦ rw (within_again entity 1 0 99999 kind (field 1 one) h.first, within_again entity 11 0 99999 0 (field 1 two) (blank_zero (field 1 two) b), or_right (0 == kind) (list_all is_blank (field 1 two)) (all_test is_blank (field 1 two) b)) refl
]

pub type_takes : (entity kind : ℕ) (one two : List ℕ) → type_in entity one two ≡ Ok kind → IsOfType kind one two
unfolding type_in
type_takes entity kind one two h =
    let (k, first, more) = both_gave (within entity 1 0 99999 (number_in (field 1 one))) (λ kind. within entity 11 0 99999 (number_in (field 1 two)) >>= λ again. cond ((again == kind) || list_all is_blank (field 1 two)) (Ok kind) (Err (fault.TypeDiffers entity))) kind h in
    let (again, second, last) = both_gave (within entity 11 0 99999 (number_in (field 1 two))) (λ again. cond ((again == k) || list_all is_blank (field 1 two)) (Ok k) (Err (fault.TypeDiffers entity))) kind more in
    let (tests, value) = no_fault ((again == k) || list_all is_blank (field 1 two)) (Ok k) (fault.TypeDiffers entity) kind last in
    let same : k ≡ kind = cc in
    let held = within_takes entity 11 0 99999 again (field 1 two) second in
    record {
      first = subst (λ x. HoldsWithin 0 99999 x (field 1 one)) same (within_takes entity 1 0 99999 k (field 1 one) first);
      second = elim (or_cases (again == k) (list_all is_blank (field 1 two)) tests) [
        | inl e ↦ inl (subst (λ x. HoldsWithin 0 99999 x (field 1 two)) (test_same again k e ∙ same) held)
        | inr b ↦ inr (test_all is_blank (field 1 two) b)
      ];
    }

-- ---- an entity

same_pair : (p : Pair) (attrs : List ℕ) → p.attrs ≡ attrs → record { kind = p.kind; first = p.first; count = p.count; matrix = p.matrix; form = p.form; attrs = attrs } ≡ p
same_pair p attrs h = ap (λ (a : List ℕ). record { kind = p.kind; first = p.first; count = p.count; matrix = p.matrix; form = p.form; attrs = a }) (sym h)

entity_again : (params text entity : ℕ) (one two : List ℕ) (pair : Pair) → IsEntity params one two pair → text + pair.count ≤ 500000 → entity_in params text entity pair.kind one two ≡ Ok pair
unfolding entity_in
entity_again params text entity one two pair h few =
    rw (
      within_again entity 2 1 params pair.first (field 2 one) h.first,
      within_again entity 14 1 (params - pair.first + 1) pair.count (field 4 two) h.count,
      not_lt_test 500000 (text + pair.count) few,
      within_again entity 7 0 9999999 pair.matrix (field 7 one) h.matrix,
      within_again entity 15 0 99999 pair.form (field 5 two) h.form,
    ) (ap Ok (same_pair pair (attributes one two) h.attrs))

entity_takes : (params text entity kind : ℕ) (one two : List ℕ) (pair : Pair) → entity_in params text entity kind one two ≡ Ok pair → IsOfType kind one two → kind ≢ 0 → IsEntity params one two pair × (text + pair.count ≤ 500000)
unfolding entity_in
entity_takes params text entity kind one two pair h of_type some =
    let (first, first_in, m) = both_gave (within entity 2 1 params (number_in (field 2 one))) (λ first. after_first params text entity kind first one two) pair h in
    let (count, count_in, n) = both_gave (within entity 14 1 (params - first + 1) (number_in (field 4 two))) (λ count. cond (nat_lt 500000 (text + count)) (Err (fault.TooMuchText entity))
    (after_lines entity kind first count one two)) pair m in
    let (few, k) = not_stopped (nat_lt 500000 (text + count)) (after_lines entity kind first count one two) (fault.TooMuchText entity) pair n in
    let (matrix, matrix_in, j) = both_gave (within entity 7 0 9999999 (number_in (field 7 one))) (λ matrix. within entity 15 0 99999 (number_in (field 5 two)) >>= λ form. Ok (record { kind = kind; first = first; count = count; matrix = matrix; form = form; attrs = attributes one two })) pair k in
    let (form, form_in, i) = both_gave (within entity 15 0 99999 (number_in (field 5 two))) (λ form. Ok (record { kind = kind; first = first; count = count; matrix = matrix; form = form; attrs = attributes one two })) pair j in
    let is : record { kind = kind; first = first; count = count; matrix = matrix; form = form; attrs = attributes one two } ≡ pair = cc in
    subst (λ (p : Pair). IsEntity params one two p × (text + p.count ≤ 500000)) is (
      record {
        of_type = of_type;
        not_null = some;
        first = within_takes entity 2 1 params first (field 2 one) first_in;
        count = within_takes entity 14 1 (params - first + 1) count (field 4 two) count_in;
        matrix = within_takes entity 7 0 9999999 matrix (field 7 one) matrix_in;
        form = within_takes entity 15 0 99999 form (field 5 two) form_in;
        attrs = refl;
      },
      at_least 500000 (text + count) few,
    )

-- ---- a pair

pub pair_again : (params text entity : ℕ) (one two : List ℕ) (pair : Pair) → IsPair params one two pair → text + pair.count ≤ 500000 → pair_in params text entity one two ≡ Ok pair
unfolding pair_in
pair_again params text entity one two pair (inl h) few = rw (type_again entity 0 one two h.0) (ap Ok (sym h.1))
pair_again params text entity one two pair (inr h) few = rw (type_again entity pair.kind one two h.of_type, other_test pair.kind 0 h.not_null) (entity_again params text entity one two pair h few)

case_takes : (params text entity kind : ℕ) (one two : List ℕ) (pair : Pair) (v : Bool) → (kind == 0) ≡ v → text ≤ 500000 → IsOfType kind one two → cond v (Ok null_pair) (entity_in params text entity kind one two) ≡ Ok pair
    → IsPair params one two pair × (text + pair.count ≤ 500000)
case_takes params text entity kind one two pair true e few t h =
    let is : null_pair ≡ pair = cc in
    let count : 0 ≡ pair.count = ap (λ (p : Pair). p.count) is in
    (inl (subst (λ k. IsOfType k one two) (test_same kind 0 e) t, sym is), omega (arith, count, few))
case_takes params text entity kind one two pair false e few t h =
    let (is, more) = entity_takes params text entity kind one two pair h t (test_other kind 0 e) in
    (inr is, more)

pub pair_takes : (params text entity : ℕ) (one two : List ℕ) (pair : Pair) → pair_in params text entity one two ≡ Ok pair → text ≤ 500000 → IsPair params one two pair × (text + pair.count ≤ 500000)
unfolding pair_in
pair_takes params text entity one two pair h few =
    let (kind, t, more) = both_gave (type_in entity one two) (λ kind. cond (kind == 0) (Ok null_pair) (entity_in params text entity kind one two)) pair h in
    case_takes params text entity kind one two pair (kind == 0) refl few (type_takes entity kind one two t) more
