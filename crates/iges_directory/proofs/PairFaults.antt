-- The first fault of a pair of lines: reading gives what is wrong first, and it is wrong.
use Rattle.std.proofs.Common.{◌≡◌, ◌⊎◌, inl, inr, ℕ, ◌+◌, ◌-◌, ◌<◌, ◌≤◌, List, Bool, true, false, cond, ◌&&◌, ◌||◌, ◌==◌, nat_le, nat_lt, Option, Some, None, Result, Ok, Err, refl, sym, ap, subst, ◌∙◌}
use Rattle.std.specs.List.{list_all}
use Rattle.solid_base.specs.Outcomes.{◌>>=◌}
use Rattle.solid_base.specs.Spelling.{is_blank, AreBlanks}
use Rattle.solid_base.proofs.Columns.{all_test, test_all}
use Rattle.iges_directory.specs.declared.directory_faults.DirFault.{DirFault}
use Rattle.iges_directory.specs.declared.directory_faults.DirFault.TheVariants as fault
use Rattle.iges_directory.specs.declared.pairs.Pair.{Pair}
use Rattle.iges_directory.specs.ColumnNumbers.{number_in}
use Rattle.iges_directory.specs.Pairs.{field, attributes, null_pair, text_of, HoldsWithin, IsOfType}
use Rattle.iges_directory.specs.DirectoryReading.{within, type_in, after_lines, after_first, entity_in, pair_in}
use Rattle.iges_directory.specs.FirstFaults.{IsOutOfRange, HasType, HasFirstLine, HasLineCount, HasRoom, HasTwoTypes, HasTooMuchText, HasBadField}
use Rattle.iges_directory.proofs.PairForms.{lt_test, test_lt, not_lt_test, at_least, other_test, test_other, within_again, within_takes, type_again, type_takes}

-- what is wrong with a pair first, where the entity has this number
abbrev pub IsPairFault : ℕ → ℕ → List Pair → List ℕ → List ℕ → DirFault → Type 0
IsPairFault params number before one two (fault.Memory e) = ⊥
IsPairFault params number before one two fault.OddLines = ⊥
IsPairFault params number before one two fault.TooManyEntities = ⊥
IsPairFault params number before one two (fault.BadField entity k) = (entity ≡ number) × HasBadField params k before one two
IsPairFault params number before one two (fault.TypeDiffers entity) = (entity ≡ number) × HasTwoTypes one two
IsPairFault params number before one two (fault.TooMuchText entity) = (entity ≡ number) × HasTooMuchText params before one two

-- ---- outcomes

-- a check failed, or the next one
pub one_failed : {A B : Type 0} (o : Result A DirFault) (g : A → Result B DirFault) (f : DirFault) → (o >>= g) ≡ Err f → (o ≡ Err f) ⊎ ((x : A) × (o ≡ Ok x) × (g x ≡ Err f))
one_failed (Ok x) g f h = inr (x, refl, h)
one_failed (Err e) g f h = let same : e ≡ f = cc in inl (ap Err same)

-- a test passed and gave its fault, or what comes after it failed
pub passed_or : {A : Type 0} (v : Bool) (x : Result A DirFault) (e f : DirFault) → cond v (Err e) x ≡ Err f → ((v ≡ true) × (e ≡ f)) ⊎ ((v ≡ false) × (x ≡ Err f))
passed_or true x e f h = let same : e ≡ f = cc in inl (refl, same)
passed_or false x e f h = inr (refl, h)

-- a test failed and gave its fault
failed : {A : Type 0} (v : Bool) (x : A) (e f : DirFault) → ◌≡◌ {A = Result A DirFault} (cond v (Ok x) (Err e)) (Err f) → (v ≡ false) × (e ≡ f)
failed true x e f h = cc
failed false x e f h = let same : e ≡ f = cc in (refl, same)

neither : (v w : Bool) → v || w ≡ false → (v ≡ false) × (w ≡ false)
neither true w h = cc
neither false w h = (refl, h)

-- ---- a field

within_failed : (entity k least most : ℕ) (o : Option ℕ) (f : DirFault) → within entity k least most o ≡ Err f → fault.BadField entity k ≡ f
unfolding within
within_failed entity k least most None f h = cc
within_failed entity k least most (Some n) f h = (failed (nat_le least n && nat_le n most) n (fault.BadField entity k) f h).1

field_failed : (entity k least most : ℕ) (columns : List ℕ) (f : DirFault) → within entity k least most (number_in columns) ≡ Err f → (fault.BadField entity k ≡ f) × IsOutOfRange least most columns
field_failed entity k least most columns f h =
    (within_failed entity k least most (number_in columns) f h, λ p. let both : ◌≡◌ {A = Result ℕ DirFault} (Ok p.0) (Err f) = sym (within_again entity k least most p.0 columns p.1) ∙ h in cc)

field_fails : (entity k least most : ℕ) (columns : List ℕ) → IsOutOfRange least most columns → within entity k least most (number_in columns) ≡ Err (fault.BadField entity k)
field_fails entity k least most columns out = go (within entity k least most (number_in columns)) refl where
  go : (r : Result ℕ DirFault) → within entity k least most (number_in columns) ≡ r → r ≡ Err (fault.BadField entity k)
  go (Ok n) e = absurd (out (n, within_takes entity k least most n columns e))
  go (Err f) e = ap Err (sym (within_failed entity k least most (number_in columns) f e))

-- ---- what is wrong is read

first_fails : (params text entity : ℕ) (one two : List ℕ) → IsOutOfRange 0 99999 (field 1 one) → pair_in params text entity one two ≡ Err (fault.BadField entity 1)
unfolding pair_in type_in
first_fails params text entity one two out = rw (field_fails entity 1 0 99999 (field 1 one) out) refl

second_fails : (params text entity kind : ℕ) (one two : List ℕ) → HoldsWithin 0 99999 kind (field 1 one) → IsOutOfRange 0 99999 (field 1 two) → pair_in params text entity one two ≡ Err (fault.BadField entity 11)
unfolding pair_in type_in
second_fails params text entity kind one two first out =
    rw (within_again entity 1 0 99999 kind (field 1 one) first, field_fails entity 11 0 99999 (field 1 two) out) refl

not_blank_test : (columns : List ℕ) → ¬ AreBlanks columns → list_all is_blank columns ≡ false
not_blank_test columns h = go (list_all is_blank columns) refl where
  go : (v : Bool) → list_all is_blank columns ≡ v → v ≡ false
  go true e = absurd (h (test_all is_blank columns e))
  go false e = refl

types_differ : (params text entity : ℕ) (one two : List ℕ) → HasTwoTypes one two → pair_in params text entity one two ≡ Err (fault.TypeDiffers entity)
unfolding pair_in type_in
types_differ params text entity one two h =
    rw (
      within_again entity 1 0 99999 h.kind (field 1 one) h.first,
      within_again entity 11 0 99999 h.again (field 1 two) h.second,
      other_test h.again h.kind h.differ,
      not_blank_test (field 1 two) h.not_blank,
    ) refl

typed : (params text entity : ℕ) (one two : List ℕ) (h : HasType one two) → pair_in params text entity one two ≡ entity_in params text entity h.kind one two
unfolding pair_in
typed params text entity one two h = rw (type_again entity h.kind one two h.of_type, other_test h.kind 0 h.not_null) refl

line_fails : (params text entity kind : ℕ) (one two : List ℕ) → IsOutOfRange 1 params (field 2 one) → entity_in params text entity kind one two ≡ Err (fault.BadField entity 2)
unfolding entity_in
line_fails params text entity kind one two out = rw (field_fails entity 2 1 params (field 2 one) out) refl

has_line : (params text entity kind first : ℕ) (one two : List ℕ) → HoldsWithin 1 params first (field 2 one) → entity_in params text entity kind one two ≡ after_first params text entity kind first one two
unfolding entity_in
has_line params text entity kind first one two h = rw (within_again entity 2 1 params first (field 2 one) h) refl

count_fails : (params text entity kind first : ℕ) (one two : List ℕ) → IsOutOfRange 1 (params - first + 1) (field 4 two) → after_first params text entity kind first one two ≡ Err (fault.BadField entity 14)
count_fails params text entity kind first one two out = rw (field_fails entity 14 1 (params - first + 1) (field 4 two) out) refl

text_fails : (params text entity kind first count : ℕ) (one two : List ℕ) → HoldsWithin 1 (params - first + 1) count (field 4 two) → 500000 < text + count
    → after_first params text entity kind first one two ≡ Err (fault.TooMuchText entity)
text_fails params text entity kind first count one two h many = rw (within_again entity 14 1 (params - first + 1) count (field 4 two) h, lt_test 500000 (text + count) many) refl

has_count : (params text entity kind first count : ℕ) (one two : List ℕ) → HoldsWithin 1 (params - first + 1) count (field 4 two) → text + count ≤ 500000
    → after_first params text entity kind first one two ≡ after_lines entity kind first count one two
has_count params text entity kind first count one two h few = rw (within_again entity 14 1 (params - first + 1) count (field 4 two) h, not_lt_test 500000 (text + count) few) refl

matrix_fails : (entity kind first count : ℕ) (one two : List ℕ) → IsOutOfRange 0 9999999 (field 7 one) → after_lines entity kind first count one two ≡ Err (fault.BadField entity 7)
matrix_fails entity kind first count one two out = rw (field_fails entity 7 0 9999999 (field 7 one) out) refl

form_fails : (entity kind first count matrix : ℕ) (one two : List ℕ) → HoldsWithin 0 9999999 matrix (field 7 one) → IsOutOfRange 0 99999 (field 5 two) → after_lines entity kind first count one two ≡ Err (fault.BadField entity 15)
form_fails entity kind first count matrix one two h out =
    rw (within_again entity 7 0 9999999 matrix (field 7 one) h, field_fails entity 15 0 99999 (field 5 two) out) refl

-- an entity with a first parameter line is read on from there
as_line : (params text entity first : ℕ) (one two : List ℕ) (h : HasFirstLine params first one two) → pair_in params text entity one two ≡ after_first params text entity h.has_type.kind first one two
as_line params text entity first one two h =
    typed params text entity one two h.has_type ∙ has_line params text entity h.has_type.kind first one two h.number

-- an entity with few enough parameter lines is read on from there
as_room : (params entity : ℕ) (before : List Pair) (one two : List ℕ) (h : HasRoom params before one two)
    → pair_in params (text_of before) entity one two ≡ after_lines entity h.line_count.first_line.has_type.kind h.line_count.first h.count one two
as_room params entity before one two h =
    let c = h.line_count in
    as_line params (text_of before) entity c.first one two c.first_line
    ∙ has_count params (text_of before) entity c.first_line.has_type.kind c.first h.count one two c.number h.few

field_is_read : (params entity k : ℕ) (before : List Pair) (one two : List ℕ) → HasBadField params k before one two → pair_in params (text_of before) entity one two ≡ Err (fault.BadField entity k)
field_is_read params entity k before one two (inl (is, out)) = rw is (first_fails params (text_of before) entity one two out)
field_is_read params entity k before one two (inr (inl (is, first, out))) = rw is (second_fails params (text_of before) entity first.0 one two first.1 out)
field_is_read params entity k before one two (inr (inr (inl (is, t, out)))) =
    rw is (typed params (text_of before) entity one two t ∙ line_fails params (text_of before) entity t.kind one two out)
field_is_read params entity k before one two (inr (inr (inr (inl (is, h))))) =
    rw is (as_line params (text_of before) entity h.first one two h.first_line ∙ count_fails params (text_of before) entity h.first_line.has_type.kind h.first one two h.bad)
field_is_read params entity k before one two (inr (inr (inr (inr (inl (is, h, out)))))) =
    let c = h.line_count in
    rw is (as_room params entity before one two h ∙ matrix_fails entity c.first_line.has_type.kind c.first h.count one two out)
field_is_read params entity k before one two (inr (inr (inr (inr (inr (is, h, matrix, out)))))) =
    let c = h.line_count in
    rw is (as_room params entity before one two h ∙ form_fails entity c.first_line.has_type.kind c.first h.count matrix.0 one two matrix.1 out)

text_is_read : (params entity : ℕ) (before : List Pair) (one two : List ℕ) → HasTooMuchText params before one two → pair_in params (text_of before) entity one two ≡ Err (fault.TooMuchText entity)
text_is_read params entity before one two h =
    let c = h.line_count in
    as_line params (text_of before) entity c.first one two c.first_line
    ∙ text_fails params (text_of before) entity c.first_line.has_type.kind c.first h.count one two c.number h.many

pub pair_fault_again : (params number : ℕ) (before : List Pair) (one two : List ℕ) (f : DirFault) → IsPairFault params number before one two f → pair_in params (text_of before) number one two ≡ Err f
pair_fault_again params number before one two (fault.Memory e) h = absurd h
pair_fault_again params number before one two fault.OddLines h = absurd h
pair_fault_again params number before one two fault.TooManyEntities h = absurd h
pair_fault_again params number before one two (fault.BadField entity k) h = rw h.0 (field_is_read params number k before one two h.1)
pair_fault_again params number before one two (fault.TypeDiffers entity) h = rw h.0 (types_differ params (text_of before) number one two h.1)
pair_fault_again params number before one two (fault.TooMuchText entity) h = rw h.0 (text_is_read params number before one two h.1)

-- ---- what is read is wrong

bad_field : (params number k : ℕ) (before : List Pair) (one two : List ℕ) (f : DirFault) → fault.BadField number k ≡ f → HasBadField params k before one two → IsPairFault params number before one two f
bad_field params number k before one two f e h = subst (IsPairFault params number before one two) e (refl, h)

again_failed : (params number kind : ℕ) (before : List Pair) (one two : List ℕ) (f : DirFault) → HoldsWithin 0 99999 kind (field 1 one)
    → (within number 11 0 99999 (number_in (field 1 two)) >>= λ again. cond ((again == kind) || list_all is_blank (field 1 two)) (Ok kind) (Err (fault.TypeDiffers number))) ≡ Err f
    → IsPairFault params number before one two f
again_failed params number kind before one two f first h =
    elim (one_failed (within number 11 0 99999 (number_in (field 1 two))) (λ again. cond ((again == kind) || list_all is_blank (field 1 two)) (Ok kind) (Err (fault.TypeDiffers number))) f h) [
      | inl a ↦ let (e, out) = field_failed number 11 0 99999 (field 1 two) f a in bad_field params number 11 before one two f e (inr (inl (refl, (kind, first), out)))
      | inr p ↦
          let (again, second, last) = p in
          let (untrue, e) = failed ((again == kind) || list_all is_blank (field 1 two)) kind (fault.TypeDiffers number) f last in
          let (other, some) = neither (again == kind) (list_all is_blank (field 1 two)) untrue in
          let two_types : HasTwoTypes one two = record {
            kind = kind;
            again = again;
            first = first;
            second = within_takes number 11 0 99999 again (field 1 two) second;
            differ = test_other again kind other;
            not_blank = λ b. let both : true ≡ false = sym (all_test is_blank (field 1 two) b) ∙ some in cc;
          } in
          subst (IsPairFault params number before one two) e (refl, two_types)
    ]

type_failed : (params number : ℕ) (before : List Pair) (one two : List ℕ) (f : DirFault) → type_in number one two ≡ Err f → IsPairFault params number before one two f
unfolding type_in
type_failed params number before one two f h =
    elim (one_failed (within number 1 0 99999 (number_in (field 1 one))) (λ kind. within number 11 0 99999 (number_in (field 1 two)) >>= λ again. cond ((again == kind) || list_all is_blank (field 1 two)) (Ok kind) (Err (fault.TypeDiffers number))) f h) [
      | inl a ↦ let (e, out) = field_failed number 1 0 99999 (field 1 one) f a in bad_field params number 1 before one two f e (inl (refl, out))
      | inr p ↦ let (kind, first, more) = p in again_failed params number kind before one two f (within_takes number 1 0 99999 kind (field 1 one) first) more
    ]

-- the entry, where all its fields are right
abbrev entry : ℕ → ℕ → ℕ → ℕ → List ℕ → List ℕ → ℕ → Result Pair DirFault
entry kind first count matrix one two form = Ok (record { kind = kind; first = first; count = count; matrix = matrix; form = form; attrs = attributes one two })

form_failed : (params number kind first count matrix : ℕ) (before : List Pair) (one two : List ℕ) (f : DirFault) → HasRoom params before one two → HoldsWithin 0 9999999 matrix (field 7 one)
    → (within number 15 0 99999 (number_in (field 5 two)) >>= entry kind first count matrix one two) ≡ Err f → IsPairFault params number before one two f
form_failed params number kind first count matrix before one two f room held h =
    elim (one_failed (within number 15 0 99999 (number_in (field 5 two))) (entry kind first count matrix one two) f h) [
      | inl a ↦ let (e, out) = field_failed number 15 0 99999 (field 5 two) f a in bad_field params number 15 before one two f e (inr (inr (inr (inr (inr (refl, room, (matrix, held), out))))))
      | inr p ↦ let (form, read, more) = p in cc
    ]

lines_failed : (params number kind first count : ℕ) (before : List Pair) (one two : List ℕ) (f : DirFault) → HasRoom params before one two → after_lines number kind first count one two ≡ Err f → IsPairFault params number before one two f
lines_failed params number kind first count before one two f room h =
    elim (one_failed (within number 7 0 9999999 (number_in (field 7 one))) (λ matrix. within number 15 0 99999 (number_in (field 5 two)) >>= entry kind first count matrix one two) f h) [
      | inl a ↦ let (e, out) = field_failed number 7 0 9999999 (field 7 one) f a in bad_field params number 7 before one two f e (inr (inr (inr (inr (inl (refl, room, out))))))
      | inr p ↦
          let (matrix, held, more) = p in
          form_failed params number kind first count matrix before one two f room (within_takes number 7 0 9999999 matrix (field 7 one) held) more
    ]

count_failed : (params number kind first count : ℕ) (before : List Pair) (one two : List ℕ) (f : DirFault) → HasLineCount params count one two
    → cond (nat_lt 500000 (text_of before + count)) (Err (fault.TooMuchText number)) (after_lines number kind first count one two) ≡ Err f → IsPairFault params number before one two f
count_failed params number kind first count before one two f has h =
    elim (passed_or (nat_lt 500000 (text_of before + count)) (after_lines number kind first count one two) (fault.TooMuchText number) f h) [
      | inl p ↦
          let much : HasTooMuchText params before one two = record { count = count; line_count = has; many = test_lt 500000 (text_of before + count) p.0 } in
          subst (IsPairFault params number before one two) p.1 (refl, much)
      | inr p ↦ lines_failed params number kind first count before one two f (record { count = count; line_count = has; few = at_least 500000 (text_of before + count) p.0 }) p.1
    ]

first_failed : (params number kind first : ℕ) (before : List Pair) (one two : List ℕ) (f : DirFault) → HasFirstLine params first one two → after_first params (text_of before) number kind first one two ≡ Err f
    → IsPairFault params number before one two f
first_failed params number kind first before one two f has h =
    elim (one_failed (within number 14 1 (params - first + 1) (number_in (field 4 two))) (λ count. cond (nat_lt 500000 (text_of before + count)) (Err (fault.TooMuchText number)) (after_lines number kind first count one two)) f h) [
      | inl a ↦
          let (e, out) = field_failed number 14 1 (params - first + 1) (field 4 two) f a in
          bad_field params number 14 before one two f e (inr (inr (inr (inl (refl, record { first = first; first_line = has; bad = out })))))
      | inr p ↦
          let (count, held, more) = p in
          count_failed params number kind first count before one two f (record { first = first; first_line = has; number = within_takes number 14 1 (params - first + 1) count (field 4 two) held }) more
    ]

entity_failed : (params number : ℕ) (before : List Pair) (one two : List ℕ) (f : DirFault) (t : HasType one two) → entity_in params (text_of before) number t.kind one two ≡ Err f → IsPairFault params number before one two f
unfolding entity_in
entity_failed params number before one two f t h =
    elim (one_failed (within number 2 1 params (number_in (field 2 one))) (λ first. after_first params (text_of before) number t.kind first one two) f h) [
      | inl a ↦ let (e, out) = field_failed number 2 1 params (field 2 one) f a in bad_field params number 2 before one two f e (inr (inr (inl (refl, t, out))))
      | inr p ↦
          let (first, held, more) = p in
          first_failed params number t.kind first before one two f (record { has_type = t; number = within_takes number 2 1 params first (field 2 one) held }) more
    ]

case_failed : (params number kind : ℕ) (before : List Pair) (one two : List ℕ) (f : DirFault) (v : Bool) → (kind == 0) ≡ v → IsOfType kind one two
    → cond v (Ok null_pair) (entity_in params (text_of before) number kind one two) ≡ Err f → IsPairFault params number before one two f
case_failed params number kind before one two f true e t h = cc
case_failed params number kind before one two f false e t h = entity_failed params number before one two f (record { kind = kind; of_type = t; not_null = test_other kind 0 e }) h

pub pair_fault_takes : (params number : ℕ) (before : List Pair) (one two : List ℕ) (f : DirFault) → pair_in params (text_of before) number one two ≡ Err f → IsPairFault params number before one two f
unfolding pair_in
pair_fault_takes params number before one two f h =
    elim (one_failed (type_in number one two) (λ kind. cond (kind == 0) (Ok null_pair) (entity_in params (text_of before) number kind one two)) f h) [
      | inl a ↦ type_failed params number before one two f a
      | inr p ↦
          let (kind, t, more) = p in
          case_failed params number kind before one two f (kind == 0) refl (type_takes number kind one two t) more
    ]
