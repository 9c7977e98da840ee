-- How a word is read by its rule is what the rule says, both ways.
use Rattle.std.proofs.Common.{◌≡◌, ℕ, ◌≤◌, ◌^◌, List, [], ◌∷◌, length, Bool, true, false, cond, ◌&&◌, ◌==◌, nat_lt, nat_le, Option, Some, None, Result, Ok, Err, ℤ, unsigned_abs, refl, sym, ap, subst, arith, true≢false}
use Rattle.std.proofs.lemmas.Grind.{common_steps}
use Rattle.std.proofs.lemmas.Int.{ints}
use Rattle.std.specs.List.{prefix_len}
use Rattle.decimal_scale.specs.declared.faults.RealFault.{RealFault}
use Rattle.decimal_scale.specs.Reading.{reading_of}
use Rattle.decimal_scale.proofs.Readings.{read_small, steps_only}
use Rattle.solid_base.specs.Digits.{is_digit, AreDigits, number_of}
use Rattle.solid_base.specs.Range.{far}
use Rattle.solid_base.specs.Spelling.{digit_count}
use Rattle.script_lines.specs.Tables.{IsWholeNumber, IsCoordinate}
use Rattle.script_lines.specs.Reading.{passing, whole_of, near_steps, coordinate_of}

abbrev pub value_in : {A : Type 0} → A → Option A → A
value_in d None = d
value_in d (Some x) = x

abbrev pub is_there : {A : Type 0} → Option A → Bool
is_there None = false
is_there (Some x) = true

pub some_cond : {A : Type 0} (b : Bool) (x y : A) → cond b (Some x) None ≡ Some y → (b ≡ true) × (x ≡ y)
some_cond true x y e = (refl, ap (value_in x) e)
some_cond false x y e = absurd (true≢false (ap is_there (sym e)))

pub passing_sound : {A : Type 0} (test : A → Bool) (o : Option A) (x : A) → passing test o ≡ Some x → (o ≡ Some x) × (test x ≡ true)
passing_sound test None x e = absurd (true≢false (ap is_there (sym e)))
passing_sound test (Some y) x e = let (t, same) = some_cond (test y) y x e in (ap Some same, subst (λ z. test z ≡ true) same t)

pub passing_again : {A : Type 0} (test : A → Bool) (o : Option A) (x : A) → o ≡ Some x → test x ≡ true → passing test o ≡ Some x
passing_again test o x e t = rw (e, t) refl

pub and_parts : (a b : Bool) → (a && b) ≡ true → (a ≡ true) × (b ≡ true)
and_parts true b e = (refl, e)
and_parts false b e = absurd (true≢false (sym e))

all_digits : (text : List ℕ) → prefix_len is_digit text ≡ length text → AreDigits text
all_digits [] h = tt
all_digits (b ∷ bs) h = go (is_digit b) refl (all_digits bs)
  where
    go : (v : Bool) → is_digit b ≡ v → (prefix_len is_digit bs ≡ length bs → AreDigits bs) → AreDigits (b ∷ bs)
    go true k more = let h2 = rw k at h in (k, more (omega (arith, h2)))
    go false k more = let h2 = rw k at h in absurd (omega (arith, h2))

digits_all : (text : List ℕ) → AreDigits text → prefix_len is_digit text ≡ length text
digits_all [] h = refl
digits_all (b ∷ bs) h = let rest = digits_all bs h.1 in rw h.0 (omega (arith, rest))

pub whole_sound : (text : List ℕ) (n : ℕ) → whole_of text ≡ Some n → IsWholeNumber text n
unfolding whole_of
whole_sound text n e =
    let (t, same) = some_cond _ (number_of text) n e in
    let (ab, c) = and_parts (nat_lt 0 (length text) && nat_le (length text) 9) (digit_count text == length text) t in
    let (a, b) = and_parts (nat_lt 0 (length text)) (nat_le (length text) 9) ab in
    record {
      digits = all_digits text (grind (arith, common_steps, c));
      some = grind (arith, common_steps, a);
      nine = grind (arith, common_steps, b);
      value = sym same;
    }

pub whole_complete : (text : List ℕ) (n : ℕ) → IsWholeNumber text n → whole_of text ≡ Some n
unfolding whole_of
whole_complete text n h =
    let all = digits_all text h.digits in
    grind (arith, common_steps, all, h.some, h.nine, h.value)

pub coordinate_sound : (text : List ℕ) (v : ℤ) → coordinate_of text ≡ Some v → IsCoordinate text v
unfolding coordinate_of
coordinate_sound text v e = go (reading_of text) refl e
  where
    go : (r : Result ℤ RealFault) → reading_of text ≡ r → near_steps r ≡ Some v → IsCoordinate text v
    go (Err f) is e = absurd (true≢false (ap is_there (sym e)))
    go (Ok w) is e =
        let (t, same) = some_cond _ w v e in
        let small : unsigned_abs w ≤ far = grind (arith, common_steps, t) in
        let both : IsCoordinate text w = ((steps_only text w is).0, (omega (arith, ints, small), omega (arith, ints, small))) in
        subst (IsCoordinate text) same both

pub coordinate_complete : (text : List ℕ) (v : ℤ) → IsCoordinate text v → coordinate_of text ≡ Some v
unfolding coordinate_of
coordinate_complete text v h =
    let low = h.1.0 in
    let high = h.1.1 in
    let small : unsigned_abs v ≤ far = omega (arith, ints, low, high) in
    let near : unsigned_abs v ≤ 10 ^ 18 = omega (arith, small) in
    rw (read_small text v h.0 near) (grind (arith, common_steps, small))
