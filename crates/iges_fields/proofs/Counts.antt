-- The count of a text, where it is kept within a number of the machine.
use Rattle.std.proofs.Common.{◌≡◌, ℕ, ◌+◌, ◌-◌, ◌^◌, ◌<◌, List, length, take, drop, min, true, nat_lt, refl, sym, ap, ◌∙◌, arith, subst, Result, inl, inr}
use Rattle.std.proofs.lemmas.Bool.{cases_lt}
use Rattle.std.proofs.lemmas.List.{drop-drop}
use Rattle.solid_base.specs.Digits.{number_of}
use Rattle.solid_base.specs.Spelling.{digit_count, after_digits}
use Rattle.iges_fields.specs.declared.faults.FieldFault.{FieldFault}
use Rattle.iges_fields.specs.declared.readers.Found.{Found}
use Rattle.iges_fields.specs.Reading.{is_counted, text_at, content_at}
use Rattle.iges_fields.specs.Readers.{Gives}

-- a count past the greatest number of the machine is past the end too
text_at-min : (comma semi n m : ℕ) (bytes : List ℕ) → length bytes < m → text_at comma semi (min n m) bytes ≡ text_at comma semi n bytes
text_at-min comma semi n m bytes small =
    elim (cases_lt n m) [
      | inl lt ↦ (let e : min n m ≡ n = omega arith in rw e refl)
      | inr le ↦ (let e : min n m ≡ m = omega arith in let a : nat_lt (length bytes) m ≡ true = grind arith in let b : nat_lt (length bytes) n ≡ true = grind arith in rw (e, a, b) refl)
    ]

-- where digits and H stand in front, a text does
pub content_counted : (comma semi : ℕ) (bytes : List ℕ) → is_counted (digit_count bytes) (after_digits bytes) ≡ true
    → content_at comma semi bytes ≡ text_at comma semi (number_of (take (digit_count bytes) bytes)) (drop (digit_count bytes + 1) bytes)
content_counted comma semi bytes h = rw h refl

-- what the steps of reading a text give
pub counted_gives : (comma semi : ℕ) (bytes digits after part : List ℕ) (k count : ℕ) (r : Result Found FieldFault) → k ≡ digit_count bytes → digits ≡ take k bytes → after ≡ drop k bytes
    → is_counted k after ≡ true → count ≡ min (number_of digits) (2 ^ 64 - 1) → part ≡ drop 1 after → length part < 2 ^ 64 - 1 → Gives r (text_at comma semi count part) → Gives r (content_at comma semi bytes)
counted_gives comma semi bytes digits after part k count r e d t is n p small h =
    let front : digits ≡ take (digit_count bytes) bytes = d ∙ ap (λ j. take j bytes) e in
    let back : after ≡ drop (digit_count bytes) bytes = t ∙ ap (λ j. drop j bytes) e in
    let tail : part ≡ drop (digit_count bytes + 1) bytes = p ∙ ap (drop 1) back ∙ drop-drop 1 (digit_count bytes) bytes in
    let here : is_counted (digit_count bytes) (after_digits bytes) ≡ true = rw (sym back, sym e) is in
    let read : text_at comma semi count part ≡ content_at comma semi bytes =
    ap (λ j. text_at comma semi j part) n ∙ text_at-min comma semi (number_of digits) (2 ^ 64 - 1) part small ∙ ap (λ j. text_at comma semi (number_of j) part) front
    ∙ ap (λ j. text_at comma semi (number_of (take (digit_count bytes) bytes)) j) tail ∙ sym (content_counted comma semi bytes here) in
    subst (λ x. Gives r x) read h
