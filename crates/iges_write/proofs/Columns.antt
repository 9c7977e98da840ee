-- A number that is written digit by digit into columns, from the last one on.
use Rattle.std.proofs.Common.{◌≡◌, ℕ, zero, suc, ◌+◌, ◌-◌, ◌/◌, ◌%◌, ◌^◌, ◌<◌, ◌≤◌, List, [], ◌∷◌, ◌++◌, length, take, drop, replicate, decimal, slice_set, sym, ap, ◌∙◌, arith, append_assoc, append-nil, length-append, length-drop, length-set}
use Rattle.std.proofs.Math.ListN.{drop_of_length-le}
use Rattle.std.proofs.lemmas.Fmt.{decimal_step, decimal_digit}
use Rattle.std.proofs.lemmas.List.{length-replicate, take-replicate, take-set-le, drop-set, set_split}
use Rattle.iges_write.specs.Cards.{right_aligned}

-- the last digits of a number stand in the columns from a place on, and its first ones are a rest
pub record IsWritten (width number at rest : ℕ) (columns : List ℕ) : Type 0 where
  pub long : length columns ≡ width
  pub within : at ≤ width
  pub blank : (i : ℕ) → i ≤ at → take i columns ≡ replicate i 32
  pub digits : decimal number ≡ decimal rest ++ drop at columns

pub none_written : (width number : ℕ) → IsWritten width number width number (replicate width 32)
none_written width number =
    let long : length {A = ℕ} (replicate width 32) ≡ width = length-replicate {A = ℕ} width 32 in
    let none : drop {A = ℕ} width (replicate width 32) ≡ [] = drop_of_length-le (replicate width 32) (omega (arith, long)) in
    record {
      long = long;
      within = omega arith;
      blank = λ i h. take-replicate i width 32 h;
      digits = sym (append-nil (decimal number)) ∙ ap (λ (x : List ℕ). decimal number ++ x) (sym none);
    }

pub digit_written : (width number at rest : ℕ) (columns : List ℕ) → 0 < at → 10 ≤ rest → rest < 2 ^ 64 → IsWritten width number at rest columns
    → IsWritten width number (at - 1) (rest / 10) (slice_set columns (at - 1) (48 + rest % 10))
digit_written width number zero rest columns some ten small h = absurd (omega arith)
digit_written width number (suc k) rest columns some ten small h =
    let v = 48 + rest % 10 in
    let back : suc k - 1 ≡ k = omega arith in
    let room : k < length columns = omega (arith, h.long, h.within) in
    let next : k + 1 ≡ suc k = omega arith in
    let end : drop k (slice_set columns k v) ≡ v ∷ drop (suc k) columns = drop-set columns k v room ∙ ap (λ (n : ℕ). v ∷ drop n columns) next in
    rw back (record {
      long = length-set columns k v ∙ h.long;
      within = omega (arith, h.within);
      blank = λ i le. take-set-le i columns k v le ∙ h.blank i (omega (arith, le));
      digits = h.digits ∙ ap (λ (x : List ℕ). x ++ drop (suc k) columns) (decimal_step rest ten small) ∙ append_assoc (decimal (rest / 10)) (v ∷ []) (drop (suc k) columns) ∙ ap (λ (x : List ℕ). decimal (rest / 10) ++ x) (sym end);
    })

-- the first digit is written
pub all_written : (width number at rest : ℕ) (columns : List ℕ) → 0 < at → rest < 10 → IsWritten width number at rest columns
    → slice_set columns (at - 1) (48 + rest) ≡ right_aligned width number
all_written width number zero rest columns some one h = absurd (omega arith)
all_written width number (suc k) rest columns some one h =
    let back : suc k - 1 ≡ k = omega arith in
    let room : k < length columns = omega (arith, h.long, h.within) in
    let text : decimal number ≡ (48 + rest) ∷ drop (suc k) columns = h.digits ∙ ap (λ (x : List ℕ). x ++ drop (suc k) columns) (decimal_digit rest one) in
    let size : length (decimal number) ≡ suc (length (drop (suc k) columns)) = ap (λ (x : List ℕ). length x) text in
    let blanks : k ≡ width - length (decimal number) = omega (arith, size, length-drop (suc k) columns, h.long, h.within) in
    rw back (
    set_split columns k (48 + rest) room
    ∙ ap (λ (x : List ℕ). x ++ (48 + rest) ∷ drop (suc k) columns) (h.blank k (omega arith))
    ∙ ap (λ (x : List ℕ). replicate k 32 ++ x) (sym text)
    ∙ ap (λ (n : ℕ). replicate n 32 ++ decimal number) blanks
    )

-- no column is left
pub none_left : (width number rest : ℕ) (columns : List ℕ) → IsWritten width number 0 rest columns → width ≤ length (decimal number)
none_left width number rest columns h =
    let size : length (decimal number) ≡ length (decimal rest ++ columns) = ap (λ (x : List ℕ). length x) h.digits in
    omega (arith, size, length-append (decimal rest) columns, h.long)
