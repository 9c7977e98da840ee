-- What is written with 12 places is read as the same steps.
use Rattle.std.proofs.Common.{◌≡◌, inl, ℕ, zero, suc, ◌+◌, ◌-◌, ◌*◌, ◌/◌, ◌%◌, ◌^◌, ◌<◌, ◌≤◌, List, [], ◌∷◌, ◌++◌, ◌==◌, length, take, drop, reverse, get_or, max, Bool, true, IsTrue, Some, None, Result, Ok, Err, IfOk, refl, sym, ap, subst, ◌∙◌, arith, decimal, ℤ, pos, negsuc, unsigned_abs, length-drop}
use Rattle.std.specs.List.{suffix_len}
use Rattle.std.specs.declared.alloc.AllocError.{AllocError}
use Rattle.std.proofs.Math.Nat.{pow-suc}
use Rattle.std.proofs.lemmas.Bool.Decides.{nat_tests}
use Rattle.std.proofs.lemmas.Nat.{pow-add}
use Rattle.std.proofs.lemmas.Fmt.{decimal_by_steps_wide}
use Rattle.std.proofs.lemmas.List.{append-nil, take-append-drop, length-take-le, get_or-drop, get_or-reverse}
use Rattle.std.proofs.lemmas.List.Sums.{prefix_len_passes, suffix_len-le-length}
use Rattle.solid_base.specs.Digits.{is_digit, AreDigits, number_of}
use Rattle.solid_base.specs.Spelling.{Sign, NoSign, Minus, IsReal, sign_text}
use Rattle.solid_base.specs.Decimal.{with_sign, IsNearest, IsReading}
use Rattle.solid_base.proofs.Digits.{ten_positive, number_of-append, digits_append, digits_take, number_of_zeros}
use Rattle.decimal_scale.specs.Writing.{last_digits, minus_text, real_text}
use Rattle.decimal_scale.specs.Reading.{reading_of}
use Rattle.decimal_scale.proofs.Readings.{read_small}
use Rattle.decimal_scale.proofs.Texts.{length-last_digits}

-- ---- digits and what they spell
one_digit : (n : ℕ) → n < 10 → IsTrue (is_digit (48 + n))
one_digit n h = grind (arith, nat_tests)

pushed : (n d : ℕ) (ds : List ℕ) → d < 10 → AreDigits ds → number_of ds ≡ n → AreDigits (ds ++ (48 + d) ∷ []) × (number_of (ds ++ (48 + d) ∷ []) ≡ n * 10 + d)
pushed n d ds h all is = (digits_append ds ((48 + d) ∷ []) all (one_digit d h, tt), number_of-append ds ((48 + d) ∷ []) ∙ omega (arith, is))

IsSpelt : ℕ → List ℕ → Type 0
IsSpelt n ds = AreDigits ds × (number_of ds ≡ n)

spelt_digit : (n : ℕ) → n < 10 → IsSpelt n ((48 + n) ∷ [])
unfolding IsSpelt
spelt_digit n h = ((one_digit n h, tt), omega arith)

spelt_more : (n : ℕ) (ds : List ℕ) → 10 ≤ n → IsSpelt (n / 10) ds → IsSpelt n (ds ++ ((48 + n % 10) ∷ []))
unfolding IsSpelt
spelt_more n ds h i = let p = pushed (n / 10) (n % 10) ds (omega arith) i.0 i.1 in (p.0, p.1 ∙ omega arith)

pub decimal_spelt : (n : ℕ) → n < 10 ^ 64 → AreDigits (decimal n) × (number_of (decimal n) ≡ n)
unfolding IsSpelt
decimal_spelt n h = decimal_by_steps_wide IsSpelt spelt_digit spelt_more n h

last_spelt : (count n : ℕ) → n < 10 ^ count → AreDigits (last_digits count n) × (number_of (last_digits count n) ≡ n)
unfolding last_digits
last_spelt zero n h = (tt, omega arith)
last_spelt (suc count) n h =
    let q = pow-suc 10 count in
    let i = last_spelt count (n / 10) (omega arith) in
    let p = pushed (n / 10) (n % 10) (last_digits count (n / 10)) (omega arith) i.0 i.1 in
    (p.0, p.1 ∙ omega arith)

-- ---- the zeros after
abbrev is_zero : ℕ → Bool
is_zero b = b == 48

zero_after : (ds : List ℕ) (k : ℕ) → length ds - suffix_len is_zero ds ≤ k → k < length ds → get_or ds k 0 ≡ 48
zero_after ds k h l =
    let at = length ds - 1 - k in
    let most = suffix_len-le-length is_zero ds in
    let test : is_zero (get_or (reverse ds) at 0) ≡ true = prefix_len_passes is_zero (reverse ds) at 0 (omega arith) in
    let same : get_or (reverse ds) at 0 ≡ get_or ds k 0 = get_or-reverse ds at 0 (omega arith) ∙ ap (λ (i : ℕ). get_or ds i 0) (omega arith) in
    let z : (get_or ds k 0 == 48) ≡ true = ap is_zero (sym same) ∙ test in
    grind (arith, nat_tests)

-- ---- the value of the text
scaled_back : (w f t d p part size : ℕ) → p ≡ t * d → f * d ≡ part → size ≡ w * p + part → (w * t + f) * p ≡ size * t
scaled_back w f t d p part size h i k = rw (k, sym i, h) (omega arith)

written_nearest : (ws ds zeros : List ℕ) (size places part : ℕ) → number_of (ds ++ zeros) ≡ part → number_of zeros ≡ 0 → length ds + length zeros ≡ places → size ≡ number_of ws * 10 ^ places + part
    → IsNearest (number_of (ws ++ ds)) places (length ds + 0) size
written_nearest ws ds zeros size places part full none count is =
    let down : length ds + 0 ≡ length ds = omega arith in
    let p : 10 ^ places ≡ 10 ^ length ds * 10 ^ length zeros = ap (λ (i : ℕ). 10 ^ i) (sym count) ∙ pow-add 10 (length ds) (length zeros) in
    let f : number_of ds * 10 ^ length zeros ≡ part = omega (arith, number_of-append ds zeros) in
    let e = scaled_back (number_of ws) (number_of ds) (10 ^ length ds) (10 ^ length zeros) (10 ^ places) part size p f is in
    let t = ten_positive (length ds) in
    rw (down, number_of-append ws ds) (record { above = omega (arith, e); below = omega (arith, e) })

value_signed : (value : ℤ) → (sign : Sign) × (minus_text value ≡ sign_text sign) × (value ≡ with_sign sign (unsigned_abs value))
value_signed (pos n) = (NoSign, refl, refl)
value_signed (negsuc n) = (Minus, refl, refl)

pub reads_back : (value : ℤ) → unsigned_abs value ≤ 10 ^ 37 → IsReading (real_text value 12) value
reads_back value h =
    let size = unsigned_abs value in
    let ws = decimal (size / 10 ^ 12) in
    let part = size % 10 ^ 12 in
    let full = last_digits 12 part in
    let k = max 1 (length full - suffix_len is_zero full) in
    let (sign, minus, signed) = value_signed value in
    let less : part < 10 ^ 12 = omega arith in
    let whole = decimal_spelt (size / 10 ^ 12) (omega arith) in
    let (all, is) = last_spelt 12 part less in
    let n = length-last_digits 12 part in
    let kept : length (take k full) ≡ k = length-take-le k full (omega arith) in
    let rest : length (drop k full) ≡ 12 - k = length-drop k full ∙ ap (λ (i : ℕ). i - k) n in
    let none = number_of_zeros (drop k full) (λ j l. get_or-drop k full j 0 ∙ zero_after full (k + j) (omega arith) (omega arith)) in
    record {
      number = record { sign = sign; whole = ws; fraction = Some (take k full); exponent = None };
      lawful = record { whole = whole.0; decimals = digits_take k full all; some = omega (arith, kept); exponent = tt };
      spelt = ap (λ (t : List ℕ). t ++ (ws ++ 46 ∷ take k full)) minus ∙ ap (λ (t : List ℕ). sign_text sign ++ (ws ++ 46 ∷ t)) (sym (append-nil (take k full)));
      size = size;
      nearest = written_nearest ws (take k full) (drop k full) size 12 part (ap (λ (t : List ℕ). number_of t) (take-append-drop k full) ∙ is) none (omega (arith, kept, rest)) (omega (arith, whole.1));
      signed = signed;
    }

-- what is written is spelt as a real number
pub real_text_real : (value : ℤ) → unsigned_abs value ≤ 10 ^ 37 → IsReal (real_text value 12)
unfolding reads_back
real_text_real value h = let read = reads_back value h in record { number = read.number; lawful = read.lawful; marked = inl refl; spelt = read.spelt }

pub ok_reads_back : (r : Result (List ℕ) AllocError) (value : ℤ) (places : ℕ) → places ≡ 12 → unsigned_abs value ≤ 10 ^ 37 → IfOk r (λ text. text ≡ real_text value places) → IfOk r (λ text. IsReading text value)
ok_reads_back (Ok text) value places twelve h is = subst (λ (t : List ℕ). IsReading t value) (sym (is ∙ ap (real_text value) twelve)) (reads_back value h)
ok_reads_back (Err e) value places twelve h is = tt

-- what is written of some steps is read as these steps
pub reading_of-written : (steps : ℤ) → unsigned_abs steps ≤ 10 ^ 18 → reading_of (real_text steps 12) ≡ Ok steps
reading_of-written steps h = read_small (real_text steps 12) steps (reads_back steps (omega arith)) h
