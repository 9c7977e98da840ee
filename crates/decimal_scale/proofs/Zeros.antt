-- How many digits are left without the zeros after them, digit by digit.
use Rattle.std.proofs.Common.{◌≡◌, ◌≢◌, ℕ, zero, suc, ◌+◌, ◌-◌, ◌/◌, ◌%◌, ◌^◌, ◌<◌, ◌≤◌, ◌==◌, Bool, false, cond, List, [], ◌∷◌, ◌++◌, length, max, refl, sym, ap, subst, ◌∙◌, arith, decimal, take, replicate, length-append, length-take-le}
use Rattle.std.specs.List.{suffix_len, prefix_len}
use Rattle.std.proofs.Math.Nat.{pow-suc}
use Rattle.std.proofs.lemmas.List.{reverse-append}
use Rattle.std.proofs.lemmas.Fmt.{decimal_step, decimal_digit}
use Rattle.decimal_scale.specs.Writing.{last_digits, without_zeros}
use Rattle.decimal_scale.proofs.Texts.{length-last_digits}

-- a digit more after
suffix_more : (digits : List ℕ) (b : ℕ) → suffix_len (λ b. b == 48) (digits ++ b ∷ []) ≡ cond (b == 48) (1 + suffix_len (λ b. b == 48) digits) 0
suffix_more digits b = ap (prefix_len (λ b. b == 48)) (reverse-append digits (b ∷ []))

kept_length : (digits : List ℕ) → 0 < length digits → length (without_zeros digits) ≡ max 1 (length digits - suffix_len (λ b. b == 48) digits)
kept_length digits some =
    let n = suffix_len (λ b. b == 48) digits in
    let within : max 1 (length digits - n) ≤ length digits = omega arith in
    length-take-le (max 1 (length digits - n)) digits within

-- a zero after is cut
pub one_less : (count n : ℕ) → 0 < count → n % 10 ≡ 0 → length (without_zeros (last_digits (suc count) n)) ≡ length (without_zeros (last_digits count (n / 10)))
unfolding last_digits
one_less count n some tens =
    let front = last_digits count (n / 10) in
    let digit : 48 + n % 10 ≡ 48 = omega arith in
    let size : length front ≡ count = length-last_digits count (n / 10) in
    let more : length (front ++ 48 ∷ []) ≡ suc count = omega (arith, length-append front (48 ∷ [])) in
    let zeros : suffix_len (λ b. b == 48) (front ++ 48 ∷ []) ≡ 1 + suffix_len (λ b. b == 48) front = suffix_more front 48 in
    let all = kept_length (front ++ 48 ∷ []) (omega arith) in
    let kept = kept_length front (omega arith) in
    ap (λ (b : ℕ). length (without_zeros (front ++ b ∷ []))) digit ∙ all ∙ omega arith ∙ sym kept

-- a last digit that isn't 0 is kept, and all before it
pub none_less : (count n : ℕ) → n % 10 ≢ 0 → length (without_zeros (last_digits (suc count) n)) ≡ suc count
unfolding last_digits
none_less count n other =
    let front = last_digits count (n / 10) in
    let size : length front ≡ count = length-last_digits count (n / 10) in
    let more : length (front ++ (48 + n % 10) ∷ []) ≡ suc count = omega (arith, length-append front ((48 + n % 10) ∷ [])) in
    let last : ((48 + n % 10) == 48) ≡ false = grind arith in
    let zeros : suffix_len (λ b. b == 48) (front ++ (48 + n % 10) ∷ []) ≡ 0 = suffix_more front (48 + n % 10) ∙ ap (λ (v : Bool). cond v (1 + suffix_len (λ b. b == 48) front) 0) last in
    kept_length (front ++ (48 + n % 10) ∷ []) (omega arith) ∙ omega arith

-- of zeros alone one is kept
pub zeros_alone : (count : ℕ) → length (without_zeros (last_digits (suc count) 0)) ≡ 1
unfolding last_digits
zeros_alone zero = refl
zeros_alone (suc count) = one_less (suc count) 0 (omega arith) refl ∙ zeros_alone count

-- a number of fewer digits, of which as many are kept as of another
pub record IsCut (count n fewer rest : ℕ) : Type 0 where
  pub some : 0 < rest
  pub less : rest < 10 ^ fewer
  pub kept : length (without_zeros (last_digits fewer rest)) ≡ length (without_zeros (last_digits count n))

some_digit : (count n : ℕ) → 0 < n → n < 10 ^ count → 0 < count
some_digit zero n some less = absurd (omega arith)
some_digit (suc count) n some less = omega arith

-- a zero after is cut
pub one_cut : (count n : ℕ) → 0 < n → n % 10 ≡ 0 → n < 10 ^ count → (0 < count) × IsCut count n (count - 1) (n / 10)
one_cut zero n some tens less = absurd (omega arith)
one_cut (suc count) n some tens less =
    let back : suc count - 1 ≡ count = omega arith in
    let power = pow-suc 10 count in
    let rest : 0 < n / 10 = omega arith in
    let below : n / 10 < 10 ^ count = omega (arith, power, less) in
    (omega arith, rw back (record { some = rest; less = below; kept = sym (one_less count n (some_digit count (n / 10) rest below) tens) }))

-- three zeros after are cut
pub three_cut : (count n : ℕ) → 0 < n → n % 1000 ≡ 0 → n < 10 ^ count → (3 ≤ count) × IsCut count n (count - 3) (n / 1000)
three_cut count n some thousands less =
    let (p, a) = one_cut count n some (omega (arith, thousands)) less in
    let (q, b) = one_cut (count - 1) (n / 10) a.some (omega (arith, thousands)) a.less in
    let (r, c) = one_cut (count - 1 - 1) (n / 10 / 10) b.some (omega (arith, thousands)) b.less in
    let fewer : count - 1 - 1 - 1 ≡ count - 3 = omega arith in
    let rest : n / 10 / 10 / 10 ≡ n / 1000 = omega arith in
    let whole : IsCut count n (count - 1 - 1 - 1) (n / 10 / 10 / 10) = record { some = c.some; less = c.less; kept = c.kept ∙ b.kept ∙ a.kept } in
    (omega (arith, p, q, r), subst (λ (m : ℕ). IsCut count n m (n / 1000)) fewer (subst (λ (m : ℕ). IsCut count n (count - 1 - 1 - 1) m) rest whole))

-- all digits are kept where the last one isn't 0
pub all_kept : (count n : ℕ) → 0 < n → n % 10 ≢ 0 → n < 10 ^ count → length (without_zeros (last_digits count n)) ≡ count
all_kept zero n some other less = absurd (omega arith)
all_kept (suc count) n some other less = none_less count n other

-- of no part one zero is kept
pub zero_kept : (count : ℕ) → 0 < count → length (without_zeros (last_digits count 0)) ≡ 1
zero_kept zero some = absurd (omega arith)
zero_kept (suc count) some = zeros_alone count

-- so many zeros
abbrev zeros : ℕ → List ℕ
zeros count = replicate count 48

abbrev one_zero : List ℕ
one_zero = 48 ∷ []

zero_after : (count : ℕ) → zeros count ++ one_zero ≡ 48 ∷ zeros count
zero_after zero = refl
zero_after (suc count) = ap (λ (ds : List ℕ). 48 ∷ ds) (zero_after count)

digits_of_none : (count : ℕ) → last_digits count 0 ≡ zeros count
unfolding last_digits
digits_of_none zero = refl
digits_of_none (suc count) = ap (λ (ds : List ℕ). ds ++ one_zero) (digits_of_none count) ∙ zero_after count

first_zero : (k count : ℕ) → length (take k (zeros count)) ≡ 1 → take k (zeros count) ≡ one_zero
first_zero zero count one = absurd (omega arith)
first_zero (suc k) zero one = absurd (omega arith)
first_zero (suc zero) (suc count) one = refl
first_zero (suc (suc k)) (suc zero) one = refl
first_zero (suc (suc k)) (suc (suc count)) one = absurd (omega arith)

-- of no part one zero is written
pub zero_written : (count : ℕ) → 0 < count → without_zeros (last_digits count 0) ≡ 48 ∷ []
zero_written count some =
    let k = max 1 (length (zeros count) - suffix_len (λ b. b == 48) (zeros count)) in
    let same : without_zeros (last_digits count 0) ≡ take k (zeros count) = ap (λ (ds : List ℕ). without_zeros ds) (digits_of_none count) in
    let one : length (take k (zeros count)) ≡ 1 = ap (λ (ds : List ℕ). length ds) (sym same) ∙ zero_kept count some in
    same ∙ first_zero k count one

-- ---- the digits of a whole number

pub digit_less : (n : ℕ) → 10 ≤ n → n < 2 ^ 64 → length (decimal n) ≡ suc (length (decimal (n / 10)))
digit_less n h small = ap length (decimal_step n h small) ∙ omega (arith, length-append (decimal (n / 10)) ((48 + n % 10) ∷ []))

pub one_digit : (n : ℕ) → n < 10 → length (decimal n) ≡ 1
one_digit n h = ap length (decimal_digit n h)
