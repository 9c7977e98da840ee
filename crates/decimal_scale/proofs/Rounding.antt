-- Rounding and scaling, over plain numbers and lists of digits.
use Rattle.std.proofs.Common.{◌≡◌, inl, inr, ℕ, suc, ◌+◌, ◌-◌, ◌*◌, ◌^◌, ◌<◌, ◌≤◌, List, [], ◌∷◌, ◌++◌, length, take, drop, get_or, min, IsTrue, true, refl, sym, ap, subst, ◌∙◌, arith, append_assoc, length-append, length-drop, mul-le-mul}
use Rattle.std.specs.List.{All}
use Rattle.std.proofs.Math.Nat.{pow-suc, pow-le-pow_right}
use Rattle.std.proofs.Math.Seq.{drop-cons}
use Rattle.std.proofs.lemmas.Bool.{cases_lt}
use Rattle.std.proofs.lemmas.Nat.{pow-add}
use Rattle.std.proofs.lemmas.List.{append-nil, take-append-drop}
use Rattle.std.proofs.lemmas.List.Sums.{fold-append}
use Rattle.std.proofs.lemmas.List.Elements.{recursion_from_All}
use Rattle.solid_base.specs.Digits.{is_digit, AreDigits, number_of}
use Rattle.solid_base.specs.Decimal.{IsNearest, nearest, if_minus, unless_minus}
use Rattle.solid_base.proofs.Digits.{ten_positive, digit_within, digits_append, digits_drop, number_of-cons, number_of-append, number_of_less}
use Rattle.solid_base.proofs.Decimals.{nearest_unique, nearest_is}
use Rattle.solid_base.specs.Spelling.{Sign, NoSign, Plus, Minus}
use Rattle.decimal_scale.proofs.Powers.{power_at_least}
use Rattle.decimal_scale.specs.Reading.{past, number_after, is_minus}

-- ---- the nearest whole number of a scaled quotient
scaled_above : (a b t : ℕ) → a ≤ b → a * t ≤ b * t
scaled_above a b t h = mul-le-mul h (omega arith)

scaled_below : (a b t : ℕ) → 1 ≤ t → a < b → a * t < b * t
scaled_below a b t h k = let m : suc a * t ≤ b * t = mul-le-mul k (omega arith) in omega arith

-- both sides of the quotient times a power of ten
widened : (m up down t n : ℕ) → IsNearest m up down n → IsNearest m (up + t) (down + t) n
widened m up down t n h =
    let above = scaled_above _ _ (10 ^ t) h.above in
    let below = scaled_below _ _ (10 ^ t) (ten_positive t) h.below in
    let u = pow-add 10 up t in
    let d = pow-add 10 down t in
    record { above = rw (u, d) (omega arith); below = rw (u, d) (omega arith) }

pub nearest_widened : (m up down t : ℕ) → nearest m (up + t) (down + t) ≡ nearest m up down
nearest_widened m up down t = nearest_unique m (up + t) (down + t) _ _ (nearest_is m (up + t) (down + t)) (widened m up down t _ (nearest_is m up down))

pub nearest_exact : (m down t : ℕ) → nearest m (down + t) down ≡ m * 10 ^ t
nearest_exact m down t =
    let p = ten_positive down in
    let e = pow-add 10 down t in
    nearest_unique m (down + t) down _ _ (nearest_is m (down + t) down) (record { above = rw e (omega arith); below = rw e (omega arith) })

-- x is what the kept digits spell, d the digit after them, s its place and r what is after it
rounded_up : (x d s r t : ℕ) → t ≡ s * 10 → r < s → 5 ≤ d → d ≤ 9 → (2 * ((x + 1) * t) ≤ 2 * ((x * t + (d * s + r)) * 1) + t) × (2 * ((x * t + (d * s + r)) * 1) < 2 * ((x + 1) * t) + t)
rounded_up x d s r t e h i k =
    let m : 5 * s ≤ d * s = mul-le-mul i (omega arith) in
    let u : d * s ≤ 9 * s = mul-le-mul k (omega arith) in
    rw e (omega arith, omega arith)

rounded_down : (x d s r t : ℕ) → t ≡ s * 10 → r < s → d ≤ 4 → (2 * (x * t) ≤ 2 * ((x * t + (d * s + r)) * 1) + t) × (2 * ((x * t + (d * s + r)) * 1) < 2 * (x * t) + t)
rounded_down x d s r t e h i =
    let m : d * s ≤ 4 * s = mul-le-mul i (omega arith) in
    rw e (omega arith, omega arith)

pub nearest_up : (x d q r : ℕ) → 5 ≤ d → d ≤ 9 → r < 10 ^ q → nearest (x * 10 ^ suc q + (d * 10 ^ q + r)) 0 (suc q) ≡ x + 1
nearest_up x d q r i k h =
    let m = x * 10 ^ suc q + (d * 10 ^ q + r) in
    let n = rounded_up x d (10 ^ q) r (10 ^ suc q) (pow-suc 10 q) h i k in
    nearest_unique m 0 (suc q) _ (x + 1) (nearest_is m 0 (suc q)) (record { above = n.0; below = n.1 })

pub nearest_down : (x d q r : ℕ) → d ≤ 4 → r < 10 ^ q → nearest (x * 10 ^ suc q + (d * 10 ^ q + r)) 0 (suc q) ≡ x
nearest_down x d q r i h =
    let m = x * 10 ^ suc q + (d * 10 ^ q + r) in
    let n = rounded_down x d (10 ^ q) r (10 ^ suc q) (pow-suc 10 q) h i in
    nearest_unique m 0 (suc q) _ x (nearest_is m 0 (suc q)) (record { above = n.0; below = n.1 })

-- far below a half
pub nearest_none : (m a down : ℕ) → m < 10 ^ a → a < down → nearest m 0 down ≡ 0
nearest_none m a down h k =
    let p : 10 ^ suc a ≤ 10 ^ down = pow-le-pow_right (omega arith) k in
    let e = pow-suc 10 a in
    nearest_unique m 0 down _ 0 (nearest_is m 0 down) (record { above = omega arith; below = omega arith })

-- ---- `scaled`
pub scaled_none : (number n e : ℕ) → number ≡ min n past → number ≡ 0 → 0 ≡ min (n * 10 ^ e) past
scaled_none number n e h k = let z : n ≡ 0 = omega arith in rw z (omega arith)

product_above : (a b x y : ℕ) → a ≤ x → b ≤ y → a * b ≤ x * y
product_above a b x y h k = mul-le-mul h k

pub scaled_past : (number n exponent e : ℕ) → number ≡ min n past → 0 < number → 18 < exponent → min exponent 19 ≡ min e 19 → past ≡ min (n * 10 ^ e) past
scaled_past number n exponent e h some far same =
    let p : 10 ^ 19 ≤ 10 ^ e = power_at_least 19 e (omega arith) in
    let m : 1 * 10 ^ 19 ≤ n * 10 ^ e = product_above 1 (10 ^ 19) n (10 ^ e) (omega arith) p in
    omega arith

scaled_over : (number n t r : ℕ) → number ≡ min n past → 1 ≤ t → r ≡ min (min (number * t) (2 ^ 64 - 1)) past → r ≡ min (n * t) past
scaled_over number n t r h some is = elim (cases_lt n past) [
  | inl l ↦ (let k : number ≡ n = omega arith in let i = rw k at is in omega arith)
  | inr l ↦ (let k : number ≡ past = omega arith in
      let i = rw k at is in
      let m : past * 1 ≤ n * t = product_above past 1 n t l some in
      omega arith)
]

pub scaled_near : (number n exponent e r : ℕ) → number ≡ min n past → exponent ≤ 18 → min exponent 19 ≡ min e 19 → r ≡ min (min (number * 10 ^ exponent) (2 ^ 64 - 1)) past → r ≡ min (n * 10 ^ e) past
scaled_near number n exponent e r h near same is =
    let s : exponent ≡ e = omega arith in
    subst (λ (k : ℕ). r ≡ min (n * 10 ^ k) past) s (scaled_over number n (10 ^ exponent) r h (ten_positive exponent) is)

-- ---- `rounded`: digits after a number that is cut at the bound
step_past : (n m b : ℕ) → min n past ≡ min m past → min (n * 10 + (b - 48)) past ≡ min (m * 10 + (b - 48)) past
step_past n m b h = omega arith

continued_past : (n m : ℕ) (bs : List ℕ) → min n past ≡ min m past → min (number_after n bs) past ≡ min (number_after m bs) past
continued_past n m [] h = h
continued_past n m (b ∷ bs) h = continued_past (n * 10 + (b - 48)) (m * 10 + (b - 48)) bs (step_past n m b h)

pub continued_is : (start : ℕ) (before digits : List ℕ) → start ≡ min (number_of before) past → min (number_after start digits) past ≡ min (number_of (before ++ digits)) past
continued_is start before digits h = continued_past start (number_of before) digits (omega arith) ∙ ap (λ (n : ℕ). min n past) (sym (fold-append (λ n b. n * 10 + (b - 48)) 0 before digits))

-- the digits, cut after the first k of them
spelt_cut : (before digits rest : List ℕ) (k : ℕ) → k < length digits
    → number_of (before ++ (digits ++ rest)) ≡ number_of (before ++ take k digits) * 10 ^ suc (length (drop (suc k) digits ++ rest)) + ((get_or digits k 0 - 48) * 10 ^ length (drop (suc k) digits ++ rest) + number_of (drop (suc k) digits ++ rest))
spelt_cut before digits rest k h =
    let d = get_or digits k 0 in
    let end = drop (suc k) digits ++ rest in
    let cut : digits ≡ take k digits ++ (d ∷ drop (suc k) digits) = sym (take-append-drop k digits) ∙ ap (λ (t : List ℕ). take k digits ++ t) (drop-cons digits k 0 h) in
    let glue : before ++ ((take k digits ++ (d ∷ drop (suc k) digits)) ++ rest) ≡ (before ++ take k digits) ++ (d ∷ end) =
    ap (λ (t : List ℕ). before ++ t) (append_assoc (take k digits) (d ∷ drop (suc k) digits) rest) ∙ sym (append_assoc before (take k digits) (d ∷ end)) in
    ap (λ (t : List ℕ). number_of (before ++ (t ++ rest))) cut ∙ ap (λ (t : List ℕ). number_of t) glue
    ∙ number_of-append (before ++ take k digits) (d ∷ end)
    ∙ ap (λ (v : ℕ). number_of (before ++ take k digits) * 10 ^ suc (length end) + v) (number_of-cons d end)

pub rounded_up_is : (start number : ℕ) (before digits rest : List ℕ) (k : ℕ) → All (λ b. IsTrue (is_digit b)) digits → AreDigits rest → k < length digits
    → start ≡ min (number_of before) past → number ≡ min (number_after start (take k digits)) past → 53 ≤ get_or digits k 0
    → min (number + 1) past ≡ min (nearest (number_of (before ++ (digits ++ rest))) 0 (length digits - k + length rest)) past
rounded_up_is start number before digits rest k all more h begun is five =
    let end = drop (suc k) digits ++ rest in
    let q = length end in
    let d = digit_within (get_or digits k 0) (all k 0 h) in
    let count : length digits - k + length rest ≡ suc q = simp (length-append, length-drop) (omega arith) in
    let less = number_of_less end (digits_append (drop (suc k) digits) rest (digits_drop (suc k) digits (recursion_from_All (λ b. IsTrue (is_digit b)) digits all)) more) in
    let near = nearest_up (number_of (before ++ take k digits)) (get_or digits k 0 - 48) q (number_of end) (omega arith) (omega arith) less in
    let whole : nearest (number_of (before ++ (digits ++ rest))) 0 (length digits - k + length rest) ≡ number_of (before ++ take k digits) + 1 =
    ap (λ (m : ℕ). nearest m 0 (length digits - k + length rest)) (spelt_cut before digits rest k h) ∙ ap (nearest _ 0) count ∙ near in
    let kept = continued_is start before (take k digits) begun in
    rw whole (omega arith)

pub rounded_down_is : (start number : ℕ) (before digits rest : List ℕ) (k : ℕ) → All (λ b. IsTrue (is_digit b)) digits → AreDigits rest → k < length digits
    → start ≡ min (number_of before) past → number ≡ min (number_after start (take k digits)) past → get_or digits k 0 < 53
    → number ≡ min (nearest (number_of (before ++ (digits ++ rest))) 0 (length digits - k + length rest)) past
rounded_down_is start number before digits rest k all more h begun is five =
    let end = drop (suc k) digits ++ rest in
    let q = length end in
    let count : length digits - k + length rest ≡ suc q = simp (length-append, length-drop) (omega arith) in
    let less = number_of_less end (digits_append (drop (suc k) digits) rest (digits_drop (suc k) digits (recursion_from_All (λ b. IsTrue (is_digit b)) digits all)) more) in
    let near = nearest_down (number_of (before ++ take k digits)) (get_or digits k 0 - 48) q (number_of end) (omega arith) less in
    let whole : nearest (number_of (before ++ (digits ++ rest))) 0 (length digits - k + length rest) ≡ number_of (before ++ take k digits) =
    ap (λ (m : ℕ). nearest m 0 (length digits - k + length rest)) (spelt_cut before digits rest k h) ∙ ap (nearest _ 0) count ∙ near in
    let kept = continued_is start before (take k digits) begun in
    rw whole (omega arith)

-- ---- `raised` and `lowered`
pub raised_cut : (whole decimals : List ℕ) (exponent e r : ℕ) → exponent ≡ min e (2 ^ 64 - 1) → length decimals < 2 ^ 64 - 1 → exponent < length decimals
    → r ≡ min (nearest (number_of (whole ++ (decimals ++ []))) 0 (length decimals - exponent + 0)) past → r ≡ min (nearest (number_of (whole ++ decimals)) e (length decimals)) past
raised_cut whole decimals exponent e r h fits few is =
    let m = number_of (whole ++ decimals) in
    let down : length decimals - exponent + 0 ≡ length decimals - e = omega arith in
    let up : length decimals - e + e ≡ length decimals = omega arith in
    let wide = nearest_widened m 0 (length decimals - e) e in
    let zero : 0 + e ≡ e = omega arith in
    let same : nearest m e (length decimals) ≡ nearest m 0 (length decimals - e) = ap (λ (i : ℕ). nearest m i (length decimals)) (sym zero) ∙ ap (nearest m (0 + e)) (sym up) ∙ wide in
    is ∙ ap (λ (t : List ℕ). min (nearest (number_of (whole ++ t)) 0 (length decimals - exponent + 0)) past) (append-nil decimals) ∙ ap (λ (i : ℕ). min (nearest m 0 i) past) down ∙ ap (λ (n : ℕ). min n past) (sym same)

pub raised_exact : (whole decimals : List ℕ) (exponent e r : ℕ) → exponent ≡ min e (2 ^ 64 - 1) → length decimals < 2 ^ 63 → length decimals ≤ exponent
    → r ≡ min (number_of (whole ++ decimals) * 10 ^ (e - length decimals)) past → r ≡ min (nearest (number_of (whole ++ decimals)) e (length decimals)) past
raised_exact whole decimals exponent e r h fits few is =
    let m = number_of (whole ++ decimals) in
    let up : length decimals + (e - length decimals) ≡ e = omega arith in
    let same : nearest m e (length decimals) ≡ m * 10 ^ (e - length decimals) = ap (λ (i : ℕ). nearest m i (length decimals)) (sym up) ∙ nearest_exact m (length decimals) (e - length decimals) in
    is ∙ ap (λ (n : ℕ). min n past) (sym same)

pub lowered_far : (whole decimals : List ℕ) (exponent e : ℕ) → All (λ b. IsTrue (is_digit b)) whole → AreDigits decimals → length whole < exponent → min exponent (length whole + 1) ≡ min e (length whole + 1)
    → 0 ≡ min (nearest (number_of (whole ++ decimals)) 0 (length decimals + e)) past
lowered_far whole decimals exponent e all more far same =
    let less = number_of_less (whole ++ decimals) (digits_append whole decimals (recursion_from_All (λ b. IsTrue (is_digit b)) whole all) more) in
    let none = nearest_none (number_of (whole ++ decimals)) (length (whole ++ decimals)) (length decimals + e) less (simp length-append (omega arith)) in
    rw none refl

pub lowered_near : (whole decimals : List ℕ) (exponent e r : ℕ) → exponent ≤ length whole → min exponent (length whole + 1) ≡ min e (length whole + 1)
    → r ≡ min (nearest (number_of ([] ++ (whole ++ decimals))) 0 (length whole - (length whole - exponent) + length decimals)) past → r ≡ min (nearest (number_of (whole ++ decimals)) 0 (length decimals + e)) past
lowered_near whole decimals exponent e r near same is =
    let down : length whole - (length whole - exponent) + length decimals ≡ length decimals + e = omega arith in
    is ∙ ap (λ (i : ℕ). min (nearest (number_of (whole ++ decimals)) 0 i) past) down

-- ---- `magnitude`
pub divided_some : (m count exponent e r : ℕ) (sign : Sign) → true ≡ is_minus sign → exponent ≡ min e (2 ^ 64 - 1) → exponent ≤ 12
    → r ≡ min (nearest m (12 - exponent) count) past → r ≡ min (nearest m (12 + unless_minus sign e) (count + if_minus sign e)) past
divided_some m count exponent e r NoSign minus h few is = cc
divided_some m count exponent e r Plus minus h few is = cc
divided_some m count exponent e r Minus minus h few is =
    let same : exponent ≡ e = omega arith in
    let up : 12 - e + e ≡ 12 = omega arith in
    let wide : nearest m 12 (count + e) ≡ nearest m (12 - e) count = ap (λ (i : ℕ). nearest m i (count + e)) (sym up) ∙ nearest_widened m (12 - e) count e in
    is ∙ ap (λ (i : ℕ). min (nearest m (12 - i) count) past) same ∙ ap (λ (n : ℕ). min n past) (sym wide)

pub divided_more : (m count exponent e r : ℕ) (sign : Sign) → true ≡ is_minus sign → exponent ≡ min e (2 ^ 64 - 1) → 12 < exponent
    → r ≡ min (nearest m 0 (count + (e - 12))) past → r ≡ min (nearest m (12 + unless_minus sign e) (count + if_minus sign e)) past
divided_more m count exponent e r NoSign minus h few is = cc
divided_more m count exponent e r Plus minus h few is = cc
divided_more m count exponent e r Minus minus h few is =
    let down : count + (e - 12) + 12 ≡ count + e = omega arith in
    let wide : nearest m 12 (count + e) ≡ nearest m 0 (count + (e - 12)) = ap (nearest m 12) (sym down) ∙ nearest_widened m 0 (count + (e - 12)) 12 in
    is ∙ ap (λ (n : ℕ). min n past) (sym wide)
