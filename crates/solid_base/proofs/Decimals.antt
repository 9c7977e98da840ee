-- A number has exactly one reading in steps.
use Rattle.std.proofs.Common.{◌≡◌, inl, inr, ℕ, suc, ◌+◌, ◌*◌, ◌/◌, ◌%◌, ◌^◌, ◌<◌, ◌≤◌, List, length, ℤ, refl, sym, ap, subst, ◌∙◌, arith, mul-le-mul}
use Rattle.std.proofs.Math.Nat.{div-add-mod, mod-lt}
use Rattle.std.proofs.lemmas.Bool.{cases_lt}
use Rattle.solid_base.specs.Spelling.{Number, IsNumeral, decimals_of}
use Rattle.solid_base.specs.Decimal.{mantissa_of, raised_by, lowered_by, with_sign, IsNearest, IsReading, nearest}
use Rattle.solid_base.proofs.Digits.{ten_positive}
use Rattle.solid_base.proofs.Numerals.{number_unique, numeral_number, number_numeral}

not_above : (t n k v : ℕ) → 2 * (n * t) ≤ v + t → v < 2 * (k * t) + t → n ≤ k
not_above t n k v h i = elim (cases_lt k n) [ inl l ↦ (let m : suc k * t ≤ n * t = mul-le-mul l (omega arith) in absurd (omega arith)) | inr l ↦ l ]

pub nearest_unique : (m up down n k : ℕ) → IsNearest m up down n → IsNearest m up down k → n ≡ k
nearest_unique m up down n k h i = omega (arith, not_above (10 ^ down) n k _ h.above i.below, not_above (10 ^ down) k n _ i.above h.below)

pub reading_unique : (text : List ℕ) (s t : ℤ) → IsReading text s → IsReading text t → s ≡ t
reading_unique text s t h i =
    let e : i.number ≡ h.number = number_unique i.number h.number i.lawful h.lawful (sym i.spelt ∙ h.spelt) in
    let there = subst (λ (n : Number). IsNearest (mantissa_of n) (12 + raised_by n.exponent) (length (decimals_of n.fraction) + lowered_by n.exponent) i.size) e i.nearest in
    let size : h.size ≡ i.size = nearest_unique (mantissa_of h.number) (12 + raised_by h.number.exponent) (length (decimals_of h.number.fraction) + lowered_by h.number.exponent) h.size i.size h.nearest there in
    h.signed ∙ ap (with_sign h.number.sign) size ∙ ap (λ (n : Number). with_sign n.sign i.size) (sym e) ∙ sym i.signed

divided : (v t q : ℕ) → 1 ≤ t → q ≡ (2 * v + t) / (2 * t) → (2 * (q * t) ≤ 2 * v + t) × (2 * v < 2 * (q * t) + t)
divided v t q h e =
    let r : (2 * v + t) % (2 * t) < 2 * t = mod-lt (2 * v + t) (omega arith) in
    let c : 2 * t * q + (2 * v + t) % (2 * t) ≡ 2 * v + t = rw e (div-add-mod (2 * v + t) (2 * t)) in
    (omega arith, omega arith)

pub nearest_is : (m up down : ℕ) → IsNearest m up down (nearest m up down)
unfolding nearest
nearest_is m up down =
    let d = divided (m * 10 ^ up) (10 ^ down) (nearest m up down) (ten_positive down) refl in
    record { above = d.0; below = d.1 }

pub reading_exists : (text : List ℕ) → IsNumeral text → (steps : ℤ) × IsReading text steps
reading_exists text h =
    let (n, lawful, spelt) = numeral_number text h in
    let up = 12 + raised_by n.exponent in
    let down = length (decimals_of n.fraction) + lowered_by n.exponent in
    let size = nearest (mantissa_of n) up down in
    (with_sign n.sign size, record { number = n; lawful = lawful; spelt = spelt; size = size; nearest = nearest_is (mantissa_of n) up down; signed = refl })

pub reading_numeral : (text : List ℕ) (steps : ℤ) → IsReading text steps → IsNumeral text
reading_numeral text steps h = number_numeral text h.number h.lawful h.spelt
