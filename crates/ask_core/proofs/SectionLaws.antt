-- The signs of a section.
use Rattle.std.proofs.Common.{◌≡◌, ℕ, zero, suc, ◌+◌, ◌*◌, ◌/◌, ◌%◌, ◌^◌, ◌<◌, ◌≤◌, ℤ, false, nat_eq, nat_le, cond, List, [], ◌∷◌, ◌++◌, length, map, take, drop, get_or, codes, decimal, Some, None, refl, sym, ap, subst, ◌∙◌, arith, mul-le-mul, length-take, length-drop}
use Rattle.std.specs.List.{AllByRecursion, range_with_len}
use Rattle.std.proofs.lemmas.Bool.Decides.{nat_tests}
use Rattle.std.proofs.lemmas.List.{get_or-map, get_or-take, get_or-drop, length-map}
use Rattle.std.proofs.lemmas.List.FromFn.{get_or-map-range_with_len, length-map-range_with_len}
use Rattle.std.proofs.lemmas.Nat.{mod-mul-add, div-mul-add}
use Rattle.solid_base.specs.declared.classes.Class.{Class}
use Rattle.solid_base.specs.declared.classes.Class.TheVariants as class
use Rattle.solid_base.specs.declared.classes.Verdict.{Verdict}
use Rattle.solid_base.specs.declared.entities.Entity.{Entity}
use Rattle.solid_base.specs.Graph.{weight_of}
use Rattle.solid_base.specs.Digits.{AreDigits}
use Rattle.solid_base.specs.Ranges.{IsLawfulRow}
use Rattle.solid_base.proofs.DecimalTexts.{decimal_digits}
use Rattle.solid_base.proofs.Digits.{digit_within}
use Rattle.solid_questions.specs.declared.questions.Question.{Question}
use Rattle.solid_questions.specs.declared.questions.Question.TheVariants as question
use Rattle.solid_questions.specs.Bodies.{class_sign, section_line, section_lines, section_head, section_words, count_words}
use Rattle.solid_questions.specs.Questions.{IsLawful}
use Rattle.solid_questions.specs.QuestionCells.{cell, section_cell, most_section_cells}
use Rattle.ask_core.specs.Answers.{IsAnswerOn, cell_verdict}
use Rattle.ask_core.specs.Meanings.{byte_at, IsAllInside, IsAllOutside}
use Rattle.ask_core.proofs.AnswerCases.{first, not_refused}
use Rattle.ask_core.proofs.CellCounts.{cells_listed}
use Rattle.ask_core.proofs.Refused.{listed}
use Rattle.ask_core.proofs.CellSteps.{all_verdicts}
use Rattle.ask_core.proofs.PlaceLaws.{all_inside, all_outside}

-- ---- bytes of a text by line and column

-- no byte ends a line
abbrev pub IsLine : List ℕ → Type 0
IsLine [] = Unit {0}
IsLine (b ∷ bs) = (nat_eq b 10 ≡ false) × IsLine bs

line_append : (a b : List ℕ) → IsLine a → IsLine b → IsLine (a ++ b)
line_append [] b p q = q
line_append (c ∷ cs) b p q = (p.0, line_append cs b p.1 q)

-- after a whole line stand the others
after_line : (front rest : List ℕ) (line column : ℕ) → IsLine front → byte_at (front ++ 10 ∷ rest) (suc line) column ≡ byte_at rest line column
after_line [] rest line column is = refl
after_line (b ∷ bs) rest line column is =
    ap (λ t. cond t (byte_at (bs ++ 10 ∷ rest) line column) (byte_at (bs ++ 10 ∷ rest) (suc line) column)) is.0
    ∙ after_line bs rest line column is.1

-- in a line
in_line : (line rest : List ℕ) (column : ℕ) → IsLine line → column < length line → byte_at (line ++ rest) zero column ≡ Some (get_or line column 0)
in_line [] rest column is inside = absurd (omega (arith, inside))
in_line (b ∷ bs) rest zero is inside = ap (λ t. cond t None (Some b)) is.0
in_line (b ∷ bs) rest (suc column) is inside =
    ap (λ t. cond t None (byte_at (bs ++ rest) zero column)) is.0 ∙ in_line bs rest column is.1 (omega (arith, inside))

digits_line : (text : List ℕ) → AreDigits text → IsLine text
digits_line [] is = tt
digits_line (b ∷ bs) is = (let within = digit_within b is.0 in grind (arith, nat_tests, within), digits_line bs is.1)

decimal_line : (n : ℕ) → n < 2 ^ 64 → IsLine (decimal n)
decimal_line n few = digits_line (decimal n) (decimal_digits n few)

-- ---- the lines of a section

sign_line : (verdicts : List Verdict) → IsLine (map (λ v. class_sign v.class) verdicts)
sign_line [] = tt
sign_line (v ∷ vs) = (of_sign v.class, sign_line vs) where
  of_sign : (k : Class) → nat_eq (class_sign k) 10 ≡ false
  of_sign class.Outside = refl
  of_sign class.Mixed = refl
  of_sign class.Inside = refl

-- the sign in a line after a front, and in a column
sign_there : (nx : ℕ) (verdicts : List Verdict) (n : ℕ) (front : List ℕ) (j i column : ℕ) → IsLine front → i < n
    → column < length (section_line nx verdicts (j + i))
    → byte_at (front ++ section_lines nx verdicts j n) (suc i) column ≡ Some (get_or (section_line nx verdicts (j + i)) column 0)
sign_there nx verdicts zero front j i column is few inside = absurd (omega (arith, few))
sign_there nx verdicts (suc n) front j zero column is few inside =
    let same : j + 0 ≡ j = omega arith in
    after_line front (section_line nx verdicts j ++ section_lines nx verdicts (j + 1) n) zero column is
    ∙ in_line (section_line nx verdicts j) (section_lines nx verdicts (j + 1) n) column (sign_line (take nx (drop (nx * j) verdicts)))
    (subst (λ k. column < length (section_line nx verdicts k)) same inside)
    ∙ ap (λ k. Some (get_or (section_line nx verdicts k) column 0)) (sym same)
sign_there nx verdicts (suc n) front j (suc i) column is few inside =
    let same : j + suc i ≡ (j + 1) + i = omega arith in
    after_line front (section_line nx verdicts j ++ section_lines nx verdicts (j + 1) n) (suc i) column is
    ∙ sign_there nx verdicts n (section_line nx verdicts j) (j + 1) i column (sign_line (take nx (drop (nx * j) verdicts))) (omega (arith, few))
    (subst (λ k. column < length (section_line nx verdicts k)) same inside)
    ∙ ap (λ k. Some (get_or (section_line nx verdicts k) column 0)) (sym same)

-- lines before the last end inside
room : (nx ny j : ℕ) → j < ny → nx * j + nx ≤ nx * ny
room nx ny j few =
    let all : nx * (j + 1) ≤ nx * ny = mul-le-mul (omega arith) (omega (arith, few)) in
    omega (arith, all)

none : Verdict
none = record { class = class.Outside; leaf = 0 }

module _ (nx ny : ℕ) (f : ℕ → Verdict) (j i : ℕ) (left : i < nx) (few : j < ny) where
  verdicts : List Verdict
  verdicts = map f (range_with_len 0 (nx * ny))

  taken : length (take nx (drop (nx * j) verdicts)) ≡ nx
  unfolding verdicts
  taken =
      let all : length verdicts ≡ nx * ny = length-map-range_with_len f 0 (nx * ny) in
      let fits = room nx ny j few in
      omega (arith, length-take nx (drop (nx * j) verdicts), length-drop (nx * j) verdicts, all, fits)

  pub sign_is : get_or (section_line nx (map f (range_with_len 0 (nx * ny))) j) i 0 ≡ class_sign (f (nx * j + i)).class
  unfolding verdicts
  sign_is =
      let within : i < length (take nx (drop (nx * j) verdicts)) = omega (arith, taken, left) in
      let place : nx * j + i < nx * ny = omega (arith, room nx ny j few, left) in
      get_or-map (λ v. class_sign v.class) (take nx (drop (nx * j) verdicts)) i none 0 within
      ∙ ap (λ v. class_sign v.class)
      (get_or-take nx (drop (nx * j) verdicts) i none left
      ∙ get_or-drop (nx * j) verdicts i none
      ∙ get_or-map-range_with_len f 0 (nx * ny) (nx * j + i) (nx * j + i) none place (omega arith))

  pub sign_inside : i < length (section_line nx (map f (range_with_len 0 (nx * ny))) j)
  unfolding verdicts
  sign_inside =
      let long : length (section_line nx verdicts j) ≡ length (take nx (drop (nx * j) verdicts)) = length-map (take nx (drop (nx * j) verdicts)) (λ v. class_sign v.class) in
      omega (arith, long, taken, left)

head_line : (nx ny : ℕ) → nx < 2 ^ 64 → ny < 2 ^ 64 → IsLine (section_head nx ny)
head_line nx ny a b =
    let blank : (n : ℕ) → n < 2 ^ 64 → IsLine (count_words n) = λ n few. (refl, decimal_line n few) in
    line_append (codes "SECTION") (count_words nx ++ count_words ny) (refl, (refl, (refl, (refl, (refl, (refl, (refl, tt)))))))
    (line_append (count_words nx) (count_words ny) (blank nx a) (blank ny b))

sign_of_inside : (k : Class) → class_sign k ≡ 35 → k ≡ class.Inside
sign_of_inside class.Outside is = absurd (omega (arith, is))
sign_of_inside class.Mixed is = absurd (omega (arith, is))
sign_of_inside class.Inside is = refl

sign_of_outside : (k : Class) → class_sign k ≡ 46 → k ≡ class.Outside
sign_of_outside class.Outside is = refl
sign_of_outside class.Mixed is = absurd (omega (arith, is))
sign_of_outside class.Inside is = absurd (omega (arith, is))

-- ---- what they say

module _ (rows : List Entity) (e : ℕ) (z x0 y0 step : ℤ) (nx ny : ℕ) (text rest : List ℕ)
    (lawful : IsLawful (question.Section e z x0 y0 step nx ny))
    (is : IsAnswerOn rows (question.Section e z x0 y0 step nx ny) text) (words : text ≡ codes "SECTION" ++ rest)
    (i j : ℕ) (left : i < nx) (few : j < ny) where
  q : Question
  q = question.Section e z x0 y0 step nx ny

  there : cell q (nx * j + i) ≡ section_cell z x0 y0 step i j
  unfolding q
  there =
      let turned : nx * j + i ≡ j * nx + i = omega arith in
      let column : (nx * j + i) % nx ≡ i = ap (λ n. n % nx) turned ∙ mod-mul-add j nx i left in
      let line : (nx * j + i) / nx ≡ j = ap (λ n. n / nx) turned ∙ div-mul-add j nx i left in
      ap (λ k. section_cell z x0 y0 step k ((nx * j + i) / nx)) column ∙ ap (section_cell z x0 y0 step i) line

  pub section_sign : (b : ℕ) → byte_at text (suc j) i ≡ Some b → class_sign (cell_verdict rows e (section_cell z x0 y0 step i j)).class ≡ b
  unfolding q
  section_sign b sign =
      let letter : first text ≡ 83 = ap first words in
      let body = not_refused rows q text is (omega (arith, letter)) in
      let count = listed (nat_le (nx * ny) most_section_cells) (nx * ny) (weight_of rows e) body.1 in
      let all = all_verdicts rows q (nx * ny) (cells_listed q (nx * ny) count) in
      let f : ℕ → Verdict = λ k. cell_verdict rows e (cell q k) in
      let spelt : text ≡ section_words nx ny (map f (range_with_len 0 (nx * ny))) = body.0 ∙ ap (section_words nx ny) (sym all) in
      let x : nx < 2 ^ 64 = omega (arith, lawful.1.some_x.1) in
      let y : ny < 2 ^ 64 = omega (arith, lawful.1.some_y.1) in
      let at = sign_there nx (map f (range_with_len 0 (nx * ny))) ny (section_head nx ny) 0 j i (head_line nx ny x y) few
      (subst (λ k. i < length (section_line nx (map f (range_with_len 0 (nx * ny))) k)) (omega arith) (sign_inside nx ny f j i left few)) in
      let same : Some (get_or (section_line nx (map f (range_with_len 0 (nx * ny))) (0 + j)) i 0) ≡ Some b =
      sym at ∙ ap (λ t. byte_at t (suc j) i) (sym spelt) ∙ sign in
      let read : get_or (section_line nx (map f (range_with_len 0 (nx * ny))) (0 + j)) i 0 ≡ b = grind (arith, same) in
      let zero_j : j ≡ 0 + j = omega arith in
      ap (λ c. class_sign (cell_verdict rows e c).class) (sym there)
      ∙ sym (sign_is nx ny f j i left few)
      ∙ ap (λ k. get_or (section_line nx (map f (range_with_len 0 (nx * ny))) k) i 0) zero_j
      ∙ read

  pub section_inside : AllByRecursion (λ e. IsLawfulRow e.row) rows → byte_at text (suc j) i ≡ Some 35 → IsAllInside rows e (section_cell z x0 y0 step i j)
  section_inside sound sign = all_inside rows e (section_cell z x0 y0 step i j) sound (sign_of_inside _ (section_sign 35 sign))

  pub section_outside : AllByRecursion (λ e. IsLawfulRow e.row) rows → byte_at text (suc j) i ≡ Some 46 → IsAllOutside rows e (section_cell z x0 y0 step i j)
  section_outside sound sign = all_outside rows e (section_cell z x0 y0 step i j) sound (sign_of_outside _ (section_sign 46 sign))
