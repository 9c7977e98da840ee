-- Written cards are cards of the fixed form.
use Rattle.std.proofs.Common.{◌≡◌, ◌≢◌, ℕ, suc, ◌+◌, ◌-◌, ◌≤◌, List, [], ◌∷◌, ◌++◌, length, take, drop, get_or, replicate, decimal, refl, sym, ap, subst, ◌∙◌, arith, inr, append_assoc, append-nil, length-append}
use Rattle.std.specs.List.{AllByRecursion, concat}
use Rattle.std.proofs.lemmas.Fmt.{decimal_nonempty}
use Rattle.std.proofs.Math.Seq.{take-append_seam, drop-append-add}
use Rattle.solid_base.specs.Series.{Spells}
use Rattle.solid_base.specs.Texts.{IsOneLine}
use Rattle.solid_base.proofs.DecimalTexts.{decimal_digits}
use Rattle.solid_base.proofs.Texts.{one_line_joined}
use Rattle.iges_cards.specs.declared.sections.Section.{Section}
use Rattle.iges_cards.specs.declared.sections.Section.TheVariants as section
use Rattle.iges_cards.specs.Grammar.{IsNumbered, IsCard, IsGroup}
use Rattle.iges_cards.specs.Lines.{IsLine}
use Rattle.iges_cards.specs.Numbers.{IsNumber}
use Rattle.iges_cards.specs.Sections.{letter_of}
use Rattle.iges_write.specs.Cards.{filled, right_aligned, card, cards}
use Rattle.iges_file.proofs.WrittenNumbers.{right_width, right_in_line, right_is_number, no_return_after}

-- columns 1 to 72 of a line
pub record IsText (columns : List ℕ) : Type 0 where
  pub wide : length columns ≡ 72
  pub in_line : IsOneLine columns

-- the 80 columns of a card
abbrev pub face : ℕ → ℕ → List ℕ → List ℕ
face letter n columns = columns ++ letter ∷ right_aligned 7 n

-- ---- one card

pub filled_whole : (columns : List ℕ) → length columns ≡ 72 → filled 72 columns ≡ columns
filled_whole columns h =
    let none : 72 - length columns ≡ 0 = omega (arith, h) in
    ap (λ (k : ℕ). columns ++ replicate k 32) none ∙ append-nil columns

pub card_is : (letter n : ℕ) (columns : List ℕ) → card letter n columns ≡ face letter n (filled 72 columns) ++ 10 ∷ []
unfolding card
card_is letter n columns = sym (append_assoc (filled 72 columns) (letter ∷ right_aligned 7 n) (10 ∷ []))

pub face_width : (letter n : ℕ) (columns : List ℕ) → length columns ≡ 72 → n ≤ 9999999 → length (face letter n columns) ≡ 80
face_width letter n columns wide small =
    omega (arith, wide, length-append columns (letter ∷ right_aligned 7 n), right_width 7 n (omega arith) (omega (arith, small)) (omega (arith, small)))

face_in_line : (letter n : ℕ) (columns : List ℕ) → letter ≢ 10 → IsOneLine columns → n ≤ 9999999 → IsOneLine (face letter n columns)
face_in_line letter n columns other h small = one_line_joined columns (letter ∷ right_aligned 7 n) h (other, right_in_line 7 n (omega (arith, small)))

no_return : (letter n : ℕ) (columns : List ℕ) → n ≤ 9999999 → (front : List ℕ) → face letter n columns ≢ front ++ 13 ∷ []
no_return letter n columns small front e =
    let blank : List ℕ = replicate (7 - length (decimal n)) 32 in
    let glue : face letter n columns ≡ (columns ++ letter ∷ blank) ++ decimal n = sym (append_assoc columns (letter ∷ blank) (decimal n)) in
    no_return_after (columns ++ letter ∷ blank) (decimal n) (decimal_nonempty n (omega (arith, small))) (decimal_digits n (omega (arith, small))) front (sym glue ∙ e)

at_seam : (a b : List ℕ) (x : ℕ) → get_or (a ++ x ∷ b) (length a) 0 ≡ x
at_seam [] b x = refl
at_seam (y ∷ a) b x = at_seam a b x

face_line : (letter n : ℕ) (columns : List ℕ) → letter ≢ 10 → IsText columns → n ≤ 9999999 → IsLine (face letter n columns ++ 10 ∷ []) (face letter n columns)
face_line letter n columns other h small = record {
  one_line = face_in_line letter n columns other h.in_line small;
  ended = inr (refl, no_return letter n columns small);
}

face_numbered : (s : Section) (n : ℕ) (columns : List ℕ) → IsText columns → n ≤ 9999999 → IsNumbered s n (face (letter_of s) n columns) (face (letter_of s) n columns)
face_numbered s n columns h small =
    let line = face (letter_of s) n columns in
    let at : get_or line 72 0 ≡ letter_of s = ap (λ (k : ℕ). get_or line k 0) (sym h.wide) ∙ at_seam columns (right_aligned 7 n) (letter_of s) in
    let after : drop 73 line ≡ right_aligned 7 n = ap (λ (k : ℕ). drop (k + 1) line) (sym h.wide) ∙ drop-append-add columns (letter_of s ∷ right_aligned 7 n) 1 in
    record {
      columns_of = record { tail = []; eighty = face_width (letter_of s) n columns h.wide small; blanks = tt; spelt = sym (append-nil line) };
      letter = at;
      sequence = subst (λ (x : List ℕ). IsNumber n x) (sym after) (right_is_number 7 n (omega (arith, small)));
    }

no_feed : (s : Section) → letter_of s ≢ 10
no_feed section.Start e = absurd (omega arith)
no_feed section.Global e = absurd (omega arith)
no_feed section.Directory e = absurd (omega arith)
no_feed section.Parameter e = absurd (omega arith)
no_feed section.Terminate e = absurd (omega arith)

pub text_face : (letter n : ℕ) (columns : List ℕ) → IsText columns → card letter n columns ≡ face letter n columns ++ 10 ∷ []
text_face letter n columns h = card_is letter n columns ∙ ap (λ (x : List ℕ). face letter n x ++ 10 ∷ []) (filled_whole columns h.wide)

pub is_card : (s : Section) (width n : ℕ) (columns : List ℕ) → IsText columns → n ≤ 9999999 → IsCard s width n (card (letter_of s) n columns) (take width (face (letter_of s) n columns))
is_card s width n columns h small = record {
  line = face (letter_of s) n columns;
  columns = face (letter_of s) n columns;
  is_line = subst (λ (x : List ℕ). IsLine x (face (letter_of s) n columns)) (sym (text_face (letter_of s) n columns h)) (face_line (letter_of s) n columns (no_feed s) h small);
  numbered = face_numbered s n columns h small;
  kept_columns = refl;
}

-- ---- the cards of a section

-- what is kept of them
unfoldable pub kept_of : ℕ → ℕ → ℕ → List (List ℕ) → List (List ℕ)
kept_of letter width n [] = []
kept_of letter width n (columns ∷ more) = take width (face letter n columns) ∷ kept_of letter width (suc n) more

pub kept_count : (letter width n : ℕ) (lines : List (List ℕ)) → length (kept_of letter width n lines) ≡ length lines
unfolding kept_of
kept_count letter width n [] = refl
kept_count letter width n (columns ∷ more) = ap suc (kept_count letter width (suc n) more)

pub are_cards : (s : Section) (width n : ℕ) (lines : List (List ℕ)) → AllByRecursion IsText lines → n + length lines ≤ 10000000
    → Spells (IsCard s width) n (concat (cards (letter_of s) n lines)) (kept_of (letter_of s) width n lines)
unfolding cards kept_of
are_cards s width n [] h few = refl
are_cards s width n (columns ∷ more) h few =
    let next : n + 1 ≡ suc n = omega arith in
    let rest = are_cards s width (suc n) more h.1 (omega (arith, few)) in (
      card (letter_of s) n columns,
      concat (cards (letter_of s) (n + 1) more),
      refl,
      is_card s width n columns h.0 (omega (arith, few)),
      subst (λ (k : ℕ). Spells (IsCard s width) (suc n) (concat (cards (letter_of s) k more)) (kept_of (letter_of s) width (suc n) more)) (sym next) rest,
    )

-- all text columns are kept
pub kept_whole : (letter n : ℕ) (lines : List (List ℕ)) → AllByRecursion IsText lines → kept_of letter 72 n lines ≡ lines
unfolding kept_of
kept_whole letter n [] h = refl
kept_whole letter n (columns ∷ more) h =
    let line = face letter n columns in
    let front : take 72 line ≡ columns = ap (λ (k : ℕ). take k line) (sym h.0.wide) ∙ take-append_seam columns (letter ∷ right_aligned 7 n) in
    ap (λ (x : List ℕ). x ∷ kept_of letter 72 (suc n) more) front ∙ ap (λ (ls : List (List ℕ)). columns ∷ ls) (kept_whole letter (suc n) more h.1)

-- ---- the terminate line

pub is_group : (s : Section) (n : ℕ) (columns : List ℕ) → n ≤ 9999999 → columns ≡ letter_of s ∷ right_aligned 7 n → IsGroup s n columns
is_group s n columns small is = record { field = right_aligned 7 n; spelt = is; number = right_is_number 7 n (omega (arith, small)) }

pub terminate_line : (columns : List ℕ) → IsText (filled 72 columns) → IsLine (card 84 1 columns) (face 84 1 (filled 72 columns))
terminate_line columns h = subst (λ (x : List ℕ). IsLine x (face 84 1 (filled 72 columns))) (sym (card_is 84 1 columns)) (face_line 84 1 (filled 72 columns) (no_feed section.Terminate) h (omega arith))

pub terminate_numbered : (columns : List ℕ) → IsText (filled 72 columns) → IsNumbered section.Terminate 1 (face 84 1 (filled 72 columns)) (face 84 1 (filled 72 columns))
terminate_numbered columns h = face_numbered section.Terminate 1 (filled 72 columns) h (omega arith)
