-- What the checks of a line find is its first defect; a line that passes them has none.
use Rattle.std.proofs.Common.{◌≡◌, ℕ, ◌+◌, ◌<◌, ◌⊎◌, inl, inr, List, [], ◌∷◌, ◌++◌, Bool, true}
use Rattle.std.proofs.Common.{false, cond, ◌==◌, ◌||◌, nat_lt, length, take, drop, slice_index}
use Rattle.std.proofs.Common.{Option, Some, None, Result, Ok, Err, refl, sym, ap, subst, ◌∙◌, arith}
use Rattle.std.proofs.Common.{append_assoc, append-nil}
use Rattle.std.specs.List.{AllByRecursion, list_all}
use Rattle.iges_cards.specs.declared.faults.CardFault.{CardFault}
use Rattle.iges_cards.specs.declared.faults.CardFault.TheVariants as fault
use Rattle.iges_cards.specs.declared.sections.Counts.{Counts}
use Rattle.iges_cards.specs.declared.sections.Section.{Section}
use Rattle.iges_cards.specs.declared.sections.Section.TheVariants as section
use Rattle.solid_base.specs.Outcomes.{◌>>=◌}
use Rattle.solid_base.specs.Spelling.{is_blank}
use Rattle.solid_base.proofs.Columns.{all_test, test_all}
use Rattle.iges_cards.specs.Checks.{columns_in, is_other_form, allowed, section_after, card_in}
use Rattle.iges_cards.specs.Checks.{group_in, told, told_in, same_count, terminated}
use Rattle.iges_cards.specs.FirstFault.{card_columns, letter_in, last_section, lines_with}
use Rattle.iges_cards.specs.FirstFault.{told_sections, IsTerminateLine, IsOtherForm, IsInPlace}
use Rattle.iges_cards.specs.FirstFault.{IsInSequence, IsFirstDefect}
use Rattle.iges_cards.specs.Grammar.{HasGroups}
use Rattle.iges_cards.specs.Numbers.{IsNumber, number_in, is_same}
use Rattle.iges_cards.specs.Sections.{letter_of, section_of, may_follow, count_of, lines_in}
use Rattle.iges_cards.proofs.CardLaws.{named_again, named_takes, same_again, same_takes}
use Rattle.iges_cards.proofs.CardLaws.{told_again, told_takes}
use Rattle.iges_cards.proofs.CheckLaws.{test_same, test_not}
use Rattle.iges_cards.proofs.Defects.{IsClearTo, HasNoDefect, clear_first, clear_more, not_short}
use Rattle.iges_cards.proofs.Defects.{not_long, not_other, not_misplaced, not_out_of_sequence}
use Rattle.iges_cards.proofs.Defects.{not_bad_groups, not_miscounted}
use Rattle.iges_cards.proofs.NumberLaws.{number_again, number_takes}

-- ---- checks one after the other

-- a check gave something of which P holds, or the line's first defect
abbrev pub Checked : {A : Type 0} → List (List ℕ) → List ℕ → (A → Type 0) → Result A CardFault
    → Type 0
Checked before line P (Ok x) = P x
Checked before line P (Err f) = IsFirstDefect before line f

pub next_checked : {A B : Type 0} (before : List (List ℕ)) (line : List ℕ) (P : A → Type 0)
    (Q : B → Type 0) (o : Result A CardFault) (f : A → Result B CardFault)
    → Checked before line P o → ((x : A) → P x → Checked before line Q (f x))
    → Checked before line Q (o >>= f)
next_checked before line P Q (Ok x) f h k = k x h
next_checked before line P Q (Err e) f h k = h

test_checked : {A : Type 0} (before : List (List ℕ)) (line : List ℕ) (P : A → Type 0) (v : Bool)
    (x y : Result A CardFault) → (v ≡ true → Checked before line P x)
    → (v ≡ false → Checked before line P y) → Checked before line P (cond v x y)
test_checked before line P true x y h k = h refl
test_checked before line P false x y h k = k refl

-- ---- columns

is_below : (a b : ℕ) → nat_lt a b ≡ true → a < b
is_below a b h = grind arith

isnt_below : (a b : ℕ) → nat_lt a b ≡ false → ¬ (a < b)
isnt_below a b h k = grind arith

columns_checked : (before : List (List ℕ)) (line : List ℕ)
    → Checked before line (λ columns. (columns ≡ card_columns line) × IsClearTo 3 before line)
    (columns_in (length before + 1) line)
unfolding columns_in
columns_checked before line =
    let number = length before + 1 in
    let P = λ (columns : List ℕ). (columns ≡ card_columns line) × IsClearTo 3 before line in
    let blank = list_all is_blank (drop 80 line) in
    test_checked before line P (nat_lt (length line) 80) (Err (fault.ShortLine number))
    (cond blank (Ok (take 80 line)) (Err (fault.LongLine number)))
    (λ short. record {
      holds = (refl, is_below (length line) 80 short);
      earlier = clear_first before line;
    })
    (λ whole.
    let two = clear_more 1 before line (clear_first before line)
    (not_short before line (isnt_below (length line) 80 whole)) in
    test_checked before line P blank (Ok (take 80 line)) (Err (fault.LongLine number))
    (λ yes. (
      refl,
      clear_more 2 before line two
          (not_long before line (test_all is_blank (drop 80 line) yes)),
    ))
    (λ no. record {
      holds = (refl, λ blanks. let yes = all_test is_blank (drop 80 line) blanks in cc);
      earlier = two;
    }))

-- ---- sections

-- a line that isn't the first one stands after one of a section
abbrev pub HasNamed : List (List ℕ) → Type 0
HasNamed before = (before ≡ []) ⊎ ((s : Section) × (last_section before ≡ Some s))

either : (v w : Bool) → v || w ≡ true → (v ≡ true) ⊎ (w ≡ true)
either true w h = inl refl
either false w h = inr h

letters : (l : ℕ) → (l == 67) || (l == 66) ≡ false → (l ≡ 67) ⊎ (l ≡ 66) → ⊥
letters l h (inl e) = let yes : (l == 67) || (l == 66) ≡ true = (rw e refl) in cc
letters l h (inr e) = let yes : (l == 67) || (l == 66) ≡ true = (rw e refl) in cc

one_of_letters : (l : ℕ) → ((l == 67) ≡ true) ⊎ ((l == 66) ≡ true) → (l ≡ 67) ⊎ (l ≡ 66)
one_of_letters l (inl e) = inl (test_same l 67 e)
one_of_letters l (inr e) = inr (test_same l 66 e)

other_form : (o : Option Section) (before : List (List ℕ)) (line : List ℕ) → last_section before ≡ o
    → HasNamed before → is_other_form o (letter_in line) ≡ true → IsOtherForm before line
other_form None before line e (inl none) h =
    let l = letter_in line in
    (none, one_of_letters l (either (l == 67) (l == 66) h))
other_form None before line e (inr some) h = absurd (let no = sym e ∙ some.1 in cc)
other_form (Some s) before line e n h = cc

not_other_form : (o : Option Section) (before : List (List ℕ)) (line : List ℕ)
    → last_section before ≡ o → is_other_form o (letter_in line) ≡ false → ¬ IsOtherForm before line
not_other_form None before line e h d = letters (letter_in line) h d.1
not_other_form (Some s) before line e h d = let none = sym e ∙ ap last_section d.0 in cc

allowed_checked : (before : List (List ℕ)) (line : List ℕ) (o : Option Section)
    → section_of (letter_in line) ≡ o → IsClearTo 4 before line
    → Checked before line (λ next. IsInPlace before line next × IsClearTo 5 before line)
    (allowed (length before + 1) (last_section before) o)
allowed_checked before line None e four = record {
  holds = (refl, λ named p. let some = sym e ∙ ap section_of p.letter ∙ named_again named in cc);
  earlier = four;
}
allowed_checked before line (Some s) e four =
    let P = λ (next : Section). IsInPlace before line next × IsClearTo 5 before line in
    test_checked before line P (may_follow (last_section before) s) (Ok s)
    (Err (fault.BadSection (length before + 1)))
    (λ may.
    let place : IsInPlace before line s =
    record { letter = named_takes (letter_in line) s e; follows = may } in
    (place, clear_more 4 before line four (not_misplaced before line s place)))
    (λ no. record {
      holds = (
        refl,
        λ named p.
            let some = sym e ∙ ap section_of p.letter ∙ named_again named in
            let same : s ≡ named = cc in
            let yes = subst (λ x. may_follow (last_section before) x ≡ true) (sym same) p.follows in
            cc,
      );
      earlier = four;
    })

section_checked : (before : List (List ℕ)) (line : List ℕ) → HasNamed before
    → IsClearTo 3 before line
    → Checked before line (λ next. IsInPlace before line next × IsClearTo 5 before line)
    (section_after (length before + 1) (last_section before) (letter_in line))
unfolding section_after
section_checked before line n three =
    let P = λ (next : Section). IsInPlace before line next × IsClearTo 5 before line in
    let other = is_other_form (last_section before) (letter_in line) in
    test_checked before line P other (Err fault.NotFixed)
    (allowed (length before + 1) (last_section before) (section_of (letter_in line)))
    (λ yes. record {
      holds = other_form (last_section before) before line refl n yes;
      earlier = three;
    })
    (λ no. allowed_checked before line (section_of (letter_in line)) refl
    (clear_more 3 before line three
    (not_other before line (not_other_form (last_section before) before line refl no))))

-- ---- numbers

-- how many lines of each section there are
abbrev pub counts_in : List (List ℕ) → Counts
counts_in lines = record {
  start = lines_with section.Start lines;
  global = lines_with section.Global lines;
  directory = lines_with section.Directory lines;
  parameter = lines_with section.Parameter lines;
}

counted : (before : List (List ℕ)) (next : Section) → lines_with section.Terminate before ≡ 0
    → count_of (counts_in before) next ≡ lines_with next before
counted before section.Start h = refl
counted before section.Global h = refl
counted before section.Directory h = refl
counted before section.Parameter h = refl
counted before section.Terminate h = sym h

same_section : (a b : Section) → letter_of a ≡ letter_of b → a ≡ b
same_section a b h = let e = sym (named_again a) ∙ ap section_of h ∙ named_again b in cc

-- a line that stands in its place, with its number
abbrev pub IsGood : List (List ℕ) → List ℕ → Section × List ℕ → Type 0
IsGood before line card =
    (card.1 ≡ card_columns line) × IsInPlace before line card.0 × IsClearTo 6 before line

sequence_checked : (before : List (List ℕ)) (line : List ℕ) (next : Section)
    → lines_with section.Terminate before ≡ 0 → IsInPlace before line next
    → IsClearTo 5 before line
    → Checked before line (IsGood before line)
    (cond (is_same (number_in (drop 73 (card_columns line))) (count_of (counts_in before) next + 1))
    (Ok (next, card_columns line)) (Err (fault.BadSequence (length before + 1))))
sequence_checked before line next unended place five =
    let columns = card_columns line in
    let field = drop 73 columns in
    let count = count_of (counts_in before) next in
    let P = λ (card : Section × List ℕ). IsGood before line card in
    let total : count ≡ lines_with next before = counted before next unended in
    test_checked before line P (is_same (number_in field) (count + 1)) (Ok (next, columns))
    (Err (fault.BadSequence (length before + 1)))
    (λ yes.
    let number = number_takes (count + 1) field (same_takes (number_in field) (count + 1) yes) in
    let at : IsInSequence before line next = record {
      letter = place.letter;
      number = subst (λ n. IsNumber (n + 1) field) total number;
    } in
    (refl, place, clear_more 5 before line five (not_out_of_sequence before line next at)))
    (λ no. record {
      holds = (
        refl,
        λ named q.
            let same : named ≡ next = same_section named next (sym q.letter ∙ place.letter) in
            let lines : lines_with named before ≡ count =
            ap (λ s. lines_with s before) same ∙ sym total in
            let read = number_again (count + 1) field
            (subst (λ n. IsNumber (n + 1) field) lines q.number) in
            let yes = same_again (number_in field) (count + 1) read in
            cc,
      );
      earlier = five;
    })

pub card_checked : (before : List (List ℕ)) (line : List ℕ) → HasNamed before
    → lines_with section.Terminate before ≡ 0 → lines_in (counts_in before) ≡ length before
    → Checked before line (IsGood before line)
    (card_in (last_section before) (counts_in before) line)
unfolding card_in
card_checked before line named unended all =
    let counts = counts_in before in
    let number = lines_in counts + 1 in
    let same : lines_in counts + 1 ≡ length before + 1 = omega (arith, all) in
    let P = λ (columns : List ℕ). (columns ≡ card_columns line) × IsClearTo 3 before line in
    let Q = λ (next : Section). IsInPlace before line next × IsClearTo 5 before line in
    let R = λ (card : Section × List ℕ). IsGood before line card in
    subst (λ n. Checked before line R
    (columns_in n line >>= λ columns. section_after n (last_section before) (slice_index columns 72)
    >>= λ next.
    cond (is_same (number_in (drop 73 columns)) (count_of counts next + 1)) (Ok (next, columns))
    (Err (fault.BadSequence n)))) (sym same)
    (next_checked before line P R (columns_in (length before + 1) line)
    (λ columns. section_after (length before + 1) (last_section before) (slice_index columns 72)
    >>= λ next.
    cond (is_same (number_in (drop 73 columns)) (count_of counts next + 1)) (Ok (next, columns))
    (Err (fault.BadSequence (length before + 1))))
    (columns_checked before line) (λ columns p.
    subst (λ cs. Checked before line R
    (section_after (length before + 1) (last_section before) (slice_index cs 72) >>= λ next.
    cond (is_same (number_in (drop 73 cs)) (count_of counts next + 1)) (Ok (next, cs))
    (Err (fault.BadSequence (length before + 1))))) (sym p.0)
    (next_checked before line Q R
    (section_after (length before + 1) (last_section before) (letter_in line))
    (λ next. cond (is_same (number_in (drop 73 (card_columns line))) (count_of counts next + 1))
    (Ok (next, card_columns line)) (Err (fault.BadSequence (length before + 1))))
    (section_checked before line named p.1)
    (λ next q. sequence_checked before line next unended q.0 q.1))))

-- ---- the terminate line

told_fault : (s g d p : Option ℕ) (f : CardFault) → told s g d p ≡ Err f → f ≡ fault.BadTerminate
told_fault (Some s) (Some g) (Some d) (Some p) f h = cc
told_fault None g d p f h = cc
told_fault (Some s) None d p f h = cc
told_fault (Some s) (Some g) None p f h = cc
told_fault (Some s) (Some g) (Some d) None f h = cc

groups_fault : (columns : List ℕ) (f : CardFault) → told_in columns ≡ Err f → f ≡ fault.BadTerminate
unfolding told_in
groups_fault columns f h =
    told_fault (group_in 83 (take 8 columns)) (group_in 71 (take 8 (drop 8 columns)))
    (group_in 68 (take 8 (drop 16 columns))) (group_in 80 (take 8 (drop 24 columns))) f h

abbrev HasTold : List (List ℕ) → List ℕ → Counts → Type 0
HasTold before line told = HasGroups told (card_columns line) × IsClearTo 7 before line

groups_checked : (before : List (List ℕ)) (line : List ℕ) (r : Result Counts CardFault)
    → told_in (card_columns line) ≡ r → IsTerminateLine line → IsClearTo 6 before line
    → Checked before line (HasTold before line) r
groups_checked before line (Ok told) e t six =
    let groups = told_takes told (card_columns line) e in
    (groups, clear_more 6 before line six (not_bad_groups before line told groups))
groups_checked before line (Err f) e t six =
    let bad : IsFirstDefect before line fault.BadTerminate = record {
      holds = (t, λ told h. let good = told_again told (card_columns line) h in cc);
      earlier = six;
    } in
    subst (IsFirstDefect before line) (sym (groups_fault (card_columns line) f e)) bad

agree_more : (p : Section → Type 0) (xs : List Section) (x : Section) → AllByRecursion p xs → p x
    → AllByRecursion p (xs ++ x ∷ [])
agree_more p [] x h k = (k, tt)
agree_more p (y ∷ xs) x h k = (h.0, agree_more p xs x h.1 k)

-- the counts of sections are compared one after the other
compared : List (List ℕ) → Counts → List Section → Result Counts CardFault
compared before told [] = Ok (counts_in before)
compared before told (s ∷ ss) =
    cond (count_of told s == lines_with s before) (Ok (counts_in before))
    (Err (fault.CountMismatch (letter_of s) (count_of told s) (lines_with s before)))
    >>= λ _. compared before told ss

abbrev Agree : List (List ℕ) → Counts → Section → Type 0
Agree before told s = count_of told s ≡ lines_with s before

compared_checked : (before : List (List ℕ)) (line : List ℕ) (told : Counts)
    (right ss : List Section) → told_sections ≡ right ++ ss → IsTerminateLine line
    → HasTold before line told → AllByRecursion (Agree before told) right
    → Checked before line (λ (_ : Counts). HasNoDefect before line) (compared before told ss)
unfolding compared
compared_checked before line told right [] e t h agree =
    not_miscounted before line told h.0
    (subst (AllByRecursion (Agree before told)) (sym (e ∙ append-nil right)) agree) h.1
compared_checked before line told right (s ∷ ss) e t h agree =
    let P = λ (_ : Counts). Agree before told s in
    let Q = λ (_ : Counts). HasNoDefect before line in
    let here : told_sections ≡ (right ++ s ∷ []) ++ ss = e ∙ sym (append_assoc right (s ∷ []) ss) in
    let f = fault.CountMismatch (letter_of s) (count_of told s) (lines_with s before) in
    next_checked before line P Q
    (cond (count_of told s == lines_with s before) (Ok (counts_in before)) (Err f))
    (λ _. compared before told ss)
    (test_checked before line P (count_of told s == lines_with s before) (Ok (counts_in before))
    (Err f)
    (λ yes. test_same (count_of told s) (lines_with s before) yes)
    (λ no. record {
      holds = (
        t,
        record {
          counts = told;
          groups = h.0;
          right = right;
          named = s;
          others = ss;
          order = e;
          agree = agree;
          differ = test_not (count_of told s) (lines_with s before) no;
          is_letter = refl;
          is_told = refl;
          is_found = refl;
        },
      );
      earlier = h.1;
    }))
    (λ _ same. compared_checked before line told (right ++ s ∷ []) ss here t h
    (agree_more (Agree before told) right s agree same))

-- four tests one after the other, and the same with nothing after them
four_tests : {A E : Type 0} (a b c d : Bool) (x : A) (e f g h : E)
    → (cond a (Ok x) (Err e) >>= λ _. cond b (Ok x) (Err f) >>= λ _. cond c (Ok x) (Err g)
    >>= λ _. cond d (Ok x) (Err h) >>= λ _. Ok x)
    ≡ (cond a (Ok x) (Err e) >>= λ _. cond b (Ok x) (Err f) >>= λ _. cond c (Ok x) (Err g)
    >>= λ _. cond d (Ok x) (Err h))
four_tests true true true true x e f g h = refl
four_tests true true true false x e f g h = refl
four_tests true true false d x e f g h = refl
four_tests true false c d x e f g h = refl
four_tests false b c d x e f g h = refl

counts_compared : (before : List (List ℕ)) (told : Counts)
    → compared before told told_sections
    ≡ (same_count section.Start (counts_in before) told
    >>= λ _. same_count section.Global (counts_in before) told >>= λ _.
    same_count section.Directory (counts_in before) told
    >>= λ _. same_count section.Parameter (counts_in before) told)
unfolding compared same_count
counts_compared before told =
    four_tests (told.start == lines_with section.Start before)
    (told.global == lines_with section.Global before)
    (told.directory == lines_with section.Directory before)
    (told.parameter == lines_with section.Parameter before) (counts_in before) _ _ _ _

pub terminated_checked : (before : List (List ℕ)) (line : List ℕ) → IsTerminateLine line
    → IsClearTo 6 before line
    → Checked before line (λ (_ : Counts). HasNoDefect before line)
    (terminated (counts_in before) (card_columns line))
unfolding terminated
terminated_checked before line t six =
    let Q = λ (_ : Counts). HasNoDefect before line in
    next_checked before line (HasTold before line) Q (told_in (card_columns line))
    (λ told. same_count section.Start (counts_in before) told
    >>= λ _. same_count section.Global (counts_in before) told >>= λ _.
    same_count section.Directory (counts_in before) told
    >>= λ _. same_count section.Parameter (counts_in before) told)
    (groups_checked before line (told_in (card_columns line)) refl t six) (λ told h.
    subst (Checked before line Q) (counts_compared before told)
    (compared_checked before line told [] told_sections refl t h tt))
