-- Defects of a line: of two that are each the first one, both are the same.
use Rattle.std.proofs.Common.{◌≡◌, ℕ, ◌+◌, ◌<◌, List, [], ◌∷◌, ◌++◌, Bool, true, false}
use Rattle.std.proofs.Common.{nat_lt, length, drop, Ok, Result, refl, sym, ap, subst, ◌∙◌, arith}
use Rattle.std.specs.List.{AllByRecursion}
use Rattle.iges_cards.specs.declared.faults.CardFault.{CardFault}
use Rattle.iges_cards.specs.declared.faults.CardFault.TheVariants as fault
use Rattle.iges_cards.specs.declared.sections.Counts.{Counts}
use Rattle.iges_cards.specs.declared.sections.Section.{Section}
use Rattle.solid_base.specs.Spelling.{AreBlanks}
use Rattle.iges_cards.specs.FirstFault.{card_columns, lines_with, told_sections, IsTerminateLine}
use Rattle.iges_cards.specs.FirstFault.{IsOtherForm, IsInPlace, IsInSequence, IsMiscount, IsDefect}
use Rattle.iges_cards.specs.FirstFault.{order_of, IsFirstDefect}
use Rattle.iges_cards.specs.Grammar.{HasGroups}
use Rattle.iges_cards.specs.Sections.{letter_of, count_of}
use Rattle.iges_cards.specs.Words.{IsOfText}
use Rattle.iges_cards.proofs.CardLaws.{told_again}

-- ---- what isn't a defect

-- no defect stands before this place in the order
abbrev pub IsClearTo : ℕ → List (List ℕ) → List ℕ → Type 0
IsClearTo k before line = (g : CardFault) → order_of g < k → ¬ IsDefect before line g

abbrev pub HasNoDefect : List (List ℕ) → List ℕ → Type 0
HasNoDefect before line = (g : CardFault) → ¬ IsDefect before line g

pub clear_first : (before : List (List ℕ)) (line : List ℕ) → IsClearTo 1 before line
clear_first before line (fault.ShortLine n) o d = absurd (omega arith)
clear_first before line g o d = absurd (omega arith)

below_or_here : (a k : ℕ) (v : Bool) → nat_lt a k ≡ v → a < k + 1 → (a < k → ⊥) → a ≡ k
below_or_here a k true e o n = grind arith
below_or_here a k false e o n = grind arith

clear_case : (k : ℕ) (before : List (List ℕ)) (line : List ℕ) (g : CardFault) (v : Bool)
    → nat_lt (order_of g) k ≡ v → IsClearTo k before line
    → ((f : CardFault) → order_of f ≡ k → ¬ IsDefect before line f)
    → order_of g < k + 1 → ¬ IsDefect before line g
clear_case k before line g true e c n o d = c g (grind arith) d
clear_case k before line g false e c n o d = n g (grind arith) d

pub clear_more : (k : ℕ) (before : List (List ℕ)) (line : List ℕ) → IsClearTo k before line
    → ((f : CardFault) → order_of f ≡ k → ¬ IsDefect before line f)
    → IsClearTo (k + 1) before line
clear_more k before line c n g o d =
    clear_case k before line g (nat_lt (order_of g) k) refl c n o d

pub not_short : (before : List (List ℕ)) (line : List ℕ) → ¬ (length line < 80)
    → (f : CardFault) → order_of f ≡ 1 → ¬ IsDefect before line f
not_short before line h (fault.ShortLine n) o d = h d.1
not_short before line h f o d = absurd (omega arith)

pub not_long : (before : List (List ℕ)) (line : List ℕ) → AreBlanks (drop 80 line)
    → (f : CardFault) → order_of f ≡ 2 → ¬ IsDefect before line f
not_long before line h (fault.LongLine n) o d = d.1 h
not_long before line h f o d = absurd (omega arith)

pub not_other : (before : List (List ℕ)) (line : List ℕ) → ¬ IsOtherForm before line
    → (f : CardFault) → order_of f ≡ 3 → ¬ IsDefect before line f
not_other before line h fault.NotFixed o d = h d
not_other before line h f o d = absurd (omega arith)

pub not_misplaced : (before : List (List ℕ)) (line : List ℕ) (named : Section)
    → IsInPlace before line named
    → (f : CardFault) → order_of f ≡ 4 → ¬ IsDefect before line f
not_misplaced before line named h (fault.BadSection n) o d = d.1 named h
not_misplaced before line named h f o d = absurd (omega arith)

pub not_out_of_sequence : (before : List (List ℕ)) (line : List ℕ) (named : Section)
    → IsInSequence before line named
    → (f : CardFault) → order_of f ≡ 5 → ¬ IsDefect before line f
not_out_of_sequence before line named h (fault.BadSequence n) o d = d.1 named h
not_out_of_sequence before line named h f o d = absurd (omega arith)

pub not_bad_groups : (before : List (List ℕ)) (line : List ℕ) (told : Counts)
    → HasGroups told (card_columns line)
    → (f : CardFault) → order_of f ≡ 6 → ¬ IsDefect before line f
not_bad_groups before line told h fault.BadTerminate o d = d.1 told h
not_bad_groups before line told h f o d = absurd (omega arith)

-- a line that isn't the terminate line has the first five defects alone
pub not_at_end : (before : List (List ℕ)) (line : List ℕ) → IsClearTo 6 before line
    → ¬ IsTerminateLine line → HasNoDefect before line
not_at_end before line c n fault.BadTerminate d = n d.0
not_at_end before line c n (fault.CountMismatch letter told found) d = n d.0
not_at_end before line c n fault.NoTerminate d = d
not_at_end before line c n (fault.Memory e) d = d
not_at_end before line c n g d = c g (omega arith) d

-- ---- counts

all_at : (p : Section → Type 0) (xs : List Section) (x : Section) (ys : List Section)
    → AllByRecursion p (xs ++ x ∷ ys) → p x
all_at p [] x ys h = h.0
all_at p (a ∷ xs) x ys h = all_at p xs x ys h.1

-- the counts that the groups tell are theirs alone
pub told_once : (a b : Counts) (columns : List ℕ) → HasGroups a columns → HasGroups b columns
    → a ≡ b
told_once a b columns h k =
    let both : ◌≡◌ {A = Result Counts CardFault} (Ok a) (Ok b) =
    sym (told_again a columns h) ∙ told_again b columns k in
    cc

-- where all counts are right there is no miscount
pub not_miscounted : (before : List (List ℕ)) (line : List ℕ) (told : Counts)
    → HasGroups told (card_columns line)
    → AllByRecursion (λ s. count_of told s ≡ lines_with s before) told_sections
    → IsClearTo 7 before line → HasNoDefect before line
not_miscounted before line told h all c (fault.CountMismatch letter number found) d =
    let m = d.1 in
    let agree = λ (s : Section). count_of told s ≡ lines_with s before in
    let here = all_at agree m.right m.named m.others (subst (AllByRecursion agree) m.order all) in
    let same = told_once m.counts told (card_columns line) m.groups h in
    m.differ (m.is_told ∙ ap (λ (t : Counts). count_of t m.named) same ∙ here ∙ sym m.is_found)
not_miscounted before line told h all c fault.NoTerminate d = d
not_miscounted before line told h all c (fault.Memory e) d = d
not_miscounted before line told h all c g d = c g (omega arith) d

-- the first item without a property is one
first_once : (p : Section → Type 0) (xs ys : List Section) (x y : Section) (vs ws : List Section)
    → xs ++ x ∷ vs ≡ ys ++ y ∷ ws → AllByRecursion p xs → AllByRecursion p ys → ¬ p x → ¬ p y
    → x ≡ y
first_once p [] [] x y vs ws e h k a b = cc
first_once p [] (y0 ∷ ys) x y vs ws e h k a b =
    let same : x ≡ y0 = cc in
    absurd (a (subst p (sym same) k.0))
first_once p (x0 ∷ xs) [] x y vs ws e h k a b =
    let same : x0 ≡ y = cc in
    absurd (b (subst p same h.0))
first_once p (x0 ∷ xs) (y0 ∷ ys) x y vs ws e h k a b =
    let rest : xs ++ x ∷ vs ≡ ys ++ y ∷ ws = cc in
    first_once p xs ys x y vs ws rest h.1 k.1 a b

same_miscount : (before : List (List ℕ)) (line : List ℕ) (a b : ℕ) (c l t f : ℕ)
    → IsMiscount before line a b c → IsMiscount before line l t f
    → fault.CountMismatch a b c ≡ fault.CountMismatch l t f
same_miscount before line a b c l t f m n =
    let told = told_once n.counts m.counts (card_columns line) n.groups m.groups in
    let agree = λ (s : Section). count_of m.counts s ≡ lines_with s before in
    let more = subst (λ (x : Counts). AllByRecursion (λ s. count_of x s ≡ lines_with s before)
    n.right) told n.agree in
    let n_told : t ≡ count_of m.counts n.named =
    n.is_told ∙ ap (λ (x : Counts). count_of x n.named) told in
    let named = first_once agree m.right n.right m.named n.named m.others n.others
    (sym m.order ∙ n.order) m.agree more
    (λ e. m.differ (m.is_told ∙ e ∙ sym m.is_found)) (λ e. n.differ (n_told ∙ e ∙ sym n.is_found))
    in
    let letter : a ≡ l = m.is_letter ∙ ap letter_of named ∙ sym n.is_letter in
    let number : b ≡ t = m.is_told ∙ ap (count_of m.counts) named ∙ sym n_told in
    let count : c ≡ f = m.is_found ∙ ap (λ s. lines_with s before) named ∙ sym n.is_found in
    rw (letter, number, count) refl

-- ---- one first defect

same_place : (before : List (List ℕ)) (line : List ℕ) (f g : CardFault) → IsDefect before line f
    → IsDefect before line g → order_of f ≡ order_of g → f ≡ g
same_place before line (fault.ShortLine n) (fault.ShortLine m) d e o =
    ap fault.ShortLine (d.0 ∙ sym e.0)
same_place before line (fault.LongLine n) (fault.LongLine m) d e o =
    ap fault.LongLine (d.0 ∙ sym e.0)
same_place before line fault.NotFixed fault.NotFixed d e o = refl
same_place before line (fault.BadSection n) (fault.BadSection m) d e o =
    ap fault.BadSection (d.0 ∙ sym e.0)
same_place before line (fault.BadSequence n) (fault.BadSequence m) d e o =
    ap fault.BadSequence (d.0 ∙ sym e.0)
same_place before line fault.BadTerminate fault.BadTerminate d e o = refl
same_place before line (fault.CountMismatch a b c) (fault.CountMismatch l t f) d e o =
    same_miscount before line a b c l t f d.1 e.1
same_place before line fault.NoTerminate g d e o = absurd d
same_place before line (fault.Memory x) g d e o = absurd d
same_place before line f fault.NoTerminate d e o = absurd e
same_place before line f (fault.Memory x) d e o = absurd e
same_place before line f g d e o = absurd (omega arith)

neither_below : (a b : ℕ) → ¬ (a < b) → ¬ (b < a) → a ≡ b
neither_below a b h k = grind arith

pub first_defect_once : (before : List (List ℕ)) (line : List ℕ) (f g : CardFault)
    → IsFirstDefect before line f → IsFirstDefect before line g → f ≡ g
first_defect_once before line f g h k =
    same_place before line f g h.holds k.holds (neither_below (order_of f) (order_of g)
    (λ o. k.earlier f o h.holds) (λ o. h.earlier g o k.holds))

-- a defect is never out of memory
pub defect_of_text : (before : List (List ℕ)) (line : List ℕ) (f : CardFault)
    → IsDefect before line f → IsOfText f
defect_of_text before line (fault.Memory e) d = absurd d
defect_of_text before line f d = λ e. omega arith
