-- One line: what the grammar of cards allows is read, and what is read it allows.
use Rattle.std.proofs.Common.{◌≡◌, ℕ, ◌+◌, ◌<◌, ◌≤◌, List, [], ◌∷◌, ◌++◌, Bool, true, false, cond, ◌==◌, nat_lt, length, take, drop, slice_index, Option, Some, None, Ok, Err, refl, sym, ap, subst, ◌∙◌, arith, length-append}
use Rattle.std.specs.List.{list_all}
use Rattle.std.proofs.lemmas.List.{length-take, length-drop, take-append-drop}
use Rattle.std.proofs.Math.Seq.{take-append_seam, drop-append_seam}
use Rattle.iges_cards.specs.declared.faults.CardFault.TheVariants as fault
use Rattle.iges_cards.specs.declared.sections.Counts.{Counts}
use Rattle.iges_cards.specs.declared.sections.Section.{Section}
use Rattle.iges_cards.specs.declared.sections.Section.TheVariants as section
use Rattle.solid_base.specs.Outcomes.{◌>>=◌}
use Rattle.iges_cards.specs.Checks.{columns_in, is_other_form, allowed, section_after, card_in, group_in, told, told_in, same_count, terminated}
use Rattle.iges_cards.specs.Grammar.{IsGroup, HasGroups}
use Rattle.solid_base.specs.Spelling.{is_blank}
use Rattle.iges_cards.specs.Lines.{HasColumns}
use Rattle.iges_cards.specs.Numbers.{IsNumber, number_in, is_same}
use Rattle.iges_cards.specs.Sections.{letter_of, section_of, may_follow, count_of, lines_in, one_more, AreFew}
use Rattle.solid_base.proofs.Columns.{all_test, test_all}
use Rattle.iges_cards.proofs.NumberLaws.{number_again, number_takes, number_below}
use Rattle.iges_cards.proofs.CheckLaws.{same_test, test_same, at_least, not_lt_test, passed, no_fault, not_stopped, same_pair, both_gave}

-- ---- columns

pub columns_again : (number : ℕ) (columns line : List ℕ) → HasColumns columns line → columns_in number line ≡ Ok columns
unfolding columns_in
columns_again number columns line h =
    let long : 80 ≤ length line = omega (arith, h.eighty, ap length h.spelt, length-append columns h.tail) in
    let front : take 80 line ≡ columns = ap (take 80) h.spelt ∙ ap (λ k. take k (columns ++ h.tail)) (sym h.eighty) ∙ take-append_seam columns h.tail in
    let back : drop 80 line ≡ h.tail = ap (drop 80) h.spelt ∙ ap (λ k. drop k (columns ++ h.tail)) (sym h.eighty) ∙ drop-append_seam columns h.tail in
    rw (not_lt_test (length line) 80 long, back, all_test is_blank h.tail h.blanks, front) refl

pub columns_takes : (number : ℕ) (columns line : List ℕ) → columns_in number line ≡ Ok columns → HasColumns columns line
unfolding columns_in
columns_takes number columns line h =
    let (short, more) = not_stopped (nat_lt (length line) 80) (cond (list_all is_blank (drop 80 line)) (Ok (take 80 line)) (Err (fault.LongLine number))) (fault.ShortLine number) columns h in
    let (blank, same) = no_fault (list_all is_blank (drop 80 line)) (Ok (take 80 line)) (fault.LongLine number) columns more in
    let front : take 80 line ≡ columns = cc in
    let long : 80 ≤ length line = at_least (length line) 80 short in
    record {
      tail = drop 80 line;
      eighty = ap length (sym front) ∙ length-take 80 line ∙ omega arith;
      blanks = test_all is_blank (drop 80 line) blank;
      spelt = sym (take-append-drop 80 line) ∙ ap (λ l. l ++ drop 80 line) front;
    }

-- ---- sections

own_form : (before : Option Section) (next : Section) → is_other_form before (letter_of next) ≡ false
own_form None section.Start = refl
own_form None section.Global = refl
own_form None section.Directory = refl
own_form None section.Parameter = refl
own_form None section.Terminate = refl
own_form (Some s) next = refl

pub named_again : (next : Section) → section_of (letter_of next) ≡ Some next
named_again section.Start = refl
named_again section.Global = refl
named_again section.Directory = refl
named_again section.Parameter = refl
named_again section.Terminate = refl

section_again : (number : ℕ) (before : Option Section) (next : Section) → may_follow before next ≡ true → section_after number before (letter_of next) ≡ Ok next
unfolding section_after
section_again number before next h = rw (own_form before next, named_again next, h) refl

allowed_takes : (number : ℕ) (before o : Option Section) (next : Section) → allowed number before o ≡ Ok next → (o ≡ Some next) × (may_follow before next ≡ true)
allowed_takes number before None next h = cc
allowed_takes number before (Some s) next h =
    let (may, is) = no_fault (may_follow before s) (Ok s) (fault.BadSection number) next h in
    let same : s ≡ next = cc in
    (ap Some same, subst (λ x. may_follow before x ≡ true) same may)

named_case : (letter : ℕ) (s next : Section) (more : Option Section) (v : Bool) → (letter == letter_of s) ≡ v → (more ≡ Some next → letter ≡ letter_of next) → cond v (Some s) more ≡ Some next → letter ≡ letter_of next
named_case letter s next more true e f h =
    let same : s ≡ next = cc in
    test_same letter (letter_of s) e ∙ ap letter_of same
named_case letter s next more false e f h = f h

pub named_takes : (letter : ℕ) (next : Section) → section_of letter ≡ Some next → letter ≡ letter_of next
named_takes letter next h =
    named_case letter section.Start next _ (letter == 83) refl (
    named_case letter section.Global next _ (letter == 71) refl (
    named_case letter section.Directory next _ (letter == 68) refl (
    named_case letter section.Parameter next _ (letter == 80) refl (
    named_case letter section.Terminate next None (letter == 84) refl (λ e. cc))))) h

section_takes : (number : ℕ) (before : Option Section) (letter : ℕ) (next : Section) → section_after number before letter ≡ Ok next → (letter ≡ letter_of next) × (may_follow before next ≡ true)
unfolding section_after
section_takes number before letter next h =
    let (other, more) = not_stopped (is_other_form before letter) (allowed number before (section_of letter)) fault.NotFixed next h in
    let (named, may) = allowed_takes number before (section_of letter) next more in
    (named_takes letter next named, may)

-- ---- cards

-- a line that may stand after the others
pub record IsNext (before : Option Section) (counts : Counts) (next : Section) (columns line : List ℕ) : Type 0 where
  pub columns_of : HasColumns columns line
  pub follows : may_follow before next ≡ true
  pub letter : slice_index columns 72 ≡ letter_of next
  pub sequence : IsNumber (count_of counts next + 1) (drop 73 columns)

pub same_again : (o : Option ℕ) (n : ℕ) → o ≡ Some n → is_same o n ≡ true
same_again None n h = cc
same_again (Some m) n h = let same : m ≡ n = cc in rw same (same_test n)

pub same_takes : (o : Option ℕ) (n : ℕ) → is_same o n ≡ true → o ≡ Some n
same_takes None n h = cc
same_takes (Some m) n h = ap Some (test_same m n h)

pub card_again : (before : Option Section) (counts : Counts) (next : Section) (columns line : List ℕ) → IsNext before counts next columns line → card_in before counts line ≡ Ok (next, columns)
unfolding card_in
card_again before counts next columns line h =
    let number = lines_in counts + 1 in
    let named : section_after number before (slice_index columns 72) ≡ Ok next = ap (section_after number before) h.letter ∙ section_again number before next h.follows in
    rw (columns_again number columns line h.columns_of, named, same_again (number_in (drop 73 columns)) (count_of counts next + 1) (number_again (count_of counts next + 1) (drop 73 columns) h.sequence)) refl

pub card_takes : (before : Option Section) (counts : Counts) (next : Section) (columns line : List ℕ) → card_in before counts line ≡ Ok (next, columns) → IsNext before counts next columns line
unfolding card_in
card_takes before counts next columns line h =
    let number = lines_in counts + 1 in
    let (found, of_line, more) = both_gave (columns_in number line) (λ columns. section_after number before (slice_index columns 72) >>= λ next. cond (is_same (number_in (drop 73 columns)) (count_of counts next + 1)) (Ok (next, columns)) (Err (fault.BadSequence number))) (next, columns) h in
    let (named, of_letter, last) = both_gave (section_after number before (slice_index found 72)) (λ next. cond (is_same (number_in (drop 73 found)) (count_of counts next + 1)) (Ok (next, found)) (Err (fault.BadSequence number))) (next, columns) more in
    let (same, pair) = no_fault (is_same (number_in (drop 73 found)) (count_of counts named + 1)) (Ok (named, found)) (fault.BadSequence number) (next, columns) last in
    let (section, cols) = same_pair named next found columns pair in
    let (letter, may) = section_takes number before (slice_index found 72) named of_letter in
    let is : IsNext before counts named found line = record {
      columns_of = columns_takes number found line of_line;
      follows = may;
      letter = letter;
      sequence = number_takes (count_of counts named + 1) (drop 73 found) (same_takes (number_in (drop 73 found)) (count_of counts named + 1) same);
    } in
    subst (λ c. IsNext before counts next c line) cols (subst (λ s. IsNext before counts s found line) section is)

-- a line more has a number of seven columns
pub next_below : (before : Option Section) (counts : Counts) (next : Section) (columns line : List ℕ) → IsNext before counts next columns line → count_of counts next < 9999999
next_below before counts next columns line h =
    let seven : length (drop 73 columns) ≡ 7 = omega (arith, length-drop 73 columns, h.columns_of.eighty) in
    let below = number_below (count_of counts next + 1) (drop 73 columns) h.sequence (omega arith) in
    omega (arith, below)

pub few_more : (counts : Counts) (next : Section) → AreFew counts → count_of counts next < 9999999 → AreFew (one_more next counts)
few_more counts section.Start h l = record { start = omega arith; global = h.global; directory = h.directory; parameter = h.parameter }
few_more counts section.Global h l = record { start = h.start; global = omega arith; directory = h.directory; parameter = h.parameter }
few_more counts section.Directory h l = record { start = h.start; global = h.global; directory = omega arith; parameter = h.parameter }
few_more counts section.Parameter h l = record { start = h.start; global = h.global; directory = h.directory; parameter = omega arith }
few_more counts section.Terminate h l = h

-- ---- the terminate line

group_again : (named : Section) (count : ℕ) (columns : List ℕ) → IsGroup named count columns → group_in (letter_of named) columns ≡ Some count
group_again named count columns h =
    ap (group_in (letter_of named)) h.spelt ∙ (rw (same_test (letter_of named)) (number_again count h.field h.number))

group_takes : (named : Section) (count : ℕ) (columns : List ℕ) → group_in (letter_of named) columns ≡ Some count → IsGroup named count columns
group_takes named count [] h = cc
group_takes named count (b ∷ bs) h =
    let (letter, number) = passed (b == letter_of named) (number_in bs) count h in
    record { field = bs; spelt = ap (λ c. c ∷ bs) (test_same b (letter_of named) letter); number = number_takes count bs number }

pub told_again : (counts : Counts) (columns : List ℕ) → HasGroups counts columns → told_in columns ≡ Ok counts
unfolding told_in
told_again counts columns h =
    rw (
      group_again section.Start counts.start _ h.start,
      group_again section.Global counts.global _ h.global,
      group_again section.Directory counts.directory _ h.directory,
      group_again section.Parameter counts.parameter _ h.parameter,
    ) refl

told_all : (s g d p : Option ℕ) (counts : Counts) → told s g d p ≡ Ok counts → (s ≡ Some counts.start) × (g ≡ Some counts.global) × (d ≡ Some counts.directory) × (p ≡ Some counts.parameter)
told_all (Some s) (Some g) (Some d) (Some p) counts h =
    let same : record { start = s; global = g; directory = d; parameter = p } ≡ counts = cc in
    (ap (λ (c : Counts). Some c.start) same, ap (λ (c : Counts). Some c.global) same, ap (λ (c : Counts). Some c.directory) same, ap (λ (c : Counts). Some c.parameter) same)
told_all None g d p counts h = cc
told_all (Some s) None d p counts h = cc
told_all (Some s) (Some g) None p counts h = cc
told_all (Some s) (Some g) (Some d) None counts h = cc

pub told_takes : (counts : Counts) (columns : List ℕ) → told_in columns ≡ Ok counts → HasGroups counts columns
unfolding told_in
told_takes counts columns h =
    let (s, g, d, p) = told_all (group_in 83 (take 8 columns)) (group_in 71 (take 8 (drop 8 columns))) (group_in 68 (take 8 (drop 16 columns))) (group_in 80 (take 8 (drop 24 columns))) counts h in
    record {
      start = group_takes section.Start counts.start _ s;
      global = group_takes section.Global counts.global _ g;
      directory = group_takes section.Directory counts.directory _ d;
      parameter = group_takes section.Parameter counts.parameter _ p;
    }

count_again : (letter : Section) (counts : Counts) → same_count letter counts counts ≡ Ok counts
unfolding same_count
count_again letter counts = rw (same_test (count_of counts letter)) refl

count_takes : (letter : Section) (found told x : Counts) → same_count letter found told ≡ Ok x → count_of told letter ≡ count_of found letter
unfolding same_count
count_takes letter found told x h =
    let (same, is) = no_fault (count_of told letter == count_of found letter) (Ok found) _ x h in
    test_same (count_of told letter) (count_of found letter) same

pub terminated_again : (counts : Counts) (columns : List ℕ) → HasGroups counts columns → terminated counts columns ≡ Ok counts
unfolding terminated
terminated_again counts columns h =
    rw (told_again counts columns h, count_again section.Start counts, count_again section.Global counts, count_again section.Directory counts, count_again section.Parameter counts) refl

all_counts : (found told : Counts) → told.start ≡ found.start → told.global ≡ found.global → told.directory ≡ found.directory → told.parameter ≡ found.parameter → told ≡ found
all_counts found told a b c d =
    let both : record { start = told.start; global = told.global; directory = told.directory; parameter = told.parameter } ≡ record { start = found.start; global = found.global; directory = found.directory; parameter = found.parameter } = (rw (a, b, c, d) refl) in
    both

pub terminated_takes : (found : Counts) (columns : List ℕ) (x : Counts) → terminated found columns ≡ Ok x → HasGroups found columns
unfolding terminated
terminated_takes found columns x h =
    let (told, groups, m1) = both_gave (told_in columns) (λ told. same_count section.Start found told >>= λ _. same_count section.Global found told >>= λ _. same_count section.Directory found told >>= λ _. same_count section.Parameter found told) x h in
    let (s, start, m2) = both_gave (same_count section.Start found told) (λ _. same_count section.Global found told >>= λ _. same_count section.Directory found told >>= λ _. same_count section.Parameter found told) x m1 in
    let (g, global, m3) = both_gave (same_count section.Global found told) (λ _. same_count section.Directory found told >>= λ _. same_count section.Parameter found told) x m2 in
    let (d, directory, parameter) = both_gave (same_count section.Directory found told) (λ _. same_count section.Parameter found told) x m3 in
    let same : told ≡ found = all_counts found told (count_takes section.Start found told s start) (count_takes section.Global found told g global)
    (count_takes section.Directory found told d directory) (count_takes section.Parameter found told x parameter) in
    subst (λ c. HasGroups c columns) same (told_takes told columns groups)
