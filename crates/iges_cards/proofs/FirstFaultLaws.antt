-- The reading gives a fault exactly where it is the first one of the bytes, and there is one alone.
use Rattle.std.proofs.Common.{◌≡◌, ℕ, ◌+◌, ◌⊎◌, inl, inr, List, [], ◌∷◌, ◌++◌, Bool, true, false}
use Rattle.std.proofs.Common.{cond, ◌==◌, length, take, map, Some, Result, Ok, Err, refl, sym}
use Rattle.std.proofs.Common.{ap, subst, ◌∙◌, arith, append_assoc, append-nil, length-append}
use Rattle.iges_cards.specs.declared.faults.CardFault.{CardFault}
use Rattle.iges_cards.specs.declared.faults.CardFault.TheVariants as fault
use Rattle.iges_cards.specs.declared.reader.Cards.{Cards}
use Rattle.iges_cards.specs.declared.sections.Counts.{Counts}
use Rattle.iges_cards.specs.declared.sections.Section.{Section}
use Rattle.iges_cards.specs.declared.sections.Section.TheVariants as section
use Rattle.iges_cards.specs.Checks.{card_in, terminated}
use Rattle.iges_cards.specs.FirstFault.{card_columns, letter_in, last_section, lines_with}
use Rattle.iges_cards.specs.FirstFault.{file_lines}
use Rattle.iges_cards.specs.FirstFault.{IsTerminateLine, IsFirstDefect, StandsAfter}
use Rattle.iges_cards.specs.FirstFault.{AreFaultless, IsFaultOfLine, IsFaultOfEnd, IsCardFault}
use Rattle.iges_cards.specs.Lines.{line_texts, line_of}
use Rattle.iges_cards.specs.Reading.{keep, no_cards, read_from, cards_in}
use Rattle.iges_cards.specs.Sections.{letter_of, section_of, is_terminate, one_more, lines_in}
use Rattle.iges_cards.specs.Sections.{width_of}
use Rattle.iges_cards.specs.Words.{IsOfText}
use Rattle.iges_cards.proofs.CardLaws.{named_again}
use Rattle.iges_cards.proofs.DefectLaws.{Checked, HasNamed, IsGood, counts_in, card_checked}
use Rattle.iges_cards.proofs.DefectLaws.{terminated_checked}
use Rattle.iges_cards.proofs.Defects.{HasNoDefect, not_at_end, first_defect_once, defect_of_text}
use Rattle.iges_cards.proofs.Steps.{is_last, reads_on, reads_end, reads_fault, reads_count_fault}

-- ---- one line more

-- two lists with an item between them are a list with one item after it
last_or_before : (front before : List (List ℕ)) (line next : List ℕ) (after : List (List ℕ))
    → front ++ next ∷ [] ≡ before ++ line ∷ after
    → ((before ≡ front) × (line ≡ next)) ⊎ StandsAfter front before line
last_or_before [] [] line next after e = let same : next ≡ line = cc in inl (refl, sym same)
last_or_before [] (x ∷ before) line next after e =
    let no : [] ≡ before ++ line ∷ after = cc in
    absurd (omega (arith, ap length no, length-append before (line ∷ after)))
last_or_before (f ∷ front) [] line next after e =
    let same : f ≡ line = cc in
    inr (front, ap (λ (l : List ℕ). l ∷ front) same)
last_or_before (f ∷ front) (x ∷ before) line next after e =
    let same : f ≡ x = cc in
    let rest : front ++ next ∷ [] ≡ before ++ line ∷ after = cc in
    put_back same (last_or_before front before line next after rest) where
      put_back : f ≡ x → ((before ≡ front) × (line ≡ next)) ⊎ StandsAfter front before line
          → ((x ∷ before ≡ f ∷ front) × (line ≡ next)) ⊎ StandsAfter (f ∷ front) (x ∷ before) line
      put_back s (inl h) = inl (rw (s, h.0) refl, h.1)
      put_back s (inr h) = inr (h.0, rw (s, h.1) refl)

no_defect_more : (front before : List (List ℕ)) (line next : List ℕ)
    → ((before ≡ front) × (line ≡ next)) ⊎ StandsAfter front before line → AreFaultless front
    → HasNoDefect front next → HasNoDefect before line
no_defect_more front before line next (inl e) h k =
    subst (λ b. HasNoDefect b line) (sym e.0) (subst (HasNoDefect front) (sym e.1) k)
no_defect_more front before line next (inr s) h k = h.without_defect before line s

not_ended_more : (front before : List (List ℕ)) (line next : List ℕ)
    → ((before ≡ front) × (line ≡ next)) ⊎ StandsAfter front before line → AreFaultless front
    → ¬ IsTerminateLine next → ¬ IsTerminateLine line
not_ended_more front before line next (inl e) h k t = k (subst IsTerminateLine e.1 t)
not_ended_more front before line next (inr s) h k t = h.not_ended before line s t

faultless_more : (front : List (List ℕ)) (next : List ℕ) → AreFaultless front
    → HasNoDefect front next → ¬ IsTerminateLine next → AreFaultless (front ++ next ∷ [])
faultless_more front next h clear plain = record {
  without_defect = λ before line s f.
      no_defect_more front before line next (last_or_before front before line next s.0 s.1) h clear
      f;
  not_ended = λ before line s.
      not_ended_more front before line next (last_or_before front before line next s.0 s.1) h plain;
}

last_more : (front : List (List ℕ)) (line : List ℕ)
    → last_section (front ++ line ∷ []) ≡ section_of (letter_in line)
last_more [] line = refl
last_more (x ∷ []) line = refl
last_more (x ∷ y ∷ front) line = last_more (y ∷ front) line

with_more : (named : Section) (front : List (List ℕ)) (line : List ℕ)
    → lines_with named (front ++ line ∷ [])
    ≡ cond (letter_in line == letter_of named) (lines_with named front + 1) (lines_with named front)
with_more named [] line = refl
with_more named (x ∷ front) line =
    ap (λ n. cond (letter_in x == letter_of named) (n + 1) n) (with_more named front line)
    ∙ exchanged (letter_in x == letter_of named) (letter_in line == letter_of named) where
      exchanged : (v w : Bool) →
          cond v (cond w (lines_with named front + 1) (lines_with named front) + 1)
          (cond w (lines_with named front + 1) (lines_with named front))
          ≡ cond w (cond v (lines_with named front + 1) (lines_with named front) + 1)
          (cond v (lines_with named front + 1) (lines_with named front))
      exchanged true true = refl
      exchanged true false = refl
      exchanged false true = refl
      exchanged false false = refl

with_letter : (named next : Section) (front : List (List ℕ)) (line : List ℕ)
    → letter_in line ≡ letter_of next
    → lines_with named (front ++ line ∷ [])
    ≡ cond (letter_of next == letter_of named) (lines_with named front + 1) (lines_with named front)
with_letter named next front line e =
    with_more named front line
    ∙ ap (λ l. cond (l == letter_of named) (lines_with named front + 1) (lines_with named front)) e

counts_more : (next : Section) (front : List (List ℕ)) (line : List ℕ)
    → letter_in line ≡ letter_of next
    → counts_in (front ++ line ∷ []) ≡ one_more next (counts_in front)
counts_more next front line e =
    rw (
      with_letter section.Start next front line e,
      with_letter section.Global next front line e,
      with_letter section.Directory next front line e,
      with_letter section.Parameter next front line
          e,
    ) (by_section next) where
      by_section : (s : Section) →
          record {
            start = cond (letter_of s == 83) (lines_with section.Start front + 1)
                (lines_with section.Start front);
            global = cond (letter_of s == 71) (lines_with section.Global front + 1)
                (lines_with section.Global front);
            directory = cond (letter_of s == 68) (lines_with section.Directory front + 1)
                (lines_with section.Directory front);
            parameter = cond (letter_of s == 80) (lines_with section.Parameter front + 1)
                (lines_with section.Parameter front);
          } ≡ one_more s (counts_in front)
      by_section section.Start = refl
      by_section section.Global = refl
      by_section section.Directory = refl
      by_section section.Parameter = refl
      by_section section.Terminate = refl

total_more : (next : Section) (c : Counts) → is_terminate next ≡ false
    → lines_in (one_more next c) ≡ lines_in c + 1
total_more section.Terminate c h = cc
total_more section.Start c h = omega arith
total_more section.Global c h = omega arith
total_more section.Directory c h = omega arith
total_more section.Parameter c h = omega arith

unended_more : (next : Section) (front : List (List ℕ)) (line : List ℕ)
    → letter_in line ≡ letter_of next → is_terminate next ≡ false
    → lines_with section.Terminate (front ++ line ∷ []) ≡ lines_with section.Terminate front
unended_more section.Terminate front line e h = cc
unended_more section.Start front line e h = with_letter section.Terminate section.Start front line e
unended_more section.Global front line e h =
    with_letter section.Terminate section.Global front line e
unended_more section.Directory front line e h =
    with_letter section.Terminate section.Directory front line e
unended_more section.Parameter front line e h =
    with_letter section.Terminate section.Parameter front line e

-- ---- lines in front, and the one after them

-- lines without a fault in front of the terminate line
pub record AreInFront (front : List (List ℕ)) : Type 0 where
  pub named : HasNamed front
  pub unended : lines_with section.Terminate front ≡ 0
  pub total : lines_in (counts_in front) ≡ length front
  pub faultless : AreFaultless front

none_in_front : AreInFront []
none_in_front = record {
  named = inl refl;
  unended = refl;
  total = refl;
  faultless = record {
    without_defect = λ before line s. absurd
        (omega (arith, ap length s.1, length-append before (line ∷ s.0)));
    not_ended = λ before line s. absurd
        (omega (arith, ap length s.1, length-append before (line ∷ s.0)));
  };
}

in_front_more : (front : List (List ℕ)) (line : List ℕ) (next : Section) → AreInFront front
    → letter_in line ≡ letter_of next → is_terminate next ≡ false → HasNoDefect front line
    → ¬ IsTerminateLine line → AreInFront (front ++ line ∷ [])
in_front_more front line next h e plain clear going = record {
  named = inr (next, last_more front line ∙ ap section_of e ∙ named_again next);
  unended = unended_more next front line e plain ∙ h.unended;
  total = ap lines_in (counts_more next front line e) ∙ total_more next (counts_in front) plain
      ∙ ap (λ n. n + 1) h.total ∙ sym (length-append front (line ∷ []));
  faultless = faultless_more front line h.faultless clear going;
}

-- the reading after these lines
abbrev reading : List (List ℕ) → Cards → ℕ → List (List ℕ) → Result Cards CardFault
reading front cards place texts = read_from (last_section front) (counts_in front) cards place texts

-- what comes of a line
data IsOutcome (front : List (List ℕ)) (cards : Cards) (place : ℕ) (text : List ℕ)
    (texts : List (List ℕ)) : Type 0 where
  Stops : (f : CardFault) → IsFirstDefect front (line_of text) f
      → reading front cards place (text ∷ texts) ≡ Err f → IsOutcome front cards place text texts
  Ends : (c : Cards) → HasNoDefect front (line_of text) → IsTerminateLine (line_of text)
      → reading front cards place (text ∷ texts) ≡ Ok c → IsOutcome front cards place text texts
  Goes : (c : Cards) (p : ℕ) → HasNoDefect front (line_of text) → ¬ IsTerminateLine (line_of text)
      → AreInFront (front ++ line_of text ∷ [])
      → reading front cards place (text ∷ texts) ≡ reading (front ++ line_of text ∷ []) c p texts
      → IsOutcome front cards place text texts

at_end : (front : List (List ℕ)) (cards : Cards) (place : ℕ) (text : List ℕ)
    (texts : List (List ℕ)) (r : Result Counts CardFault) → IsTerminateLine (line_of text)
    → card_in (last_section front) (counts_in front) (line_of text)
    ≡ Ok (section.Terminate, card_columns (line_of text))
    → terminated (counts_in front) (card_columns (line_of text)) ≡ r
    → Checked front (line_of text) (λ (_ : Counts). HasNoDefect front (line_of text)) r
    → IsOutcome front cards place text texts
at_end front cards place text texts (Ok x) t card e h =
    Ends (record cards { end = place + length text }) h t
    (reads_end (last_section front) (counts_in front) cards place text texts
    (card_columns (line_of text)) x card e)
at_end front cards place text texts (Err f) t card e h =
    Stops f h (reads_count_fault (last_section front) (counts_in front) cards place text texts
    (card_columns (line_of text)) f card e)

not_terminate : (next : Section) (line : List ℕ) → is_terminate next ≡ false
    → letter_in line ≡ letter_of next → ¬ IsTerminateLine line
not_terminate section.Terminate line h e t = cc
not_terminate section.Start line h e t = absurd (omega (arith, e, t))
not_terminate section.Global line h e t = absurd (omega (arith, e, t))
not_terminate section.Directory line h e t = absurd (omega (arith, e, t))
not_terminate section.Parameter line h e t = absurd (omega (arith, e, t))

by_section : (front : List (List ℕ)) (cards : Cards) (place : ℕ) (text : List ℕ)
    (texts : List (List ℕ)) (next : Section) (columns : List ℕ) (v : Bool) → is_terminate next ≡ v
    → AreInFront front
    → card_in (last_section front) (counts_in front) (line_of text) ≡ Ok (next, columns)
    → IsGood front (line_of text) (next, columns) → IsOutcome front cards place text texts
by_section front cards place text texts next columns true e h card good =
    let line = line_of text in
    let last : next ≡ section.Terminate = is_last next e in
    let t : IsTerminateLine line = good.1.letter ∙ ap letter_of last in
    let here : card_in (last_section front) (counts_in front) line
    ≡ Ok (section.Terminate, card_columns line) =
    card ∙ ap (λ (s : Section). Ok (s, columns)) last
    ∙ ap (λ (c : List ℕ). Ok (section.Terminate, c)) good.0 in
    at_end front cards place text texts (terminated (counts_in front) (card_columns line)) t here
    refl
    (terminated_checked front line t good.2)
by_section front cards place text texts next columns false e h card good =
    let line = line_of text in
    let letter = good.1.letter in
    let going = not_terminate next line e letter in
    let clear = not_at_end front line good.2 going in
    let kept = keep next (take (width_of next) columns) cards in
    let after = place + length text in
    let last : last_section (front ++ line ∷ []) ≡ Some next =
    last_more front line ∙ ap section_of letter ∙ named_again next in
    Goes kept after clear going (in_front_more front line next h letter e clear going)
    (reads_on (last_section front) (counts_in front) cards place text texts next columns e card
    ∙ ap (λ b. read_from b (one_more next (counts_in front)) kept after texts) (sym last)
    ∙ ap (λ c. read_from (last_section (front ++ line ∷ [])) c kept after texts)
    (sym (counts_more next front line letter)))

by_card : (front : List (List ℕ)) (cards : Cards) (place : ℕ) (text : List ℕ)
    (texts : List (List ℕ)) (r : Result (Section × List ℕ) CardFault) → AreInFront front
    → card_in (last_section front) (counts_in front) (line_of text) ≡ r
    → Checked front (line_of text) (IsGood front (line_of text)) r
    → IsOutcome front cards place text texts
by_card front cards place text texts (Ok card) h e good =
    by_section front cards place text texts card.0 card.1 (is_terminate card.0) refl h e good
by_card front cards place text texts (Err f) h e first =
    Stops f first (reads_fault (last_section front) (counts_in front) cards place text texts f e)

outcome : (front : List (List ℕ)) (cards : Cards) (place : ℕ) (text : List ℕ)
    (texts : List (List ℕ)) → AreInFront front → IsOutcome front cards place text texts
outcome front cards place text texts h =
    by_card front cards place text texts
    (card_in (last_section front) (counts_in front) (line_of text)) h refl
    (card_checked front (line_of text) h.named h.unended h.total)

-- ---- the fault that is read is the first one

abbrev IsFault : List (List ℕ) → CardFault → Type 0
IsFault lines f = IsFaultOfLine lines f ⊎ IsFaultOfEnd lines f

found_there : (front : List (List ℕ)) (cards : Cards) (place : ℕ) (text : List ℕ)
    (texts : List (List ℕ)) (f : CardFault) → IsOutcome front cards place text texts
    → AreInFront front → reading front cards place (text ∷ texts) ≡ Err f
    → ((c : Cards) (p : ℕ) → AreInFront (front ++ line_of text ∷ [])
    → reading (front ++ line_of text ∷ []) c p texts ≡ Err f
    → IsFault ((front ++ line_of text ∷ []) ++ map line_of texts) f)
    → IsFault (front ++ line_of text ∷ map line_of texts) f
found_there front cards place text texts f (Stops g first read) h e k =
    let is : g ≡ f = cc in
    inl (record {
      before = front;
      line = line_of text;
      stands = (map line_of texts, refl);
      faultless = h.faultless;
      first = subst (IsFirstDefect front (line_of text)) is first;
    })
found_there front cards place text texts f (Ends c clear t read) h e k = cc
found_there front cards place text texts f (Goes c p clear going more read) h e k =
    subst (λ l. IsFault l f) (append_assoc front (line_of text ∷ []) (map line_of texts))
    (k c p more (sym read ∙ e))

found : (texts front : List (List ℕ)) (cards : Cards) (place : ℕ) (f : CardFault)
    → AreInFront front → reading front cards place texts ≡ Err f
    → IsFault (front ++ map line_of texts) f
unfolding read_from
found [] front cards place f h e =
    let is : fault.NoTerminate ≡ f = cc in
    inr (record {
      faultless = subst AreFaultless (sym (append-nil front)) h.faultless;
      is =
          sym is;
    })
found (text ∷ texts) front cards place f h e =
    found_there front cards place text texts f (outcome front cards place text texts h) h e
    (λ c p more read. found texts (front ++ line_of text ∷ []) c p f more read)

-- ---- the first fault is the one that is read

stops_there : (front : List (List ℕ)) (cards : Cards) (place : ℕ) (text : List ℕ)
    (texts : List (List ℕ)) (f : CardFault) → IsOutcome front cards place text texts
    → IsFirstDefect front (line_of text) f → reading front cards place (text ∷ texts) ≡ Err f
stops_there front cards place text texts f (Stops g first read) h =
    read ∙ ap Err (first_defect_once front (line_of text) g f first h)
stops_there front cards place text texts f (Ends c clear t read) h = absurd (clear f h.holds)
stops_there front cards place text texts f (Goes c p clear going more read) h =
    absurd (clear f h.holds)

-- a line without a fault that is no terminate line is read over
goes_over : (front : List (List ℕ)) (cards : Cards) (place : ℕ) (text : List ℕ)
    (texts : List (List ℕ)) (f : CardFault) → IsOutcome front cards place text texts
    → HasNoDefect front (line_of text) → ¬ IsTerminateLine (line_of text)
    → ((c : Cards) (p : ℕ) → AreInFront (front ++ line_of text ∷ [])
    → reading (front ++ line_of text ∷ []) c p texts ≡ Err f)
    → reading front cards place (text ∷ texts) ≡ Err f
goes_over front cards place text texts f (Stops g first read) clear going k =
    absurd (clear g first.holds)
goes_over front cards place text texts f (Ends c none t read) clear going k = absurd (going t)
goes_over front cards place text texts f (Goes c p none still more read) clear going k =
    read ∙ k c p more

read_at_end : (texts front : List (List ℕ)) (cards : Cards) (place : ℕ) → AreInFront front
    → AreFaultless (front ++ map line_of texts)
    → reading front cards place texts ≡ Err fault.NoTerminate
unfolding read_from
read_at_end [] front cards place h all = refl
read_at_end (text ∷ texts) front cards place h all =
    let stands : StandsAfter (front ++ line_of text ∷ map line_of texts) front (line_of text) =
    (map line_of texts, refl) in
    goes_over front cards place text texts fault.NoTerminate
    (outcome front cards place text texts h)
    (all.without_defect front (line_of text) stands) (all.not_ended front (line_of text) stands)
    (λ c p more.
    read_at_end texts (front ++ line_of text ∷ []) c p more
    (subst AreFaultless (sym (append_assoc front (line_of text ∷ []) (map line_of texts))) all))

read_at_line : (texts mid front : List (List ℕ)) (cards : Cards) (place : ℕ) (line : List ℕ)
    (after : List (List ℕ)) (f : CardFault) → AreInFront front
    → map line_of texts ≡ mid ++ line ∷ after → AreFaultless (front ++ mid)
    → IsFirstDefect (front ++ mid) line f → reading front cards place texts ≡ Err f
read_at_line [] mid front cards place line after f h e all first =
    absurd (omega (arith, ap length e, length-append mid (line ∷ after)))
read_at_line (text ∷ texts) [] front cards place line after f h e all first =
    let same : line_of text ≡ line = cc in
    let here = subst (λ b. IsFirstDefect b line f) (append-nil front) first in
    stops_there front cards place text texts f (outcome front cards place text texts h)
    (subst (λ l. IsFirstDefect front l f) (sym same) here)
read_at_line (text ∷ texts) (m ∷ mid) front cards place line after f h e all first =
    let same : line_of text ≡ m = cc in
    let rest : map line_of texts ≡ mid ++ line ∷ after = cc in
    let seam : (front ++ line_of text ∷ []) ++ mid ≡ front ++ m ∷ mid =
    append_assoc front (line_of text ∷ []) mid ∙ ap (λ l. front ++ l ∷ mid) same in
    let stands : StandsAfter (front ++ m ∷ mid) front (line_of text) =
    (mid, ap (λ l. front ++ l ∷ mid) (sym same)) in
    goes_over front cards place text texts f (outcome front cards place text texts h)
    (all.without_defect front (line_of text) stands) (all.not_ended front (line_of text) stands)
    (λ c p more.
    read_at_line texts mid (front ++ line_of text ∷ []) c p line after f more rest
    (subst AreFaultless (sym seam) all) (subst (λ b. IsFirstDefect b line f) (sym seam) first))

-- ---- the laws

pub fault_found : (bytes : List ℕ) (f : CardFault) → cards_in bytes ≡ Err f → IsCardFault bytes f
unfolding cards_in
fault_found bytes f e = found (line_texts bytes) [] no_cards 0 f none_in_front e

by_place : (bytes : List ℕ) (f : CardFault) → IsFault (file_lines bytes) f
    → reading [] no_cards 0 (line_texts bytes) ≡ Err f
by_place bytes f (inl h) =
    read_at_line (line_texts bytes) h.before [] no_cards 0 h.line h.stands.0 f none_in_front
    h.stands.1 h.faultless h.first
by_place bytes f (inr h) =
    read_at_end (line_texts bytes) [] no_cards 0 none_in_front h.faultless ∙ ap Err (sym h.is)

pub fault_read : (bytes : List ℕ) (f : CardFault) → IsCardFault bytes f → cards_in bytes ≡ Err f
unfolding cards_in
fault_read bytes f h = by_place bytes f h

pub one_fault : (bytes : List ℕ) (f g : CardFault) → IsCardFault bytes f → IsCardFault bytes g
    → f ≡ g
one_fault bytes f g h k =
    let both : ◌≡◌ {A = Result Cards CardFault} (Err f) (Err g) =
    sym (fault_read bytes f h) ∙ fault_read bytes g k in
    cc

pub fault_of_text : (bytes : List ℕ) (f : CardFault) → IsCardFault bytes f → IsOfText f
fault_of_text bytes f (inl h) = defect_of_text h.before h.line f h.first.holds
fault_of_text bytes f (inr h) = subst IsOfText (sym h.is) (λ e. omega arith)
