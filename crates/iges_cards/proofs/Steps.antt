-- How reading goes on from line to line.
use Rattle.std.proofs.Common.{◌≡◌, ℕ, ◌+◌, ◌-◌, ◌≤◌, ◌==◌, List, [], ◌∷◌, true, false, length, take, Option, Some, None, Result, Ok, Err, refl, sym, ap, ◌∙◌, arith, length-append}
use Rattle.iges_cards.specs.declared.faults.CardFault.{CardFault}
use Rattle.iges_cards.specs.declared.faults.CardFault.TheVariants as fault
use Rattle.iges_cards.specs.declared.reader.Cards.{Cards}
use Rattle.iges_cards.specs.declared.sections.Counts.{Counts}
use Rattle.iges_cards.specs.declared.sections.Section.{Section}
use Rattle.iges_cards.specs.declared.sections.Section.TheVariants as section
use Rattle.iges_cards.specs.Checks.{card_in, terminated}
use Rattle.iges_cards.specs.Lines.{IsFirstLine, line_texts, line_of}
use Rattle.iges_cards.specs.Reading.{keep, no_cards, read_from, cards_in}
use Rattle.iges_cards.proofs.CheckLaws.{test_same}
use Rattle.iges_cards.specs.Sections.{width_of, is_terminate, one_more, no_lines}

pub reads_on : (before : Option Section) (counts : Counts) (cards : Cards) (place : ℕ) (text : List ℕ) (texts : List (List ℕ)) (next : Section) (columns : List ℕ) → is_terminate next ≡ false
    → card_in before counts (line_of text) ≡ Ok (next, columns)
    → read_from before counts cards place (text ∷ texts) ≡ read_from (Some next) (one_more next counts) (keep next (take (width_of next) columns) cards) (place + length text) texts
unfolding read_from
reads_on before counts cards place text texts next columns other e = rw (e, other) refl

pub reads_end : (before : Option Section) (counts : Counts) (cards : Cards) (place : ℕ) (text : List ℕ) (texts : List (List ℕ)) (columns : List ℕ) (x : Counts)
    → card_in before counts (line_of text) ≡ Ok (section.Terminate, columns) → terminated counts columns ≡ Ok x
    → read_from before counts cards place (text ∷ texts) ≡ Ok (record cards { end = place + length text })
unfolding read_from
reads_end before counts cards place text texts columns x e t = rw (e, t) refl

pub reads_fault : (before : Option Section) (counts : Counts) (cards : Cards) (place : ℕ) (text : List ℕ) (texts : List (List ℕ)) (f : CardFault)
    → card_in before counts (line_of text) ≡ Err f → read_from before counts cards place (text ∷ texts) ≡ Err f
unfolding read_from
reads_fault before counts cards place text texts f e = rw e refl

pub reads_count_fault : (before : Option Section) (counts : Counts) (cards : Cards) (place : ℕ) (text : List ℕ) (texts : List (List ℕ)) (columns : List ℕ) (f : CardFault)
    → card_in before counts (line_of text) ≡ Ok (section.Terminate, columns) → terminated counts columns ≡ Err f
    → read_from before counts cards place (text ∷ texts) ≡ Err f
unfolding read_from
reads_count_fault before counts cards place text texts columns f e t = rw (e, t) refl

-- ---- the same, as a loop does it over the bytes that are left

pub is_last : (next : Section) → is_terminate next ≡ true → next ≡ section.Terminate
is_last section.Terminate h = refl
is_last section.Start h = cc
is_last section.Global h = cc
is_last section.Directory h = cc
is_last section.Parameter h = cc

-- the place after a line
place_after : (bytes rest line after : List ℕ) → length rest ≤ length bytes → (f : IsFirstLine rest line after) → (length bytes - length rest) + length f.text ≡ length bytes - length after
place_after bytes rest line after within f = omega (arith, ap length f.split, length-append f.text after)

pub goes_on : (bytes rest line after columns : List ℕ) (before : Option Section) (counts : Counts) (cards : Cards) (next : Section) (total : Result Cards CardFault) → length rest ≤ length bytes → IsFirstLine rest line after
    → card_in before counts line ≡ Ok (next, columns) → is_terminate next ≡ false → read_from before counts cards (length bytes - length rest) (line_texts rest) ≡ total
    → read_from (Some next) (one_more next counts) (keep next (take (width_of next) columns) cards) (length bytes - length after) (line_texts after) ≡ total
goes_on bytes rest line after columns before counts cards next total within f e other so_far =
    let place = length bytes - length rest in
    ap (λ p. read_from (Some next) (one_more next counts) (keep next (take (width_of next) columns) cards) p (line_texts after)) (sym (place_after bytes rest line after within f))
    ∙ sym (reads_on before counts cards place f.text (line_texts after) next columns other (ap (card_in before counts) (sym f.without_end) ∙ e))
    ∙ ap (read_from before counts cards place) (sym f.texts) ∙ so_far

pub is_done : (bytes rest line after columns : List ℕ) (before : Option Section) (counts : Counts) (cards : Cards) (next : Section) (x : Counts) (total : Result Cards CardFault) → length rest ≤ length bytes → IsFirstLine rest line after
    → card_in before counts line ≡ Ok (next, columns) → is_terminate next ≡ true → terminated counts columns ≡ Ok x → read_from before counts cards (length bytes - length rest) (line_texts rest) ≡ total
    → total ≡ Ok (record cards { end = length bytes - length after })
is_done bytes rest line after columns before counts cards next x total within f e last t so_far =
    let place = length bytes - length rest in
    let here : card_in before counts (line_of f.text) ≡ Ok (section.Terminate, columns) = ap (card_in before counts) (sym f.without_end) ∙ e ∙ ap (λ (s : Section). Ok (s, columns)) (is_last next last) in
    sym so_far ∙ ap (read_from before counts cards place) f.texts ∙ reads_end before counts cards place f.text (line_texts after) columns x here t
    ∙ ap (λ (p : ℕ). Ok (record cards { end = p })) (place_after bytes rest line after within f)

pub stops : (rest line after : List ℕ) (before : Option Section) (counts : Counts) (cards : Cards) (place : ℕ) (found : CardFault) (total : Result Cards CardFault) → IsFirstLine rest line after
    → card_in before counts line ≡ Err found → read_from before counts cards place (line_texts rest) ≡ total → total ≡ Err found
stops rest line after before counts cards place found total f e so_far =
    sym so_far ∙ ap (read_from before counts cards place) f.texts ∙ reads_fault before counts cards place f.text (line_texts after) found (ap (card_in before counts) (sym f.without_end) ∙ e)

pub stops_at_counts : (rest line after columns : List ℕ) (before : Option Section) (counts : Counts) (cards : Cards) (next : Section) (place : ℕ) (found : CardFault) (total : Result Cards CardFault) → IsFirstLine rest line after
    → card_in before counts line ≡ Ok (next, columns) → is_terminate next ≡ true → terminated counts columns ≡ Err found → read_from before counts cards place (line_texts rest) ≡ total → total ≡ Err found
stops_at_counts rest line after columns before counts cards next place found total f e last t so_far =
    let here : card_in before counts (line_of f.text) ≡ Ok (section.Terminate, columns) = ap (card_in before counts) (sym f.without_end) ∙ e ∙ ap (λ (s : Section). Ok (s, columns)) (is_last next last) in
    sym so_far ∙ ap (read_from before counts cards place) f.texts ∙ reads_count_fault before counts cards place f.text (line_texts after) columns found here t

-- no line is left
pub no_more : (rest : List ℕ) (before : Option Section) (counts : Counts) (cards : Cards) (place : ℕ) (total : Result Cards CardFault) → (length rest == 0) ≡ true → read_from before counts cards place (line_texts rest) ≡ total → total ≡ Err fault.NoTerminate
unfolding read_from line_texts
no_more [] before counts cards place total e so_far = sym so_far
no_more (b ∷ bs) before counts cards place total e so_far = absurd (let no : length (b ∷ bs) ≡ 0 = test_same (length (b ∷ bs)) 0 e in omega arith)

pub starts_with_all : (bytes : List ℕ) → read_from None no_lines no_cards (length bytes - length bytes) (line_texts bytes) ≡ cards_in bytes
unfolding cards_in
starts_with_all bytes =
    let none : length bytes - length bytes ≡ 0 = omega arith in
    ap (λ p. read_from None no_lines no_cards p (line_texts bytes)) none
