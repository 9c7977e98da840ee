-- What the cards of a file keep: how many lines there are, how wide they are, and that none has a line feed.
use Rattle.std.proofs.Common.{◌≡◌, ℕ, suc, ◌≤◌, List, [], ◌∷◌, length, take, drop, sym, ap, subst, ◌∙◌, arith, length-take-le}
use Rattle.std.specs.List.{AllByRecursion}
use Rattle.std.proofs.lemmas.List.{take-append-drop, length-take}
use Rattle.solid_base.specs.Series.{Spells}
use Rattle.solid_base.specs.Texts.{IsOneLine}
use Rattle.iges_cards.specs.declared.reader.Cards.{Cards}
use Rattle.iges_cards.specs.declared.sections.Section.{Section}
use Rattle.iges_cards.specs.declared.sections.Section.TheVariants as section
use Rattle.iges_cards.specs.Grammar.{IsCard, IsGroup, IsFixedForm}
use Rattle.iges_cards.specs.Kept.{AreWide, NoneHasFeed, AreKept}
use Rattle.solid_base.proofs.Texts.{one_line_front, one_line_of_all}
use Rattle.iges_cards.proofs.NumberLaws.{number_below}

-- ---- one card
card_wide : (letter : Section) (width n : ℕ) (text kept : List ℕ) → width ≤ 80 → IsCard letter width n text kept → length kept ≡ width
card_wide letter width n text kept most h =
    ap (length {A = ℕ}) h.kept_columns ∙ length-take-le width h.columns (omega (arith, most, h.numbered.columns_of.eighty))

card_plain : (letter : Section) (width n : ℕ) (text kept : List ℕ) → IsCard letter width n text kept → IsOneLine kept
card_plain letter width n text kept h =
    let c = h.numbered.columns_of in
    let columns : IsOneLine h.columns = one_line_front h.columns c.tail (subst IsOneLine c.spelt h.is_line.one_line) in
    let front : IsOneLine (take width h.columns) =
    one_line_front (take width h.columns) (drop width h.columns) (subst IsOneLine (sym (take-append-drop width h.columns)) columns) in
    subst IsOneLine (sym h.kept_columns) front

-- ---- all cards of a section
cards_wide : (letter : Section) (width k : ℕ) (text : List ℕ) (cards : List (List ℕ)) → width ≤ 80 → Spells (IsCard letter width) k text cards → AreWide width cards
cards_wide letter width k text [] most h = tt
cards_wide letter width k text (card ∷ cards) most (first, more, cut, one, rest) =
    (card_wide letter width k first card most one, cards_wide letter width (suc k) more cards most rest)

cards_plain : (letter : Section) (width k : ℕ) (text : List ℕ) (cards : List (List ℕ)) → Spells (IsCard letter width) k text cards → NoneHasFeed cards
cards_plain letter width k text [] h = tt
cards_plain letter width k text (card ∷ cards) (first, more, cut, one, rest) =
    (card_plain letter width k first card one, cards_plain letter width (suc k) more cards rest)

both_each : (width : ℕ) (lines : List (List ℕ)) → AreWide width lines → NoneHasFeed lines → AllByRecursion (λ line. (length line ≡ width) × IsOneLine line) lines
both_each width [] h k = tt
both_each width (line ∷ lines) h k = ((h.0, k.0), both_each width lines h.1 k.1)

-- ---- how many there are, by the terminate line
group_below : (letter : Section) (count : ℕ) (columns : List ℕ) → IsGroup letter count columns → length columns ≤ 8 → count ≤ 9999999
group_below letter count columns h short =
    let size = ap (length {A = ℕ}) h.spelt in
    number_below count h.field h.number (omega (arith, size, short))

eight : (columns : List ℕ) → length (take 8 columns) ≤ 8
eight columns = omega (arith, length-take 8 columns)

pub cards_are_kept : (bytes : List ℕ) (cards : Cards) → IsFixedForm bytes cards → AreKept cards
cards_are_kept bytes cards h =
    let s = h.sections in
    let groups = h.terminate.groups in
    let columns = h.terminate.columns in
    record {
      some_start = h.some_start;
      few_start = group_below section.Start (length cards.start) (take 8 columns) groups.start (eight columns);
      few_directory = group_below section.Directory (length cards.directory) (take 8 (drop 16 columns)) groups.directory (eight (drop 16 columns));
      few_params = group_below section.Parameter (length cards.params) (take 8 (drop 24 columns)) groups.parameter (eight (drop 24 columns));
      start = both_each 72 cards.start (cards_wide section.Start 72 1 s.start_text cards.start (omega arith) s.start_lines) (cards_plain section.Start 72 1 s.start_text cards.start s.start_lines);
      directory_wide = cards_wide section.Directory 80 1 s.directory_text cards.directory (omega arith) s.directory_lines;
      params_wide = cards_wide section.Parameter 64 1 s.parameter_text cards.params (omega arith) s.parameter_lines;
      global = subst IsOneLine (sym h.joined) (one_line_of_all h.globals (cards_plain section.Global 72 1 s.global_text h.globals s.global_lines));
      directory_plain = cards_plain section.Directory 80 1 s.directory_text cards.directory s.directory_lines;
      params_plain = cards_plain section.Parameter 64 1 s.parameter_text cards.params s.parameter_lines;
    }
