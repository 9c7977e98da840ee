-- The file that is written of an accepted model is in the fixed form, and is read as that model.
use Rattle.std.proofs.Common.{◌≡◌, ◌≢◌, ℕ, ◌+◌, ◌-◌, ◌*◌, ◌<◌, ◌≤◌, List, [], ◌∷◌, ◌++◌, length, take, drop, replicate, refl, sym, ap, subst, ◌∙◌, arith, inl, append-nil, append_assoc, length-append}
use Rattle.std.specs.List.{AllByRecursion, concat}
use Rattle.std.proofs.lemmas.List.{length-replicate}
use Rattle.solid_base.specs.declared.entities.Entity.{Entity}
use Rattle.solid_base.specs.declared.entities.Model.{Model}
use Rattle.solid_base.specs.Series.{Spells}
use Rattle.solid_base.specs.Texts.{IsOneLine}
use Rattle.solid_base.proofs.Texts.{one_line_joined}
use Rattle.iges_cards.specs.declared.reader.Cards.{Cards}
use Rattle.iges_cards.specs.declared.sections.Counts.{Counts}
use Rattle.iges_cards.specs.declared.sections.Section.{Section}
use Rattle.iges_cards.specs.declared.sections.Section.TheVariants as section
use Rattle.iges_cards.specs.Grammar.{IsCard, AreSections, HasGroups, IsTerminate, counts_of, IsFixedForm}
use Rattle.iges_cards.specs.Sections.{letter_of}
use Rattle.iges_directory.specs.Pairs.{IsDirectory}
use Rattle.iges_parameters.specs.Accepted.{IsAccepted, IsStartLine, lines_of}
use Rattle.iges_write.specs.Cards.{filled, right_aligned, card, cards}
use Rattle.iges_write.specs.CanonicalFile.{global_lines, entry_lines, directory_lines, parameter_lines, group, groups, groups_of, canonical_text}
use Rattle.iges_write.proofs.EntitySteps.{records_count}
use Rattle.iges_write.proofs.FileParts.{entries_count, few_globals, few_parameters, few_entries, sections_joined}
use Rattle.iges_file.specs.Files.{Reads}
use Rattle.iges_file.proofs.WrittenNumbers.{right_width, right_in_line, blanks_in_line}
use Rattle.iges_file.proofs.WrittenCards.{IsText, face, face_width, card_is, filled_whole, kept_of, kept_count, are_cards, kept_whole, is_group, terminate_line, terminate_numbered}
use Rattle.iges_file.proofs.WrittenGlobals.{is_global, global_texts, some_global}
use Rattle.iges_file.proofs.WrittenEntries.{AreParts, five_parts, pairs_of, entry_texts, are_pairs, text_few}
use Rattle.iges_file.proofs.WrittenRecords.{all_records, records_size, entities_back, records_texts, records_kept, all_written, from_the_first}

-- what is kept of the lines of a model's file
abbrev cards_of : Model → Cards
cards_of model = record {
  start = model.start;
  global = concat (global_lines model);
  directory = kept_of 68 80 1 (directory_lines model);
  params = all_records model.comma model.semi model.rows;
  end = length (canonical_text model);
}

-- ---- the sections

start_texts : (lines : List (List ℕ)) → AllByRecursion IsStartLine lines → AllByRecursion IsText lines
start_texts [] h = tt
start_texts (line ∷ lines) h = (record { wide = h.0.0; in_line = h.0.1 }, start_texts lines h.1)

-- cards of which all text columns are kept
whole_cards : (s : Section) (lines : List (List ℕ)) → AllByRecursion IsText lines → length lines ≤ 9999999 → Spells (IsCard s 72) 1 (concat (cards (letter_of s) 1 lines)) lines
whole_cards s lines h few =
    subst (λ (kept : List (List ℕ)). Spells (IsCard s 72) 1 (concat (cards (letter_of s) 1 lines)) kept) (kept_whole (letter_of s) 1 lines h) (are_cards s 72 1 lines h (omega (arith, few)))

abbrev sections_text : Model → List ℕ
sections_text model =
    ((concat (cards 83 1 model.start) ++ concat (cards 71 1 (global_lines model))) ++ concat (cards 68 1 (directory_lines model))) ++ concat (cards 80 1 (parameter_lines model))

directory_texts : (model : Model) → IsAccepted model → AllByRecursion IsText (directory_lines model)
directory_texts model h =
    let c = model.comma in
    let s = model.semi in
    entry_texts c s (lines_of c s model.rows) [] model.rows (all_written c s model.rows h.delimiters h.entities h.few_lines) h.few_lines (omega arith)

parameter_texts : (model : Model) → IsAccepted model → AllByRecursion IsText (parameter_lines model)
parameter_texts model h = records_texts model.comma model.semi [] model.rows h.delimiters h.entities h.few_lines (omega (arith, h.few_entities))

are_sections : (model : Model) → IsAccepted model → AreSections (sections_text model) model.start (global_lines model) (cards_of model).directory (cards_of model).params
are_sections model h =
    let c = model.comma in
    let s = model.semi in
    let few_d = few_entries model h in
    let few_p = few_parameters model h in
    record {
      start_text = concat (cards 83 1 model.start);
      global_text = concat (cards 71 1 (global_lines model));
      directory_text = concat (cards 68 1 (directory_lines model));
      parameter_text = concat (cards 80 1 (parameter_lines model));
      start_lines = whole_cards section.Start model.start (start_texts model.start h.start_lines) h.few_start;
      global_lines = whole_cards section.Global (global_lines model) (global_texts model h) (few_globals model h);
      directory_lines = are_cards section.Directory 80 1 (directory_lines model) (directory_texts model h) (omega (arith, few_d));
      parameter_lines = subst (λ (kept : List (List ℕ)). Spells (IsCard section.Parameter 64) 1 (concat (cards 80 1 (parameter_lines model))) kept) (records_kept c s 1 [] model.rows)
          (are_cards section.Parameter 64 1 (parameter_lines model) (parameter_texts model h) (omega (arith, few_p)));
      spelt = refl;
    }

-- ---- the terminate line

group_size : (letter n : ℕ) → n ≤ 9999999 → length (group letter n) ≡ 8
group_size letter n small = omega (arith, right_width 7 n (omega arith) (omega (arith, small)) (omega (arith, small)))

groups_parts : (a b c d : ℕ) → a ≤ 9999999 → b ≤ 9999999 → c ≤ 9999999 → d ≤ 9999999
    → AreParts (face 84 1 (filled 72 (groups a b c d))) (group 83 a) (group 71 b) (group 68 c) (group 80 d) (replicate (72 - length (groups a b c d)) 32) 8 8 8 8 (72 - length (groups a b c d))
unfolding groups
groups_parts a b c d sa sb sc sd =
    let fill = 72 - length (((group 83 a ++ group 71 b) ++ group 68 c) ++ group 80 d) in
    five_parts (group 83 a) (group 71 b) (group 68 c) (group 80 d) (replicate fill 32) (84 ∷ right_aligned 7 1) 8 8 8 8 fill
    (group_size 83 a sa) (group_size 71 b sb) (group_size 68 c sc) (group_size 80 d sd) (length-replicate fill 32)

group_in_line : (letter n : ℕ) → letter ≢ 10 → n ≤ 9999999 → IsOneLine (group letter n)
group_in_line letter n other small = (other, right_in_line 7 n (omega (arith, small)))

groups_text : (a b c d : ℕ) → a ≤ 9999999 → b ≤ 9999999 → c ≤ 9999999 → d ≤ 9999999 → IsText (filled 72 (groups a b c d))
unfolding groups
groups_text a b c d sa sb sc sd =
    let ab : List ℕ = group 83 a ++ group 71 b in
    let abc : List ℕ = ab ++ group 68 c in
    let all : List ℕ = abc ++ group 80 d in
    let fill = 72 - length all in
    let size : length all ≡ 32 =
    omega (arith, length-append abc (group 80 d), length-append ab (group 68 c), length-append (group 83 a) (group 71 b), group_size 83 a sa, group_size 71 b sb, group_size 68 c sc, group_size 80 d sd) in
    record {
      wide = omega (arith, size, length-append all (replicate fill 32), length-replicate {A = ℕ} fill 32);
      in_line = one_line_joined all (replicate fill 32)
          (one_line_joined abc (group 80 d)
          (one_line_joined ab (group 68 c) (one_line_joined (group 83 a) (group 71 b) (group_in_line 83 a (λ e. absurd (omega (arith, e))) sa) (group_in_line 71 b (λ e. absurd (omega (arith, e))) sb))
          (group_in_line 68 c (λ e. absurd (omega (arith, e))) sc))
          (group_in_line 80 d (λ e. absurd (omega (arith, e))) sd))
          (blanks_in_line fill);
    }

has_groups : (a b c d : ℕ) → a ≤ 9999999 → b ≤ 9999999 → c ≤ 9999999 → d ≤ 9999999
    → HasGroups (record { start = a; global = b; directory = c; parameter = d }) (face 84 1 (filled 72 (groups a b c d)))
has_groups a b c d sa sb sc sd =
    let parts = groups_parts a b c d sa sb sc sd in
    let columns = face 84 1 (filled 72 (groups a b c d)) in
    record {
      start = is_group section.Start a (take 8 columns) sa parts.first;
      global = is_group section.Global b (take 8 (drop 8 columns)) sb parts.second;
      directory = is_group section.Directory c (take 8 (drop 16 columns)) sc parts.third;
      parameter = is_group section.Parameter d (take 8 (drop 24 columns)) sd parts.fourth;
    }

is_terminate : (a b c d : ℕ) (after : List ℕ) → a ≤ 9999999 → b ≤ 9999999 → c ≤ 9999999 → d ≤ 9999999
    → IsTerminate (record { start = a; global = b; directory = c; parameter = d }) (card 84 1 (groups a b c d)) after
is_terminate a b c d after sa sb sc sd =
    let text = groups_text a b c d sa sb sc sd in
    record {
      line = face 84 1 (filled 72 (groups a b c d));
      columns = face 84 1 (filled 72 (groups a b c d));
      is_line = inl (terminate_line (groups a b c d) text);
      numbered = terminate_numbered (groups a b c d) text;
      groups = has_groups a b c d sa sb sc sd;
    }

same_counts : (model : Model) → ◌≡◌ {A = Counts} (record { start = length model.start; global = length (global_lines model); directory = length (directory_lines model); parameter = length (parameter_lines model) })
    (counts_of model.start (global_lines model) (cards_of model).directory (cards_of model).params)
same_counts model =
    let d : length (directory_lines model) ≡ length (cards_of model).directory = sym (kept_count 68 80 1 (directory_lines model)) in
    let p : length (parameter_lines model) ≡ length (cards_of model).params = records_count model.comma model.semi [] model.rows ∙ sym (records_size model.comma model.semi model.rows) in
    ap (λ (n : ℕ). record { start = length model.start; global = length (global_lines model); directory = n; parameter = length (parameter_lines model) }) d
    ∙ ap (λ (n : ℕ). record { start = length model.start; global = length (global_lines model); directory = length (cards_of model).directory; parameter = n }) p

-- ---- the file

directory_first : (comma semi : ℕ) (rows : List Entity) → 0 < length (all_records comma semi rows) → 0 < length (kept_of 68 80 1 (entry_lines comma semi [] rows))
unfolding all_records
directory_first comma semi [] some = absurd (omega arith)
directory_first comma semi (e ∷ es) some = omega (arith, kept_count 68 80 1 (entry_lines comma semi [] (e ∷ es)), entries_count comma semi [] (e ∷ es))

is_fixed_form : (model : Model) (after : List ℕ) → IsAccepted model → IsFixedForm (canonical_text model ++ after) (cards_of model)
is_fixed_form model after h =
    let sections = sections_text model in
    let last = card 84 1 (groups_of model) in
    let few_d = few_entries model h in
    let few_p = few_parameters model h in
    let told = is_terminate (length model.start) (length (global_lines model)) (length (directory_lines model)) (length (parameter_lines model)) after h.few_start (few_globals model h) (omega (arith, few_d)) (omega (arith, few_p)) in
    record {
      globals = global_lines model;
      sections_text = sections;
      terminate_text = last;
      rest = after;
      sections = are_sections model h;
      some_start = h.some_start;
      some_global = some_global model;
      directory_first = directory_first model.comma model.semi model.rows;
      joined = refl;
      terminate = subst (λ (counts : Counts). IsTerminate counts last after) (same_counts model) told;
      spelt = ap (λ (x : List ℕ). x ++ after) (sections_joined model) ∙ append_assoc sections last after;
      end = ap (length {A = ℕ}) (sections_joined model) ∙ length-append sections last;
    }

is_directory : (model : Model) → IsAccepted model → IsDirectory (length (cards_of model).params) (cards_of model).directory (pairs_of model.comma model.semi [] model.rows)
is_directory model h =
    let c = model.comma in
    let s = model.semi in
    let written = all_written c s model.rows h.delimiters h.entities h.few_lines in
    let size = records_size c s model.rows in
    record {
      few = omega (arith, kept_count 68 80 1 (directory_lines model), few_entries model h);
      entries = are_pairs c s (length (all_records c s model.rows)) 1 [] model.rows written (omega (arith, size, h.few_lines)) (omega (arith, size)) (omega (arith, h.few_entities));
      text = omega (arith, text_few c s [] model.rows, h.few_lines);
    }

-- whatever stands after it
pub read_before : (model : Model) (after : List ℕ) → IsAccepted model → Reads (canonical_text model ++ after) model (length (canonical_text model))
read_before model after h =
    let c = model.comma in
    let s = model.semi in
    record {
      cards = cards_of model;
      pairs = pairs_of c s [] model.rows;
      form = is_fixed_form model after h;
      place = refl;
      start = refl;
      globals = is_global model h;
      directory = is_directory model h;
      entities = entities_back c s (all_records c s model.rows) [] model.rows h.delimiters h.entities h.few_lines (from_the_first c s model.rows);
      few = h.few_lines;
      sound = h.references;
    }

pub read_back : (model : Model) → IsAccepted model → Reads (canonical_text model) model (length (canonical_text model))
read_back model h = subst (λ (text : List ℕ). Reads text model (length (canonical_text model))) (append-nil (canonical_text model)) (read_before model [] h)

-- ---- how long the file is

card_size : (letter n : ℕ) (columns : List ℕ) → length columns ≡ 72 → n ≤ 9999999 → length (card letter n columns) ≡ 81
card_size letter n columns wide small =
    let whole = filled_whole columns wide in
    let text = ap (length {A = ℕ}) (card_is letter n columns ∙ ap (λ (x : List ℕ). face letter n x ++ 10 ∷ []) whole) in
    let joined = length-append (face letter n columns) (10 ∷ []) in
    let width = face_width letter n columns wide small in
    omega (arith, text, joined, width)

cards_size : (letter n : ℕ) (lines : List (List ℕ)) → AllByRecursion IsText lines → n + length lines ≤ 10000000 → length (concat (cards letter n lines)) ≡ 81 * length lines
unfolding cards
cards_size letter n [] h few = refl
cards_size letter n (columns ∷ lines) h few =
    let joined = length-append (card letter n columns) (concat (cards letter (n + 1) lines)) in
    let first = card_size letter n columns h.0.wide (omega (arith, few)) in
    let more = cards_size letter (n + 1) lines h.1 (omega (arith, few)) in
    omega (arith, joined, first, more)

-- each line takes 81 bytes
pub written_size : (model : Model) → IsAccepted model
    → length (canonical_text model) ≡ 81 * (length model.start + length (global_lines model) + length (directory_lines model) + length (parameter_lines model) + 1)
written_size model h =
    let few_s = h.few_start in
    let few_g = few_globals model h in
    let few_d = few_entries model h in
    let few_p = few_parameters model h in
    let start = concat (cards 83 1 model.start) in
    let global = concat (cards 71 1 (global_lines model)) in
    let directory = concat (cards 68 1 (directory_lines model)) in
    let parameter = concat (cards 80 1 (parameter_lines model)) in
    let last = card 84 1 (groups_of model) in
    let a = cards_size 83 1 model.start (start_texts model.start h.start_lines) (omega (arith, few_s)) in
    let b = cards_size 71 1 (global_lines model) (global_texts model h) (omega (arith, few_g)) in
    let c = cards_size 68 1 (directory_lines model) (directory_texts model h) (omega (arith, few_d)) in
    let d = cards_size 80 1 (parameter_lines model) (parameter_texts model h) (omega (arith, few_p)) in
    let text = groups_text (length model.start) (length (global_lines model)) (length (directory_lines model)) (length (parameter_lines model)) few_s few_g (omega (arith, few_d)) (omega (arith, few_p)) in
    let e = ap (length {A = ℕ}) (card_is 84 1 (groups_of model)) ∙ length-append (face 84 1 (filled 72 (groups_of model))) (10 ∷ []) in
    let width = face_width 84 1 (filled 72 (groups_of model)) text.wide (omega arith) in
    let whole = ap (length {A = ℕ}) (sections_joined model) ∙ length-append (sections_text model) last in
    let one = length-append ((start ++ global) ++ directory) parameter in
    let two = length-append (start ++ global) directory in
    let three = length-append start global in
    omega (arith, a, b, c, d, e, width, whole, one, two, three)
