-- The written records are read as the entities that they were written of.
use Rattle.std.proofs.Common.{◌≡◌, ◌⊎◌, ℕ, suc, ◌+◌, ◌-◌, ◌*◌, ◌^◌, ◌<◌, ◌≤◌, List, [], ◌∷◌, ◌++◌, Bool, true, false, cond, ◌==◌, length, take, drop, Ok, Err, Result, refl, sym, ap, subst, ◌∙◌, arith, inl, inr, append_assoc, append-nil, length-append}
use Rattle.std.specs.List.{AllByRecursion, concat}
use Rattle.std.proofs.Math.Seq.{take-append_seam, drop-append_seam}
use Rattle.solid_base.specs.declared.entities.Entity.{Entity}
use Rattle.solid_base.specs.declared.entities.Token.{Token}
use Rattle.solid_base.specs.declared.solids.Row.{Row}
use Rattle.solid_base.specs.declared.solids.Row.TheVariants as row
use Rattle.solid_base.specs.Ranges.{IsLawfulRow}
use Rattle.solid_base.specs.Spelling.{before_blanks}
use Rattle.solid_base.specs.Texts.{IsOneLine, blank_attributes}
use Rattle.solid_base.proofs.Texts.{one_line_joined}
use Rattle.iges_fields.specs.Delimiters.{AreDelimiters}
use Rattle.iges_fields.specs.Layout.{AreLines, AreSpelt, AreHeld}
use Rattle.iges_fields.proofs.Lines.{lines_read}
use Rattle.iges_directory.specs.Pairs.{null_pair}
use Rattle.iges_directory.proofs.PairForms.{other_test}
use Rattle.iges_parameters.specs.declared.faults.RowFault.{RowFault}
use Rattle.iges_parameters.specs.declared.faults.RowFault.TheVariants as fault
use Rattle.iges_parameters.specs.Accepted.{IsAcceptedEntity, IsKeptRecord, lines_of}
use Rattle.iges_parameters.specs.RecordFields.{fields_of}
use Rattle.iges_parameters.specs.Records.{record_of}
use Rattle.iges_parameters.specs.Tables.{is_read}
use Rattle.iges_parameters.specs.Writing.{type_of_row, form_of_row, matrix_of_row, tokens_of, kept_text, record_text, IsOfRecord}
use Rattle.iges_parameters.specs.WrittenRows.{IsLaid, IsTailOf}
use Rattle.iges_parameters.proofs.AcceptedRows.{kept_back}
use Rattle.iges_parameters.proofs.WrittenTokens.{tokens_spelt, some_tokens, text_laid, text_kept, lines_back}
use Rattle.iges_write.specs.Cards.{lines_in, right_aligned}
use Rattle.iges_write.specs.CanonicalFile.{record_lines, with_number, records_lines}
use Rattle.iges_write.proofs.EntitySteps.{record_lines_count}
use Rattle.iges_file.specs.Entities.{entity_of, null_entity, kept_entity, with_record, known_entity, entity_with, entity_in, AreEntities}
use Rattle.iges_file.specs.Entities as file
use Rattle.iges_file.proofs.WrittenNumbers.{right_width, right_in_line}
use Rattle.iges_file.proofs.WrittenLines.{record_lines_hold, lines_plain}
use Rattle.iges_file.proofs.WrittenTexts.{tokens_in_line, laid_some, laid_held, laid_in_line}
use Rattle.iges_file.proofs.WrittenCards.{IsText, face, kept_of}
use Rattle.iges_file.proofs.WrittenEntries.{null_or_not, whole_pair, pair_of, pairs_of, IsWritten}

-- ---- the text of a record

-- a row is laid by its tokens, or isn't read
laid_or_kept : (r : Row) → IsLaid r ⊎ ((kind : ℕ) × (form : ℕ) × (matrix : ℕ) × (text : List ℕ) × (r ≡ row.Opaque kind form matrix text))
laid_or_kept row.Null = inl tt
laid_or_kept (row.Opaque kind form matrix text) = inr (kind, form, matrix, text, refl)
laid_or_kept (row.Matrix form affine next) = inl tt
laid_or_kept (row.Prim p matrix) = inl tt
laid_or_kept (row.Tree items matrix) = inl tt
laid_or_kept (row.Assembly items matrix) = inl tt
laid_or_kept (row.Instance child matrix) = inl tt

-- a text that can be written: it isn't empty, and is of one line
pub record IsRecordText (text : List ℕ) : Type 0 where
  pub some : 0 < length text
  pub in_line : IsOneLine text

kept_is_text : (text : List ℕ) → IsOneLine text → IsRecordText (kept_text text)
kept_is_text [] h = record { some = omega arith; in_line = (λ e. absurd (omega (arith, e)), tt) }
kept_is_text (b ∷ text) h = record { some = omega arith; in_line = h }

-- the tokens of a row are held, since its text is
row_held : (comma semi : ℕ) (r : Row) (tail : List Token) → IsLaid r → length (record_text comma semi r tail) < 2 ^ 64 → AreHeld (tokens_of r tail)
row_held comma semi r tail laid_row short =
    laid_held 64 comma semi 0 (tokens_of r tail) (subst (λ (x : List ℕ). length x < 2 ^ 64) (text_laid comma semi r tail laid_row) short)

pub is_record_text : (comma semi : ℕ) (e : Entity) → AreDelimiters comma semi → IsAcceptedEntity e → length (record_text comma semi e.row e.tail) < 2 ^ 64 → IsRecordText (record_text comma semi e.row e.tail)
is_record_text comma semi e law h short = elim (laid_or_kept e.row) [
  | inl laid_row ↦ (
      let ts = tokens_of e.row e.tail in
      let in_line = laid_in_line 64 comma semi 0 ts law (row_held comma semi e.row e.tail laid_row short) (tokens_in_line e.row e.tail h.lawful h.tail_spelt h.tail_in_line) in
      subst IsRecordText (sym (text_laid comma semi e.row e.tail laid_row)) (record { some = laid_some 64 comma semi 0 ts (some_tokens e.row e.tail ts laid_row refl); in_line = in_line }))
  | inr kept ↦ (
      let is = kept.4 in
      let whole = h.kept_where_unread kept.0 kept.1 kept.2 kept.3 is in
      subst IsRecordText (sym (text_kept comma semi e.row kept.0 kept.1 kept.2 kept.3 e.tail is)) (kept_is_text kept.3 whole.one_line))
]

-- ---- a record is read back

read_if : (b : Bool) (x : Result (Row × List Token) RowFault) (y : Row × List Token) → cond b x (Err fault.NotRead) ≡ Ok y → b ≡ true
read_if true x y h = refl
read_if false x y h = cc

-- what is read as a row is of a type that is read
is_known : (kind form matrix : ℕ) (fields : _) (y : Row × List Token) → record_of kind form matrix fields ≡ Ok y → is_read kind form ≡ true
unfolding record_of
is_known kind form matrix fields y h = read_if (is_read kind form) _ y h

row_back : (comma semi : ℕ) (r : Row) (tail : List Token) → AreDelimiters comma semi → IsLawfulRow r → AreSpelt tail → length (record_text comma semi r tail) < 2 ^ 64 → IsLaid r → IsOfRecord r
    → record_of (type_of_row r) (form_of_row r) (matrix_of_row r) (fields_of comma semi (concat (lines_in 64 (record_text comma semi r tail)))) ≡ Ok (r, tail)
row_back comma semi r tail law lawful spelt short laid_row of_record =
    let ts = tokens_of r tail in
    let lines = lines_in 64 (record_text comma semi r tail) in
    let are = subst (λ (x : List ℕ). AreLines 64 x lines) (text_laid comma semi r tail laid_row) (record_lines_hold (record_text comma semi r tail)) in
    let reads = λ (after : List ℕ). lines_read 64 comma semi ts lines after (some_tokens r tail ts laid_row refl) law (tokens_spelt r tail ts lawful spelt refl) (row_held comma semi r tail laid_row short) are in
    lines_back comma semi r tail ts lines lawful refl reads of_record

known_back : (comma semi first count : ℕ) (e : Entity) (text : List ℕ) → record_of (type_of_row e.row) (form_of_row e.row) (matrix_of_row e.row) (fields_of comma semi text) ≡ Ok (e.row, e.tail)
    → entity_with comma semi (whole_pair first count e) text ≡ Ok e
unfolding entity_with
known_back comma semi first count e text h =
    let pair = whole_pair first count e in
    let known = is_known (type_of_row e.row) (form_of_row e.row) (matrix_of_row e.row) (fields_of comma semi text) (e.row, e.tail) h in
    ap (λ (b : Bool). cond b (known_entity comma semi pair text) (Ok (kept_entity pair text))) known
    ∙ ap (with_record pair) h

-- an entity by its parts
pub same_entity : (e : Entity) (r : Row) (attrs : List ℕ) (tail : List Token) → e.row ≡ r → e.attrs ≡ attrs → e.tail ≡ tail → record { row = r; attrs = attrs; tail = tail } ≡ e
same_entity e r attrs tail a b c =
    ap (λ (x : Row). record { row = x; attrs = attrs; tail = tail }) (sym a)
    ∙ ap (λ (x : List ℕ). record { row = e.row; attrs = x; tail = tail }) (sym b)
    ∙ ap (λ (x : List Token). record { row = e.row; attrs = e.attrs; tail = x }) (sym c)

kept_entity_back : (comma semi first count : ℕ) (e : Entity) (text : List ℕ) (kind form matrix : ℕ) (content : List ℕ) → e.row ≡ row.Opaque kind form matrix content → IsKeptRecord kind form content → e.tail ≡ []
    → before_blanks text ≡ content → entity_with comma semi (whole_pair first count e) text ≡ Ok e
unfolding entity_with
kept_entity_back comma semi first count e text kind form matrix content is kept none back =
    let pair = whole_pair first count e in
    let type_is : type_of_row e.row ≡ kind = ap type_of_row is in
    let form_is : form_of_row e.row ≡ form = ap form_of_row is in
    let matrix_is : matrix_of_row e.row ≡ matrix = ap matrix_of_row is in
    let unread : is_read (type_of_row e.row) (form_of_row e.row) ≡ false = ap (λ (k : ℕ). is_read k (form_of_row e.row)) type_is ∙ ap (is_read kind) form_is ∙ kept.not_read in
    let same : row.Opaque (type_of_row e.row) (form_of_row e.row) (matrix_of_row e.row) (before_blanks text) ≡ row.Opaque kind form matrix content =
    ap (λ (k : ℕ). row.Opaque k (form_of_row e.row) (matrix_of_row e.row) (before_blanks text)) type_is
    ∙ ap (λ (k : ℕ). row.Opaque kind k (matrix_of_row e.row) (before_blanks text)) form_is
    ∙ ap (λ (k : ℕ). row.Opaque kind form k (before_blanks text)) matrix_is
    ∙ ap (row.Opaque kind form matrix) back in
    ap (λ (b : Bool). cond b (known_entity comma semi pair text) (Ok (kept_entity pair text))) unread
    ∙ ap Ok (same_entity e (row.Opaque (type_of_row e.row) (form_of_row e.row) (matrix_of_row e.row) (before_blanks text)) e.attrs [] (is ∙ sym same) refl none)

no_tail : (r : Row) (kind form matrix : ℕ) (text : List ℕ) (tail : List Token) → r ≡ row.Opaque kind form matrix text → IsTailOf r tail → tail ≡ []
no_tail r kind form matrix text tail is h = (let there = subst (λ (x : Row). IsTailOf x tail) is h in there)

null_has_no_tail : (r : Row) (tail : List Token) → r ≡ row.Null → IsTailOf r tail → tail ≡ []
null_has_no_tail r tail is h = (let there = subst (λ (x : Row). IsTailOf x tail) is h in there)

of_record_or_null : (r : Row) → IsLaid r → 1 ≤ type_of_row r → IsOfRecord r
of_record_or_null row.Null h some = absurd (omega arith)
of_record_or_null (row.Opaque kind form matrix text) h some = absurd h
of_record_or_null (row.Matrix form affine next) h some = tt
of_record_or_null (row.Prim p matrix) h some = tt
of_record_or_null (row.Tree items matrix) h some = tt
of_record_or_null (row.Assembly items matrix) h some = tt
of_record_or_null (row.Instance child matrix) h some = tt

-- the entity of an entry that isn't null
not_null_back : (comma semi first count : ℕ) (e : Entity) → AreDelimiters comma semi → IsAcceptedEntity e → length (record_text comma semi e.row e.tail) < 2 ^ 64 → 1 ≤ type_of_row e.row
    → entity_with comma semi (whole_pair first count e) (concat (record_lines comma semi e)) ≡ Ok e
not_null_back comma semi first count e law h short some = elim (laid_or_kept e.row) [
  | inl laid_row ↦ known_back comma semi first count e (concat (record_lines comma semi e))
      (row_back comma semi e.row e.tail law h.lawful h.tail_spelt short laid_row (of_record_or_null e.row laid_row some))
  | inr kept ↦ (
      let is = kept.4 in
      let whole = h.kept_where_unread kept.0 kept.1 kept.2 kept.3 is in
      let are = subst (λ (x : List ℕ). AreLines 64 x (record_lines comma semi e)) (text_kept comma semi e.row kept.0 kept.1 kept.2 kept.3 e.tail is) (record_lines_hold (record_text comma semi e.row e.tail)) in
      kept_entity_back comma semi first count e (concat (record_lines comma semi e)) kept.0 kept.1 kept.2 kept.3 is whole (no_tail e.row kept.0 kept.1 kept.2 kept.3 e.tail is h.tail_of_row)
      (kept_back kept.3 (record_lines comma semi e) whole.no_blanks_after are))
]

entity_back : (comma semi first count : ℕ) (params : List (List ℕ)) (e : Entity) → AreDelimiters comma semi → IsAcceptedEntity e → length (record_text comma semi e.row e.tail) < 2 ^ 64
    → take count (drop (first - 1) params) ≡ record_lines comma semi e → entity_in comma semi params (pair_of first count e) ≡ Ok e
unfolding entity_in
entity_back comma semi first count params e law h short lines = elim (null_or_not e.row h.kept_where_unread) [
  | inl null ↦ (
      let zero_type : type_of_row e.row ≡ 0 = ap type_of_row null in
      ap (λ (k : ℕ). entity_in comma semi params (cond (k == 0) null_pair (whole_pair first count e))) zero_type
      ∙ ap Ok (same_entity e row.Null blank_attributes [] null (h.blank_where_null null) (null_has_no_tail e.row e.tail null h.tail_of_row)))
  | inr some ↦ (
      let pair = whole_pair first count e in
      let other : (type_of_row e.row == 0) ≡ false = other_test (type_of_row e.row) 0 (λ z. absurd (omega (arith, z, some))) in
      ap (λ (b : Bool). entity_in comma semi params (cond b null_pair pair)) other
      ∙ ap (λ (b : Bool). cond b (Ok (null_entity pair)) (entity_with comma semi pair (file.text_of params pair))) other
      ∙ ap (λ (ls : List (List ℕ)). entity_with comma semi pair (concat ls)) lines
      ∙ not_null_back comma semi first count e law h short some)
]

-- ---- all records

-- the lines of 64 columns of entities, one after the other
unfoldable pub all_records : ℕ → ℕ → List Entity → List (List ℕ)
all_records comma semi [] = []
all_records comma semi (e ∷ es) = record_lines comma semi e ++ all_records comma semi es

pub records_size : (comma semi : ℕ) (es : List Entity) → length (all_records comma semi es) ≡ lines_of comma semi es
unfolding all_records
records_size comma semi [] = refl
records_size comma semi (e ∷ es) = omega (arith, length-append (record_lines comma semi e) (all_records comma semi es), record_lines_count comma semi e, records_size comma semi es)

records_joined : (comma semi : ℕ) (es fs : List Entity) → all_records comma semi (es ++ fs) ≡ all_records comma semi es ++ all_records comma semi fs
unfolding all_records
records_joined comma semi [] fs = refl
records_joined comma semi (e ∷ es) fs =
    ap (λ (ls : List (List ℕ)). record_lines comma semi e ++ ls) (records_joined comma semi es fs)
    ∙ sym (append_assoc (record_lines comma semi e) (all_records comma semi es) (all_records comma semi fs))

-- the lines of one entity among those of all
lines_found : {X : Type 0} (first count : ℕ) (before here after params : List X) → params ≡ before ++ (here ++ after) → length before ≡ first → length here ≡ count → take count (drop first params) ≡ here
lines_found {X} first count before here after params is front size =
    ap (λ (x : List X). take count (drop first x)) is
    ∙ ap (λ (n : ℕ). take count (drop n (before ++ (here ++ after)))) (sym front)
    ∙ ap (take count) (drop-append_seam before (here ++ after))
    ∙ ap (λ (n : ℕ). take n (here ++ after)) (sym size)
    ∙ take-append_seam here after

pub entities_back : (comma semi : ℕ) (params : List (List ℕ)) (before es : List Entity) → AreDelimiters comma semi → AllByRecursion IsAcceptedEntity es → lines_of comma semi es ≤ 300000
    → params ≡ all_records comma semi before ++ all_records comma semi es → AreEntities comma semi params (pairs_of comma semi before es) es
unfolding pairs_of all_records
entities_back comma semi params before [] law h few is = tt
entities_back comma semi params before (e ∷ es) law h few is =
    let first = lines_of comma semi before + 1 in
    let count = length (record_lines comma semi e) in
    let at : lines_of comma semi before ≡ first - 1 = omega arith in
    let lines : take count (drop (first - 1) params) ≡ record_lines comma semi e =
    ap (λ (n : ℕ). take count (drop n params)) (sym at) ∙ lines_found (lines_of comma semi before) count (all_records comma semi before) (record_lines comma semi e) (all_records comma semi es) params is (records_size comma semi before) refl in
    let one : all_records comma semi (e ∷ []) ≡ record_lines comma semi e = append-nil (record_lines comma semi e) in
    let next : params ≡ all_records comma semi (before ++ e ∷ []) ++ all_records comma semi es =
    is ∙ sym (append_assoc (all_records comma semi before) (record_lines comma semi e) (all_records comma semi es))
    ∙ ap (λ (ls : List (List ℕ)). (all_records comma semi before ++ ls) ++ all_records comma semi es) (sym one)
    ∙ ap (λ (ls : List (List ℕ)). ls ++ all_records comma semi es) (sym (records_joined comma semi before (e ∷ []))) in
    (entity_back comma semi first count params e law h.0 (omega (arith, few)) lines, entities_back comma semi params (before ++ e ∷ []) es law h.1 (omega (arith, few)) next)

-- ---- the lines of records as cards

numbered_texts : (number : ℕ) (lines : List (List ℕ)) → number ≤ 9999999 → AllByRecursion (λ line. length line ≡ 64) lines → AllByRecursion IsOneLine lines → AllByRecursion IsText (with_number number lines)
numbered_texts number [] small w p = tt
numbered_texts number (line ∷ lines) small w p =
    let wide = right_width 7 number (omega arith) (omega (arith, small)) (omega (arith, small)) in
    let one : IsText (line ++ 32 ∷ right_aligned 7 number) = record {
      wide = omega (arith, w.0, wide, length-append line (32 ∷ right_aligned 7 number));
      in_line = one_line_joined line (32 ∷ right_aligned 7 number) p.0 (λ e. absurd (omega (arith, e)), right_in_line 7 number (omega (arith, small)));
    } in
    (one, numbered_texts number lines small w.1 p.1)

texts_joined : (xs ys : List (List ℕ)) → AllByRecursion IsText xs → AllByRecursion IsText ys → AllByRecursion IsText (xs ++ ys)
texts_joined [] ys h k = k
texts_joined (x ∷ xs) ys h k = (h.0, texts_joined xs ys h.1 k)

pub records_texts : (comma semi : ℕ) (before es : List Entity) → AreDelimiters comma semi → AllByRecursion IsAcceptedEntity es → lines_of comma semi es ≤ 300000 → length before + length es ≤ 100000
    → AllByRecursion IsText (records_lines comma semi before es)
unfolding records_lines
records_texts comma semi before [] law h few room = tt
records_texts comma semi before (e ∷ es) law h few room =
    let text = record_text comma semi e.row e.tail in
    let one = is_record_text comma semi e law h.0 (omega (arith, few)) in
    let size = length-append before (e ∷ []) in
    texts_joined (with_number (2 * length before + 1) (record_lines comma semi e)) (records_lines comma semi (before ++ e ∷ []) es)
    (numbered_texts (2 * length before + 1) (record_lines comma semi e) (omega (arith, room)) (record_lines_hold text).wide (lines_plain 64 text one.in_line))
    (records_texts comma semi (before ++ e ∷ []) es law h.1 (omega (arith, few)) (omega (arith, room, size)))

kept_numbered : (n number : ℕ) (lines more : List (List ℕ)) → AllByRecursion (λ line. length line ≡ 64) lines
    → kept_of 80 64 n (with_number number lines ++ more) ≡ lines ++ kept_of 80 64 (n + length lines) more
unfolding kept_of
kept_numbered n number [] more w = (let same : n ≡ n + 0 = omega arith in ap (λ (k : ℕ). kept_of 80 64 k more) same)
kept_numbered n number (line ∷ lines) more w =
    let columns : List ℕ = line ++ 32 ∷ right_aligned 7 number in
    let glue : face 80 n columns ≡ line ++ (32 ∷ (right_aligned 7 number ++ 80 ∷ right_aligned 7 n)) = append_assoc line (32 ∷ right_aligned 7 number) (80 ∷ right_aligned 7 n) in
    let front : take 64 (face 80 n columns) ≡ line =
    ap (take 64) glue ∙ ap (λ (k : ℕ). take k (line ++ (32 ∷ (right_aligned 7 number ++ 80 ∷ right_aligned 7 n)))) (sym w.0) ∙ take-append_seam line (32 ∷ (right_aligned 7 number ++ 80 ∷ right_aligned 7 n)) in
    let same : suc n + length lines ≡ n + suc (length lines) = omega arith in
    ap (λ (x : List ℕ). x ∷ kept_of 80 64 (suc n) (with_number number lines ++ more)) front
    ∙ ap (λ (ls : List (List ℕ)). line ∷ ls) (kept_numbered (suc n) number lines more w.1 ∙ ap (λ (k : ℕ). lines ++ kept_of 80 64 k more) same)

-- columns 1 to 64 are kept of them
pub records_kept : (comma semi n : ℕ) (before es : List Entity) → kept_of 80 64 n (records_lines comma semi before es) ≡ all_records comma semi es
unfolding records_lines all_records kept_of
records_kept comma semi n before [] = refl
records_kept comma semi n before (e ∷ es) =
    let lines = record_lines comma semi e in
    kept_numbered n (2 * length before + 1) lines (records_lines comma semi (before ++ e ∷ []) es) (record_lines_hold (record_text comma semi e.row e.tail)).wide
    ∙ ap (λ (ls : List (List ℕ)). lines ++ ls) (records_kept comma semi (n + length lines) (before ++ e ∷ []) es)

-- ---- each entity is written

pub all_written : (comma semi : ℕ) (es : List Entity) → AreDelimiters comma semi → AllByRecursion IsAcceptedEntity es → lines_of comma semi es ≤ 300000 → AllByRecursion (IsWritten comma semi) es
all_written comma semi [] law h few = tt
all_written comma semi (e ∷ es) law h few =
    let one = is_record_text comma semi e law h.0 (omega (arith, few)) in
    (record { accepted = h.0; some = omega (arith, one.some, record_lines_count comma semi e) }, all_written comma semi es law h.1 (omega (arith, few)))

pub from_the_first : (comma semi : ℕ) (es : List Entity) → all_records comma semi es ≡ all_records comma semi [] ++ all_records comma semi es
unfolding all_records
from_the_first comma semi es = refl
