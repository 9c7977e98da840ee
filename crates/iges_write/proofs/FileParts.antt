-- The whole file: its sections one after the other, and how many lines they have.
use Rattle.std.proofs.Common.{◌≡◌, ℕ, suc, ◌+◌, ◌*◌, ◌≤◌, List, [], ◌∷◌, ◌++◌, length, refl, ap, ◌∙◌, arith, append_assoc, append-nil, length-append}
use Rattle.std.specs.List.{concat}
use Rattle.std.proofs.lemmas.List.Folds.{concat-append}
use Rattle.solid_base.specs.declared.entities.Entity.{Entity}
use Rattle.solid_base.specs.declared.entities.Model.{Model}
use Rattle.iges_parameters.specs.Accepted.{IsAccepted, lines_of, global_text, most_section_lines}
use Rattle.iges_write.specs.declared.files.LineCounts.{LineCounts}
use Rattle.iges_write.specs.Cards.{card, cards}
use Rattle.iges_write.specs.CanonicalFile.{global_lines, entry_lines, directory_lines, parameter_lines, groups_of, canonical_lines, canonical_text}
use Rattle.iges_write.proofs.LinesIn.{length-lines_in}
use Rattle.iges_write.proofs.EntitySteps.{records_count}

-- ---- how many lines there are

pub length-cards : (letter n : ℕ) (lines : List (List ℕ)) → length (cards letter n lines) ≡ length lines
unfolding cards
length-cards letter n [] = refl
length-cards letter n (line ∷ lines) = ap suc (length-cards letter (n + 1) lines)

pub entries_count : (comma semi : ℕ) (before es : List Entity) → length (entry_lines comma semi before es) ≡ 2 * length es
unfolding entry_lines
entries_count comma semi before [] = refl
entries_count comma semi before (e ∷ es) = (let more = entries_count comma semi (before ++ e ∷ []) es in omega (arith, more))

pub few_globals : (model : Model) → IsAccepted model → length (global_lines model) ≤ most_section_lines
few_globals model h = omega (arith, length-lines_in 72 (global_text model), h.few_global)

pub few_parameters : (model : Model) → IsAccepted model → length (parameter_lines model) ≤ 300000
few_parameters model h = omega (arith, records_count model.comma model.semi [] model.rows, h.few_lines)

pub few_entries : (model : Model) → IsAccepted model → length (directory_lines model) ≤ 200000
few_entries model h = omega (arith, entries_count model.comma model.semi [] model.rows, h.few_entities)

pub same_counts : (a b c d : ℕ) (counts : LineCounts) → counts.start ≡ a → counts.global ≡ b → counts.directory ≡ c → counts.parameter ≡ d
    → counts ≡ record { start = a; global = b; directory = c; parameter = d }
same_counts a b c d counts p q r s =
    ap (λ (n : ℕ). record { start = n; global = counts.global; directory = counts.directory; parameter = counts.parameter }) p
    ∙ ap (λ (n : ℕ). record { start = a; global = n; directory = counts.directory; parameter = counts.parameter }) q
    ∙ ap (λ (n : ℕ). record { start = a; global = b; directory = n; parameter = counts.parameter }) r
    ∙ ap (λ (n : ℕ). record { start = a; global = b; directory = c; parameter = n }) s

-- ---- the text

pub sections_joined : (model : Model) → canonical_text model
    ≡ (((concat (cards 83 1 model.start) ++ concat (cards 71 1 (global_lines model))) ++ concat (cards 68 1 (directory_lines model))) ++ concat (cards 80 1 (parameter_lines model)))
    ++ card 84 1 (groups_of model)
unfolding canonical_text canonical_lines
sections_joined model =
    let s = cards 83 1 model.start in
    let g = cards 71 1 (global_lines model) in
    let d = cards 68 1 (directory_lines model) in
    let p = cards 80 1 (parameter_lines model) in
    let t = card 84 1 (groups_of model) in
    concat-append (((s ++ g) ++ d) ++ p) (t ∷ [])
    ∙ ap (λ (x : List ℕ). concat (((s ++ g) ++ d) ++ p) ++ x) (append-nil t)
    ∙ ap (λ (x : List ℕ). x ++ t) (concat-append ((s ++ g) ++ d) p
    ∙ ap (λ (x : List ℕ). x ++ concat p) (concat-append (s ++ g) d ∙ ap (λ (x : List ℕ). x ++ concat d) (concat-append s g)))

-- the sections and the terminate line, written after other bytes
pub sections_after : (model : Model) (before : List ℕ)
    → ((((before ++ concat (cards 83 1 model.start)) ++ concat (cards 71 1 (global_lines model))) ++ concat (cards 68 1 (directory_lines model))) ++ concat (cards 80 1 (parameter_lines model)))
    ++ card 84 1 (groups_of model) ≡ before ++ canonical_text model
sections_after model before =
    let s = concat (cards 83 1 model.start) in
    let g = concat (cards 71 1 (global_lines model)) in
    let d = concat (cards 68 1 (directory_lines model)) in
    let p = concat (cards 80 1 (parameter_lines model)) in
    let t = card 84 1 (groups_of model) in
    rw (sections_joined model, append_assoc before s g, append_assoc before (s ++ g) d, append_assoc before ((s ++ g) ++ d) p, append_assoc before (((s ++ g) ++ d) ++ p) t) refl

pub lines_counted : (model : Model) → length (canonical_lines model)
    ≡ (length model.start + length (global_lines model)) + length (directory_lines model) + length (parameter_lines model) + 1
unfolding canonical_lines
lines_counted model =
    let s = cards 83 1 model.start in
    let g = cards 71 1 (global_lines model) in
    let d = cards 68 1 (directory_lines model) in
    let p = cards 80 1 (parameter_lines model) in
    let t = card 84 1 (groups_of model) in
    omega (
      arith,
      length-append (((s ++ g) ++ d) ++ p) (t ∷ []),
      length-append ((s ++ g) ++ d) p,
      length-append (s ++ g) d,
      length-append s g,
      length-cards 83 1 model.start,
      length-cards 71 1 (global_lines model),
      length-cards 68 1 (directory_lines model),
      length-cards 80 1 (parameter_lines model),
    )

-- the lines of a file, by the lines of its sections
pub file_counted : (model : Model) (globals : List (List ℕ)) → IsAccepted model → globals ≡ global_lines model
    → (length model.start + length globals + 2 * length model.rows + lines_of model.comma model.semi model.rows + 1 ≡ length (canonical_lines model)) × (length (canonical_lines model) ≤ 20499999)
file_counted model globals h is =
    let laid = ap (length {A = List ℕ}) is in
    let entries = entries_count model.comma model.semi [] model.rows in
    let records = records_count model.comma model.semi [] model.rows in (
      omega (arith, lines_counted model, laid, entries, records),
      omega (arith, lines_counted model, h.few_start, few_globals model h, few_entries model h, few_parameters model h),
    )
