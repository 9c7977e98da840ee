-- The version after an edit: its model is accepted, and its stamps are those of what changed.
use Rattle.std.proofs.Common.{◌≡◌, inl, inr, ℕ, zero, suc, ◌+◌, ◌-◌, ◌*◌, ◌<◌, ◌≤◌, ◌/◌, ◌%◌, ◌==◌, Bool, true, false, cond, List, [], ◌∷◌, ◌++◌, length, map, Some, None, slice_get, Contains, refl, sym, ap, subst, ◌∙◌, arith, add-one, append-nil}
use Rattle.std.specs.List.{AllByRecursion}
use Rattle.std.proofs.lemmas.Bool.{cases_lt}
use Rattle.std.proofs.lemmas.List.Elements.{Contains-append_left, Contains-append_right}
use Rattle.solid_base.specs.declared.entities.Entity.{Entity}
use Rattle.solid_base.specs.declared.entities.Model.{Model}
use Rattle.solid_base.specs.declared.references.Reference.{Reference}
use Rattle.solid_base.specs.declared.references.Reference.TheVariants as reference
use Rattle.solid_base.specs.declared.solids.Row.{Row}
use Rattle.solid_base.specs.declared.solids.Row.TheVariants as row
use Rattle.solid_base.specs.References.{at_number, references_of, matrix_named, operands_of, items_of, matrices_of}
use Rattle.solid_base.specs.Graph.{AreSound, IsDangling}
use Rattle.solid_base.specs.Ranges.{most_whole}
use Rattle.iges_parameters.specs.Accepted.{IsAccepted, IsAcceptedEntity, IsWritable, lines_of, most_lines, most_entities}
use Rattle.iges_parameters.specs.Writing.{IsOfRecord, matrix_of_row}
use Rattle.entity_graph.specs.Stamps.{IsStamp}
use Rattle.edit_core.specs.declared.table.Frame.{Frame}
use Rattle.edit_core.specs.Batches.{Staged}
use Rattle.edit_core.specs.Edits.{AreAfter, MayBegin}
use Rattle.edit_core.specs.Placing.{IsReady, AreNextStamps}
use Rattle.edit_core.specs.Versions.{numbers_from, changed_numbers, version_of, IsNext}
use Rattle.edit_core.proofs.Placing.{standing, has_odd, at_odd}
use Rattle.edit_core.proofs.RowsAfter.{few_after}
use Rattle.edit_core.proofs.Uses.{row_of_place}
use Rattle.std.proofs.lemmas.Option.{slice_get_within}

-- ---- numbers

pub numbers_next : (place after : ℕ) → place < after → numbers_from place (after - place) ≡ (place * 2 + 1) ∷ numbers_from (place + 1) (after - (place + 1))
numbers_next place after lt =
    let one : after - place ≡ suc (after - (place + 1)) = omega (arith, lt) in
    let same : 2 * place + 1 ≡ place * 2 + 1 = omega arith in
    ap (numbers_from place) one ∙ ap (λ (n : ℕ). n ∷ numbers_from (place + 1) (after - (place + 1))) same

pub numbers_end : (numbers all : List ℕ) (place after : ℕ) → after ≤ place → numbers ++ numbers_from place (after - place) ≡ all → numbers ≡ all
numbers_end numbers all place after past is =
    let none : after - place ≡ 0 = omega (arith, past) in
    sym (append-nil numbers) ∙ ap (λ (n : ℕ). numbers ++ numbers_from place n) (sym none) ∙ is

new_has : (place count e : ℕ) → e % 2 ≡ 1 → place ≤ e / 2 → e / 2 < place + count → Contains (numbers_from place count) e
new_has place zero e odd from to = absurd (omega (arith, from, to))
new_has place (suc count) e odd from to = elim (cases_lt place (e / 2)) [
  | inl l ↦ Contains-append_right ((2 * place + 1) ∷ []) (numbers_from (place + 1) count) e (new_has (place + 1) count e odd (omega (arith, l)) (omega (arith, to)))
  | inr g ↦ (
      let same : 2 * place + 1 ≡ e = omega (arith, odd, from, g) in
      Contains-append_left ((2 * place + 1) ∷ []) (numbers_from (place + 1) count) e (0, omega arith, same))
]

-- a number that wasn't changed is that of a row before
pub known : (changed : List ℕ) (batch : List Staged) (before after e : ℕ) → changed ≡ changed_numbers batch before after → ¬ Contains changed e → e % 2 ≡ 1 → e / 2 < after → e / 2 < before
unfolding changed_numbers
known changed batch before after e is none odd within = elim (cases_lt (e / 2) before) [
  | inl l ↦ l
  | inr g ↦ absurd (none (subst (λ (ns : List ℕ). Contains ns e) (sym is)
      (Contains-append_right (map (λ (s : Staged). s.0) batch) (numbers_from before (after - before)) e (new_has before (after - before) e odd g (omega (arith, g, within))))))
]

pub opening_stamp : (rows : List Entity) (changed old : List ℕ) (e s : ℕ) → old ≡ [] → IsStamp rows changed 0 old e s → s ≡ 0
opening_stamp rows changed old e s none (inl new) = new.1
opening_stamp rows changed old e s none (inr kept) = absurd (go (e % 2 == 1) (subst (λ (ns : List ℕ). at_number ns e ≡ Some s) none kept.1)) where
  go : (b : Bool) → cond b (slice_get {X = ℕ} [] (e / 2)) None ≡ Some s → ⊥
  go true h = cc
  go false h = cc

-- ---- the model is accepted

first_part : (xs ys : List Reference) (P : Reference → Type 0) → AllByRecursion P (xs ++ ys) → AllByRecursion P xs
first_part [] ys P h = tt
first_part (x ∷ xs) ys P h = (h.0, first_part xs ys P h.1)

-- the matrix of a row that was read is none, or one of the model
matrix_present : (P : Reference → Type 0) (r : Row) → IsOfRecord r → AllByRecursion P (references_of r) → AllByRecursion P (matrix_named (matrix_of_row r))
unfolding references_of
matrix_present P row.Null read h = absurd read
matrix_present P (row.Opaque kind form matrix text) read h = absurd read
matrix_present P (row.Matrix form affine next) read h = h
matrix_present P (row.Prim p matrix) read h = h
matrix_present P (row.Tree items matrix) read h = first_part (matrix_named matrix) (operands_of items) P h
matrix_present P (row.Assembly items matrix) read h = first_part (matrix_named matrix) (items_of items ++ matrices_of items) P h
matrix_present P (row.Instance child matrix) read h = first_part (matrix_named matrix) (reference.Solid child ∷ []) P h

named_small : (rows : List Entity) (m : ℕ) → length rows ≤ most_entities → AllByRecursion (λ r. ¬ IsDangling rows r) (matrix_named m) → m ≤ most_whole
named_small rows zero few h = omega arith
named_small rows (suc m) few h =
    let (e, is) = standing rows (suc m) h.0 in
    let within = slice_get_within rows (suc m / 2) e (sym (at_odd rows (suc m) (has_odd rows (suc m) e is)) ∙ is) in
    omega (arith, within, few)

ready_accepted : (rows : List Entity) (place : ℕ) (e : Entity) → length rows ≤ most_entities → AreSound rows → slice_get rows place ≡ Some e → IsReady e → IsAcceptedEntity e
ready_accepted rows place e few sound is ready = ready.accepted (elim ready.known [
  | inl of_record ↦ named_small rows (matrix_of_row e.row) few (matrix_present (λ r. ¬ IsDangling rows r) e.row of_record
      (subst (λ (r : Row). AllByRecursion (λ x. ¬ IsDangling rows x) (references_of r)) (row_of_place rows place e is) (sound.present (2 * place + 1))))
  | inr small ↦ small
])

places : {X : Type 0} (P Q : X → Type 0) (xs : List X) → ((at : ℕ) (x : X) → slice_get xs at ≡ Some x → P x → Q x) → AllByRecursion P xs → AllByRecursion Q xs
places P Q [] h all = tt
places P Q (x ∷ xs) h all = (h 0 x refl all.0, places P Q xs (λ at y is. h (suc at) y is) all.1)

pub all_writable : (rows : List Entity) → AllByRecursion IsReady rows → AllByRecursion IsWritable rows
all_writable rows all = places IsReady IsWritable rows (λ at e is ready. ready.writable) all

pub accepted_rows : (m : Model) (after : List Entity) (batch : List Staged) → IsAccepted m → AreAfter m.rows batch after → AllByRecursion IsReady after → AreSound after → lines_of m.comma m.semi after ≤ most_lines
    → IsAccepted (record { start = m.start; comma = m.comma; semi = m.semi; global = m.global; rows = after })
accepted_rows m after batch h made ready sound lines =
    let few = few_after m.rows after batch h.few_entities made in
    record {
      few_entities = few;
      entities = places IsReady IsAcceptedEntity after (λ at e is one. ready_accepted after at e few sound is one) ready;
      references = sound;
      few_lines = lines;
      delimiters = h.delimiters;
      some_start = h.some_start;
      few_start = h.few_start;
      start_lines = h.start_lines;
      global_spelt = h.global_spelt;
      global_in_line = h.global_in_line;
      few_global = h.few_global;
    }

pub accepted_after : (n m : ℕ) (frame : Frame) (rows after : List Entity) (stamps others : List ℕ) (batch : List Staged) → IsAccepted (version_of n frame rows stamps).model → AreAfter rows batch after
    → AllByRecursion IsReady after → AreSound after → lines_of frame.comma frame.semi after ≤ most_lines → IsAccepted (version_of m frame after others).model
accepted_after n m frame rows after stamps others batch h made ready sound lines =
    accepted_rows (version_of n frame rows stamps).model after batch h made ready sound lines

pub next_stamps : (n : ℕ) (frame : Frame) (rows after : List Entity) (stamps others changed : List ℕ) (batch : List Staged) → changed ≡ changed_numbers batch (length rows) (length after) → length others ≡ length after
    → ((e s : ℕ) → at_number others e ≡ Some s → IsStamp after changed (n + 1) stamps e s) → AreNextStamps (version_of n frame rows stamps) batch after others
next_stamps n frame rows after stamps others changed batch is one_each renewed = record {
  one_each = one_each;
  each = λ e s at. subst (λ (v : ℕ). IsStamp after (changed_numbers batch (length rows) (length after)) v stamps e s) (add-one n) (subst (λ (ns : List ℕ). IsStamp after ns (n + 1) stamps e s) is (renewed e s at));
}

pub next_is : (n : ℕ) (frame : Frame) (rows after : List Entity) (stamps others : List ℕ) (batch : List Staged) → MayBegin n batch → AreAfter rows batch after → AreSound after
    → lines_of frame.comma frame.semi after ≤ most_lines → AreNextStamps (version_of n frame rows stamps) batch after others → IsNext (version_of n frame rows stamps) batch (version_of (suc n) frame after others)
next_is n frame rows after stamps others batch may made sound lines next = record {
  number = refl;
  model = record { may = may; rows = made; sound = sound; few = lines; start = refl; comma = refl; semi = refl; global = refl };
  one_each = next.one_each;
  stamps = next.each;
}
