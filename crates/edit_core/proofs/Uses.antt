-- Which rows name a number.
use Rattle.std.proofs.Common.{◌≡◌, inl, inr, ℕ, suc, ◌+◌, ◌*◌, ◌<◌, ◌≤◌, ◌/◌, List, [], length, take, drop, Bool, true, false, not, IsTrue, Option, Some, None, MatchOption, slice_get, Contains, refl, sym, ap, subst, ◌∙◌, arith}
use Rattle.std.specs.List.{AllByRecursion}
use Rattle.std.specs.Option.{is_some}
use Rattle.std.proofs.lemmas.Bool.{cases_lt}
use Rattle.solid_base.specs.declared.entities.Entity.{Entity}
use Rattle.solid_base.specs.declared.solids.Row.{Row}
use Rattle.solid_base.specs.declared.solids.Row.TheVariants as row
use Rattle.solid_base.specs.References.{at_number, row_at, row_or_null, references, references_of, HasNumber, Refers}
use Rattle.entity_graph.specs.Marks.{has_mark, with_marks}
use Rattle.entity_graph.proofs.Marked.{marks_have, marks_stay}
use Rattle.entity_graph.proofs.Numbers.{is_number}
use Rattle.entity_graph.proofs.Stamping.{number_of_some}
use Rattle.entity_graph.proofs.Steps.{take_step, split_step}
use Rattle.edit_core.specs.declared.changes.Change.{Change}
use Rattle.edit_core.specs.declared.changes.Change.TheVariants as change
use Rattle.edit_core.specs.Batches.{Staged}
use Rattle.edit_core.specs.Edits.{IsUnused, IsFirstInUse}
use Rattle.edit_core.specs.Placing.{NoneNames, AreNamed, IsFirstNaming}
use Rattle.edit_core.proofs.Placing.{at_odd}
use Rattle.edit_core.proofs.RowsAfter.{all_and}

pub row_of_place : (rows : List Entity) (place : ℕ) (e : Entity) → slice_get rows place ≡ Some e → row_at rows (2 * place + 1) ≡ e.row
unfolding row_at
row_of_place rows place e is =
    let half : (2 * place + 1) / 2 ≡ place = omega arith in
    ap row_or_null (at_odd rows (2 * place + 1) (omega arith) ∙ ap (slice_get rows) half ∙ is)

null_names_none : (rows : List Entity) (e n : ℕ) → row_at rows e ≡ row.Null → ¬ Refers rows e n
unfolding references_of
null_names_none rows e n null h =
    let none : Contains {X = ℕ} [] n = subst (λ (r : Row). Contains (references r) n) null h in
    omega (arith, none.1)

-- the rows before a place, and the row there
abbrev pub NoneBefore : List Entity → ℕ → ℕ → Type 0
NoneBefore rows n place = (e : ℕ) → e < 2 * place → ¬ Refers rows e n

even_names_none : (rows : List Entity) (place n : ℕ) → ¬ Refers rows (2 * place) n
even_names_none rows place n = elim (is_number rows (2 * place)) [ inl h ↦ absurd (let odd = h.0 in omega (arith, odd)) | inr null ↦ null_names_none rows (2 * place) n null ]

names_here : (rows : List Entity) (place n : ℕ) (x : Entity) → slice_get rows place ≡ Some x → Refers rows (2 * place + 1) n → Contains (references x.row) n
names_here rows place n x is h = subst (λ (r : Row). Contains (references r) n) (row_of_place rows place x is) h

pub first_named : (rows : List Entity) (place n : ℕ) (x : Entity) → slice_get rows place ≡ Some x → NoneBefore rows n place → Contains (references x.row) n → IsFirstNaming rows n (place * 2 + 1)
first_named rows place n x is before h =
    let same : 2 * place + 1 ≡ place * 2 + 1 = omega arith in
    record {
      names = subst (λ (e : ℕ). Refers rows e n) same (subst (λ (r : Row). Contains (references r) n) (sym (row_of_place rows place x is)) h);
      least = λ e l. elim (cases_lt e (2 * place)) [
        | inl a ↦ before e a
        | inr g ↦ (let even : e ≡ 2 * place = omega (arith, g, l) in subst (λ (k : ℕ). ¬ Refers rows k n) (sym even) (even_names_none rows place n))
      ];
    }

pub none_more : (rows : List Entity) (place n : ℕ) (x : Entity) → slice_get rows place ≡ Some x → NoneBefore rows n place → ¬ Contains (references x.row) n → NoneBefore rows n (place + 1)
none_more rows place n x is before h e l = elim (cases_lt e (2 * place)) [
  | inl a ↦ before e a
  | inr g ↦ elim (cases_lt e (2 * place + 1)) [
    | inl b ↦ (let even : e ≡ 2 * place = omega (arith, g, b) in subst (λ (k : ℕ). ¬ Refers rows k n) (sym even) (even_names_none rows place n))
    | inr c ↦ (let odd : e ≡ 2 * place + 1 = omega (arith, c, l) in subst (λ (k : ℕ). ¬ Refers rows k n) (sym odd) (λ r. h (names_here rows place n x is r)))
  ]
]

pub none_named : (rows : List Entity) (place n : ℕ) → length rows ≤ place → NoneBefore rows n place → NoneNames rows n
none_named rows place n past before e = elim (is_number rows e) [
  | inl h ↦ before e (let odd = h.0 in let within = h.1 in omega (arith, odd, within, past))
  | inr null ↦ null_names_none rows e n null
]

-- ---- marks on named rows

-- the same of the rows before a place
abbrev pub AreNamedBefore : List Entity → List Bool → ℕ → Type 0
AreNamedBefore rows marks place = (n : ℕ) → HasNumber rows n → has_mark marks n ≡ false → NoneBefore rows n place

marked_no_more : (b : Bool) → b ≡ false → b ≡ true → ⊥
marked_no_more b f t = cc

unmarked : (b : Bool) → (b ≡ true → ⊥) → b ≡ false
unmarked true none = absurd (none refl)
unmarked false none = refl

pub named_more : (rows : List Entity) (place : ℕ) (x : Entity) (marks : List Bool) (numbers : List ℕ) → slice_get rows place ≡ Some x → length marks ≡ length rows → numbers ≡ references x.row
    → AreNamedBefore rows marks place → AreNamedBefore rows (with_marks marks numbers) (place + 1)
named_more rows place x marks numbers is size all so_far n has none =
    let within = has.1 in
    let number : HasNumber marks n = (has.0, omega (arith, within, size)) in
    let before = unmarked (has_mark marks n) (λ marked. marked_no_more (has_mark (with_marks marks numbers) n) none (marks_stay numbers marks n marked)) in
    none_more rows place n x is (so_far n has before) (λ c. marked_no_more (has_mark (with_marks marks numbers) n) none (marks_have numbers marks n number (subst (λ (ns : List ℕ). Contains ns n) (sym all) c)))

pub all_named : (rows : List Entity) (place : ℕ) (marks : List Bool) → length rows ≤ place → AreNamedBefore rows marks place → AreNamed rows marks
all_named rows place marks past so_far n has none = none_named rows place n past (so_far n has none)

pub unnamed : {X : Type 0} (rows : List Entity) (marks : List Bool) (n : ℕ) (view : X → Entity) (o : Option X) (mark : Bool) → AreNamed rows marks → MatchOption o (at_number rows n ≡ None) (λ x. at_number rows n ≡ Some (view x))
    → is_some o ≡ true → mark ≡ has_mark marks n → IsTrue (not mark) → NoneNames rows n
unnamed rows marks n view None mark named found some is none = absurd cc
unnamed rows marks n view (Some x) true named found some is none = absurd cc
unnamed rows marks n view (Some x) false named found some is none = named n (number_of_some rows n (view x) found) (sym is)

-- ---- dropped numbers

pub unused_more : (after : List Entity) (batch : List Staged) (at : ℕ) (s : Staged) → slice_get batch at ≡ Some s → AllByRecursion (IsUnused after) (take at batch) → IsUnused after s → AllByRecursion (IsUnused after) (take (at + 1) batch)
unused_more after batch at s is all one = subst (AllByRecursion (IsUnused after)) (sym (take_step batch at (at + 1) s refl is)) (all_and (IsUnused after) (take at batch) s all one)

pub use_blamed : (after : List Entity) (batch : List Staged) (at de by : ℕ) (c : Change) → slice_get batch at ≡ Some (de, c) → AllByRecursion (IsUnused after) (take at batch) → c ≡ change.Drop → IsFirstNaming after de by → IsFirstInUse batch after de by
use_blamed after batch at de by c is all dropped first =
    let here : slice_get batch at ≡ Some (de, change.Drop) = is ∙ ap (λ (x : Change). Some (de, x)) dropped in
    record { front = take at batch; rest = drop (suc at) batch; stands = split_step batch at (de, change.Drop) here; before = all; names = first.names; least = first.least }
