-- Numbers of rows and their places.
use Rattle.std.proofs.Common.{◌≡◌, ℕ, zero, suc, ◌+◌, ◌*◌, ◌/◌, ◌%◌, ◌<◌, ◌⊎◌, inl, inr, List, [], ◌∷◌, Some, None, get_or, length, map, refl, sym, ap, ◌∙◌, subst, arith}
use Rattle.std.specs.Prelude.{cond, slice_get}
use Rattle.std.specs.List.{AllByRecursion, Contains}
use Rattle.std.proofs.lemmas.Bool.{cases_lt, eq-eqb}
use Rattle.std.proofs.lemmas.Bool.Decides.{eqb_tells}
use Rattle.std.proofs.lemmas.Option.{slice_get_past}
use Rattle.std.proofs.lemmas.List.{length-map}
use Rattle.solid_base.specs.declared.entities.Entity.{Entity}
use Rattle.solid_base.specs.declared.solids.Row.TheVariants as row
use Rattle.solid_base.specs.declared.references.Reference.{Reference}
use Rattle.solid_base.specs.References.{HasNumber, row_at, row_or_null, references_of, references, target, Refers}
use Rattle.solid_base.specs.Graph.{IsDangling}
use Rattle.entity_graph.specs.FirstFaults.{ArePresent}
use Rattle.entity_graph.specs.Links.{references_at, place_of, places}
use Rattle.entity_graph.specs.Order.{refs_at}

pub is_number : (rows : List Entity) (e : ℕ) → HasNumber rows e ⊎ (row_at rows e ≡ row.Null)
unfolding row_at
is_number rows e = elim (eqb_tells (e % 2) 1) [
  | inl t ↦ elim (cases_lt (e / 2) (length rows)) [
    | inl l ↦ inl (t.1, l)
    | inr g ↦ inr (ap (λ b. row_or_null (cond b (slice_get rows (e / 2)) None)) t.0 ∙ ap row_or_null (slice_get_past rows (e / 2) g))
  ]
  | inr f ↦ inr (ap (λ b. row_or_null (cond b (slice_get rows (e / 2)) None)) f.0)
]

pub place_row : (rows : List Entity) (i : ℕ) → row_at rows (2 * i + 1) ≡ row_or_null (slice_get rows i)
unfolding row_at
place_row rows i =
    let a : (2 * i + 1) % 2 ≡ 1 = omega arith in
    let b : (2 * i + 1) / 2 ≡ i = omega arith in
    ap (λ t. row_or_null (cond t (slice_get rows ((2 * i + 1) / 2)) None)) (eq-eqb ((2 * i + 1) % 2) 1 a)
    ∙ ap (λ n. row_or_null (slice_get rows n)) b

pub number_is : (rows : List Entity) (e : ℕ) → HasNumber rows e → 2 * (e / 2) + 1 ≡ e
number_is rows e n = let a = n.0 in omega arith

pub number_of : (rows : List Entity) (i : ℕ) → i < length rows → HasNumber rows (2 * i + 1)
number_of rows i h = (omega arith, omega arith)

pub place_in : (rows : List Entity) (i : ℕ) → HasNumber rows (2 * i + 1) → i < length rows
place_in rows i n = let a = n.1 in omega arith

-- ---- the rows' references, place by place

referring : (rows : List Entity) (i : ℕ) → get_or (map (λ entity. references_of entity.row) rows) i [] ≡ references_of (row_or_null (slice_get rows i))
unfolding references_of
referring [] i = refl
referring (x ∷ rows) zero = refl
referring (x ∷ rows) (suc i) = referring rows i

pub references_place : (rows : List Entity) (i : ℕ) → get_or (map (λ entity. references_of entity.row) rows) i [] ≡ references_at rows i
references_place rows i = referring rows i ∙ ap references_of (sym (place_row rows i))

naming : (rows : List Entity) (i : ℕ) → get_or (map (λ entity. map place_of (references_of entity.row)) rows) i [] ≡ map place_of (references_of (row_or_null (slice_get rows i)))
unfolding references_of
naming [] i = refl
naming (x ∷ rows) zero = refl
naming (x ∷ rows) (suc i) = naming rows i

pub names_place : (rows : List Entity) (i : ℕ) → refs_at (places rows) i ≡ map place_of (references_at rows i)
unfolding places
names_place rows i = naming rows i ∙ ap (λ r. map place_of (references_of r)) (sym (place_row rows i))

pub places_length : (rows : List Entity) → length (places rows) ≡ length rows
unfolding places
places_length rows = length-map rows (λ entity. map place_of (references_of entity.row))

-- ---- references

pub null_refers : (rows : List Entity) (e c : ℕ) → row_at rows e ≡ row.Null → Refers rows e c → ⊥
unfolding references_of
null_refers rows e c n r = let t = subst (λ x. Contains (references x) c) n r in let l = t.1 in omega arith

pub refers_from : (rows : List Entity) (e c : ℕ) → Refers rows e c → HasNumber rows e
refers_from rows e c r = elim (is_number rows e) [ inl n ↦ n | inr z ↦ absurd (null_refers rows e c z r) ]

all_numbers : (rows : List Entity) (rs : List Reference) → AllByRecursion (λ r. ¬ IsDangling rows r) rs → (k d : ℕ) → k < length (map target rs) → HasNumber rows (get_or (map target rs) k d)
all_numbers rows [] h k d l = absurd (omega arith)
all_numbers rows (r ∷ rs) h zero d l = elim (is_number rows (target r)) [ inl n ↦ n | inr z ↦ absurd (h.0 z) ]
all_numbers rows (r ∷ rs) h (suc k) d l = all_numbers rows rs h.1 k d (omega arith)

pub refers_to : (rows : List Entity) → ArePresent rows → (e c : ℕ) → Refers rows e c → HasNumber rows c
refers_to rows p e c r = subst (HasNumber rows) r.2 (all_numbers rows (references_of (row_at rows e)) (p e) r.0 c r.1)

pub row_of_entity : (rows read : List Entity) (p : ℕ) (entity : Entity) → read ≡ rows → slice_get read p ≡ Some entity → row_at rows (2 * p + 1) ≡ entity.row
row_of_entity rows read p entity r s = place_row rows p ∙ ap (λ (l : List Entity). row_or_null (slice_get l p)) (sym r) ∙ ap row_or_null s
