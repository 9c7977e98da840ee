-- The place that a reference of a row names.
use Rattle.std.proofs.Common.{◌≡◌, ℕ, ◌<◌, ◌≤◌, inl, inr, List, Some, None, get_or, length, map, refl, sym, ap, ◌∙◌, arith}
use Rattle.std.specs.Prelude.{slice_get, Option}
use Rattle.std.specs.Option.{option_map}
use Rattle.std.proofs.lemmas.Bool.{cases_lt}
use Rattle.std.proofs.lemmas.Option.{slice_get_past, slice_get_within, slice_get-get_or, get_or_from_slice_get, slice_get_read, slice_get-map}
use Rattle.std.proofs.lemmas.List.{length-map}
use Rattle.solid_base.specs.declared.entities.Entity.{Entity}
use Rattle.solid_base.specs.declared.references.Reference.{Reference}
use Rattle.entity_graph.specs.Links.{references_at, place_of, places}
use Rattle.entity_graph.specs.Order.{refs_at}
use Rattle.entity_graph.proofs.Numbers.{names_place}

named_row : (rows : List Entity) (p : ℕ) (part : List Reference) → part ≡ references_at rows p → map place_of part ≡ refs_at (places rows) p
named_row rows p part e = ap (map place_of) e ∙ sym (names_place rows p)

pub named_none : (rows : List Entity) (p next : ℕ) (part : List Reference) → part ≡ references_at rows p → length part ≤ next → ◌≡◌ {A = Option ℕ} None (slice_get (refs_at (places rows) p) next)
named_none rows p next part e h =
    let q = named_row rows p part e in
    let b = length-map part place_of in
    sym (ap (λ (l : List ℕ). slice_get l next) (sym q) ∙ slice_get_past (map place_of part) next (omega arith))

pub named_some : (rows : List Entity) (p next c : ℕ) (part : List Reference) (x : Reference) → part ≡ references_at rows p → next < length part → x ≡ get_or part next x → c ≡ place_of x
    → ◌≡◌ {A = Option ℕ} (Some c) (slice_get (refs_at (places rows) p) next)
named_some rows p next c part x e h g i =
    let q = named_row rows p part e in
    let s = slice_get_read part (length part) next x refl h g in
    let t : slice_get (map place_of part) next ≡ Some (place_of x) = slice_get-map place_of part next ∙ ap (option_map place_of) s in
    ap Some i ∙ sym (ap (λ (l : List ℕ). slice_get l next) (sym q) ∙ t)

-- ---- what a place that was read says

pub read_some : (xs : List ℕ) (k c : ℕ) → ◌≡◌ {A = Option ℕ} (Some c) (slice_get xs k) → (k < length xs) × (get_or xs k 0 ≡ c)
read_some xs k c e = (slice_get_within xs k c (sym e), get_or_from_slice_get xs k c 0 (sym e))

pub read_none : (xs : List ℕ) (k : ℕ) → ◌≡◌ {A = Option ℕ} None (slice_get xs k) → length xs ≤ k
read_none xs k e = elim (cases_lt k (length xs)) [
  | inl l ↦ absurd (let s : ◌≡◌ {A = Option ℕ} None (Some (get_or xs k 0)) = e ∙ slice_get-get_or xs k 0 l in cc)
  | inr g ↦ g
]
