-- The uses of a solid are those of the operands, items or the child that its entity names, in order.
use Rattle.std.proofs.Common.{◌≡◌, ℕ, zero, suc, ◌+◌, ◌-◌, ◌≤◌, ◌<◌, List, [], ◌∷◌, ◌++◌, map, length, flat_map, refl, sym, ap, ◌∙◌, subst, arith, sum_by, append_assoc, append-nil}
use Rattle.std.specs.Prelude.{slice_get}
use Rattle.std.specs.List.{AllByRecursion}
use Rattle.std.proofs.lemmas.Grind.{flat_map-append}
use Rattle.std.proofs.lemmas.List.Sums.{sum_by-cons}
use Rattle.solid_base.specs.declared.entities.Entity.{Entity}
use Rattle.solid_base.specs.declared.geometry.Affine.{Affine}
use Rattle.solid_base.specs.declared.references.Reference.{Reference}
use Rattle.solid_base.specs.declared.solids.Item.{Item}
use Rattle.solid_base.specs.declared.solids.Placed.{Placed}
use Rattle.solid_base.specs.declared.solids.Row.{Row}
use Rattle.solid_base.specs.Graph.{AreSound, weight_of}
use Rattle.solid_base.specs.References.{target, operands_of, items_of, row_at}
use Rattle.solid_base.specs.Trees.{union, Tree, operand, combination, post_order, IsPostOrder}
use Rattle.fixed_enclosure.specs.Places.{Span3}
use Rattle.affine_pull.specs.Chains.{chain_of, spans_through}
use Rattle.solid_eval.specs.Passing.{Passes, item_weight}
use Rattle.solid_eval.specs.Solids.{Solid, nothing, combined, tree_solid, solid_of_items, placed_item, united, row_solid, solid_of}
use Rattle.solid_eval.specs.Uses.{Use, uses}
use Rattle.solid_eval.proofs.Levels.{solid_step}
use Rattle.solid_eval.proofs.Operands.{spelt_list, both_operands}

-- ---- places by weights
module _ {X : Type 0} (weight : X → ℕ) where
  -- the item after those of which the first stands here
  pub passes_here : (x : X) (items : List X) (k : ℕ) → k < weight x → Passes weight (x ∷ items) k x k
  passes_here x items k inside = record { before = []; after = items; stands = refl; sum = omega arith; within = inside }

  pub passes_on : (y x : X) (items : List X) (k rest : ℕ) → weight y ≤ k → Passes weight items (k - weight y) x rest → Passes weight (y ∷ items) k x rest
  passes_on y x items k rest past h = record {
    before = y ∷ h.before;
    after = h.after;
    stands = ap (λ l. y ∷ l) h.stands;
    sum = omega (arith, sum_by-cons weight y h.before, h.sum, past);
    within = h.within;
  }

  -- what holds of all items holds of this one
  pub passed_holds : (P : X → Type 0) (items : List X) (k : ℕ) (x : X) (rest : ℕ) → AllByRecursion P items → Passes weight items k x rest → P x
  passed_holds P items k x rest all h = at_end h.before (subst (AllByRecursion P) h.stands all) where
    at_end : (before : List X) → AllByRecursion P (before ++ x ∷ h.after) → P x
    at_end [] a = a.0
    at_end (y ∷ before) a = at_end before a.1

slice_past : {A : Type 0} → (xs ys : List A) (i k : ℕ) → i ≡ length xs + k → slice_get (xs ++ ys) i ≡ slice_get ys k
slice_past [] ys i k e = let same : i ≡ k = omega (arith, e) in ap (slice_get ys) same
slice_past (x ∷ xs) ys zero k e = absurd (omega (arith, e))
slice_past (x ∷ xs) ys (suc i) k e = slice_past xs ys i k (omega (arith, e))

slice_within : {A : Type 0} → (xs ys : List A) (i : ℕ) → i < length xs → slice_get (xs ++ ys) i ≡ slice_get xs i
slice_within [] ys i h = absurd (omega (arith, h))
slice_within (x ∷ xs) ys zero h = refl
slice_within (x ∷ xs) ys (suc i) h = slice_within xs ys i (omega (arith, h))

-- the place k of lists one after the other, of which each is as long as its item weighs
pub place_passed : {X A : Type 0} → (f : X → List A) (weight : X → ℕ) (items : List X) (k : ℕ) (x : X) (rest : ℕ) → AllByRecursion (λ y. length (f y) ≡ weight y) items → Passes weight items k x rest
    → slice_get (flat_map f items) k ≡ slice_get (f x) rest
place_passed {X} {A} f weight items k x rest long h =
    ap (λ l. slice_get (flat_map f l) k) h.stands ∙ found h.before k (subst (AllByRecursion (λ y. length (f y) ≡ weight y)) h.stands long) (sym h.sum) where
      found : (before : List X) (k : ℕ) → AllByRecursion (λ y. length (f y) ≡ weight y) (before ++ x ∷ h.after) → k ≡ sum_by weight before + rest → slice_get (flat_map f (before ++ x ∷ h.after)) k ≡ slice_get (f x) rest
      found [] k all is =
          let same : k ≡ rest = omega (arith, is) in
          slice_within (f x) (flat_map f h.after) k (omega (arith, same, h.within, all.0)) ∙ ap (slice_get (f x)) same
      found (y ∷ before) k all is =
          let later = sum_by weight before + rest in
          slice_past (f y) (flat_map f (before ++ x ∷ h.after)) k later (omega (arith, is, all.0, sum_by-cons weight y before)) ∙ found before later all.1 refl

map_joined : (a b : List Reference) → map target (a ++ b) ≡ map target a ++ map target b
map_joined [] b = refl
map_joined (r ∷ a) b = ap (λ l. target r ∷ l) (map_joined a b)

-- ---- uses of trees and assemblies
module _ (child : ℕ → Solid) where
  abbrev pub operand_uses : Span3 → ℕ → List Use
  operand_uses s n = uses (child n) s

  tree_uses : (t : Tree) (s : Span3) → uses (tree_solid child t) s ≡ flat_map (operand_uses s) (map target (operands_of (post_order t)))
  tree_uses (operand n) s = sym (append-nil (uses (child n) s))
  tree_uses (combination o a b) s =
      let left = map target (operands_of (post_order a)) in
      let right = map target (operands_of (post_order b)) in
      ap (λ l. l ++ uses (tree_solid child b) s) (tree_uses a s) ∙ ap (λ l. flat_map (operand_uses s) left ++ l) (tree_uses b s)
      ∙ sym (flat_map-append (operand_uses s) left right) ∙ ap (flat_map (operand_uses s)) (sym (map_joined (operands_of (post_order a)) (operands_of (post_order b))) ∙ ap (map target) (sym (both_operands o a b)))

  pub items_uses : (items : List Item) (s : Span3) → IsPostOrder items → uses (solid_of_items child items) s ≡ flat_map (operand_uses s) (map target (operands_of items))
  items_uses items s h = ap (λ x. uses x s) (spelt_list child items h) ∙ tree_uses h.0 s ∙ ap (λ l. flat_map (operand_uses s) (map target (operands_of l))) (sym h.1)

  module _ (chain : ℕ → List Affine) where
    abbrev pub item_uses : Span3 → Placed → List Use
    item_uses s p = uses (child p.item) (spans_through (chain p.matrix) s)

    all_united : (before : Solid) (items : List Placed) (s : Span3) → uses (united chain child before items) s ≡ uses before s ++ flat_map (item_uses s) items
    all_united before [] s = sym (append-nil (uses before s))
    all_united before (p ∷ items) s =
        all_united (combined union before (placed_item chain child p)) items s ∙ append_assoc (uses before s) (item_uses s p) (flat_map (item_uses s) items)

    pub united_uses : (items : List Placed) (s : Span3) → uses (united chain child nothing items) s ≡ flat_map (item_uses s) items
    united_uses items s = all_united nothing items s

-- an assembly weighs what its items weigh
pub items_weight : (rows : List Entity) (items : List Placed) → sum_by (item_weight rows) items ≡ sum_by (weight_of rows) (map target (items_of items))
items_weight rows [] = refl
items_weight rows (p ∷ items) = omega (arith, sum_by-cons (item_weight rows) p items, sum_by-cons (weight_of rows) p.item (map target (items_of items)), items_weight rows items)

-- the uses of a row's solid
pub row_uses : (rows : List Entity) (e : ℕ) (r : Row) (s : Span3) → AreSound rows → row_at rows e ≡ r → uses (solid_of rows e) s ≡ uses (row_solid (chain_of rows) (solid_of rows) e r) s
row_uses rows e r s sound is = ap (λ x. uses x s) (solid_step rows e sound ∙ ap (row_solid (chain_of rows) (solid_of rows) e) is)
