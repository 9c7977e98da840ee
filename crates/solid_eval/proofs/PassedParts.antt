-- Where a place stands among the operands or items that are left, and what holds of the parts of an entity.
use Rattle.std.proofs.Common.{◌≡◌, ℕ, ◌+◌, ◌-◌, ◌≤◌, ◌<◌, inl, inr, List, [], ◌∷◌, ◌++◌, map, length, drop, get_or, refl, sym, ap, ◌∙◌, subst, arith}
use Rattle.std.specs.Prelude.{slice_get}
use Rattle.std.specs.List.{AllByRecursion}
use Rattle.std.proofs.lemmas.List.{drop_more}
use Rattle.solid_base.specs.declared.entities.Entity.{Entity}
use Rattle.solid_base.specs.declared.references.Reference.{Reference}
use Rattle.solid_base.specs.declared.references.Reference.TheVariants as reference
use Rattle.solid_base.specs.declared.solids.Item.{Item}
use Rattle.solid_base.specs.declared.solids.Item.TheVariants as item
use Rattle.solid_base.specs.declared.solids.Placed.{Placed}
use Rattle.solid_base.specs.declared.solids.Primitive.{Primitive}
use Rattle.solid_base.specs.declared.solids.Row.{Row}
use Rattle.solid_base.specs.declared.solids.Row.TheVariants as row
use Rattle.solid_base.specs.Graph.{IsDangling, row_weight, weight_of, depth_of, AreSound}
use Rattle.solid_base.specs.Ranges.{IsLawfulRow}
use Rattle.solid_base.specs.References.{HasNumber, target, matrix_named, operands_of, items_of, matrices_of, references_of, references, row_at, Refers, here, further}
use Rattle.solid_base.specs.Trees.{Operation, union, intersection, difference, item_of, IsPostOrder}
use Rattle.fixed_enclosure.specs.Places.{Span3}
use Rattle.boolean_tree.proofs.Counts.{operands_of-operation}
use Rattle.affine_pull.specs.Chains.{chain_of, spans_through}
use Rattle.affine_pull.proofs.LawfulChains.{lawful-row}
use Rattle.entity_graph.specs.Opaque.{IsUnread, ReachesOpaque, IsFirstOpaque}
use Rattle.entity_graph.proofs.Levels.{no_levels}
use Rattle.entity_graph.proofs.Numbers.{is_number}
use Rattle.solid_eval.specs.Passing.{Passes, item_weight, NamesEntity}
use Rattle.solid_eval.specs.Solids.{solid_of, nothing, solid_of_items, united}
use Rattle.solid_eval.specs.Uses.{uses, IsUseAt}
use Rattle.solid_eval.proofs.FromUses.{uses_counted}
use Rattle.solid_eval.proofs.Heavy.{row_weighs}
use Rattle.solid_eval.proofs.Local.{all_named}
use Rattle.solid_eval.proofs.PartsUses.{passes_here, passes_on, place_passed, operand_uses, items_uses, item_uses, united_uses, row_uses}
use Rattle.solid_eval.proofs.SameParts.{all_left, all_right}
use Rattle.solid_eval.proofs.Uses.{count_exact}

-- an item that is no operand is an operation
pub not_operand : (i : Item) → ((n : ℕ) → i ≡ item.Operand n → ⊥) → (o : Operation) × (i ≡ item_of o)
not_operand (item.Operand n) h = absurd (h n refl)
not_operand item.Join h = (union, refl)
not_operand item.Meet h = (intersection, refl)
not_operand item.Less h = (difference, refl)

-- ---- the operands that are left
module _ (weight : ℕ → ℕ) (items : List Item) (at : ℕ) (d : Item) (inside : at < length items) where
  pub operand_here : (number k : ℕ) → get_or items at d ≡ item.Operand number → k < weight number → Passes weight (map target (operands_of (drop at items))) k number k
  operand_here number k is inner =
      subst (λ l. Passes weight (map target (operands_of l)) k number k) (sym (drop_more items at d inside ∙ ap (λ x. x ∷ drop (at + 1) items) is)) (passes_here weight number (map target (operands_of (drop (at + 1) items))) k inner)

  pub operand_on : (number k n r : ℕ) → get_or items at d ≡ item.Operand number → weight number ≤ k → Passes weight (map target (operands_of (drop (at + 1) items))) (k - weight number) n r → Passes weight (map target (operands_of (drop at items))) k n r
  operand_on number k n r is past h =
      subst (λ l. Passes weight (map target (operands_of l)) k n r) (sym (drop_more items at d inside ∙ ap (λ x. x ∷ drop (at + 1) items) is)) (passes_on weight number n (map target (operands_of (drop (at + 1) items))) k r past h)

  pub operation_on : (o : Operation) (k n r : ℕ) → get_or items at d ≡ item_of o → Passes weight (map target (operands_of (drop (at + 1) items))) k n r → Passes weight (map target (operands_of (drop at items))) k n r
  operation_on o k n r is h =
      let same = ap operands_of (drop_more items at d inside ∙ ap (λ x. x ∷ drop (at + 1) items) is) ∙ operands_of-operation o (drop (at + 1) items) in
      subst (λ l. Passes weight (map target l) k n r) (sym same) h

-- ---- the items that are left
module _ (weight : Placed → ℕ) (items : List Placed) (at : ℕ) (d : Placed) (inside : at < length items) where
  pub item_here : (k : ℕ) → k < weight (get_or items at d) → Passes weight (drop at items) k (get_or items at d) k
  item_here k inner = subst (λ l. Passes weight l k (get_or items at d) k) (sym (drop_more items at d inside)) (passes_here weight (get_or items at d) (drop (at + 1) items) k inner)

  pub item_on : (k : ℕ) (p : Placed) (r : ℕ) → weight (get_or items at d) ≤ k → Passes weight (drop (at + 1) items) (k - weight (get_or items at d)) p r → Passes weight (drop at items) k p r
  item_on k p r past h = subst (λ l. Passes weight l k p r) (sym (drop_more items at d inside)) (passes_on weight (get_or items at d) p (drop (at + 1) items) k r past h)

-- ---- the parts of an entity
module _ (rows : List Entity) (lawful : AllByRecursion (λ (e : Entity). IsLawfulRow e.row) rows) (sound : AreSound rows) where
  reference_number : (r : Reference) → ¬ IsDangling rows r → HasNumber rows (target r)
  reference_number r present = elim (is_number rows (target r)) [ inl n ↦ n | inr null ↦ absurd (present null) ]

  all_numbers : (rs : List Reference) → AllByRecursion (λ r. ¬ IsDangling rows r) rs → AllByRecursion (HasNumber rows) (map target rs)
  all_numbers [] h = tt
  all_numbers (r ∷ rs) h = (reference_number r h.0, all_numbers rs h.1)

  row_numbers : (e : ℕ) (r : Row) → row_at rows e ≡ r → AllByRecursion (HasNumber rows) (references r)
  row_numbers e r is = subst (λ r. AllByRecursion (HasNumber rows) (references r)) is (all_numbers (references_of (row_at rows e)) (sound.present e))

  named_items : (P : ℕ → Type 0) (items : List Placed) → AllByRecursion P (map target (items_of items)) → AllByRecursion (λ (p : Placed). P p.item) items
  named_items P [] h = tt
  named_items P (p ∷ items) h = (h.0, named_items P items h.1)

  operands_all : (P : ℕ → Type 0) (items : List Item) (matrix : ℕ) → AllByRecursion P (references (row.Tree items matrix)) → AllByRecursion P (map target (operands_of items))
  unfolding references_of
  operands_all P items matrix h = all_right P (matrix_named matrix) (operands_of items) h

  items_all : (P : ℕ → Type 0) (items : List Placed) (matrix : ℕ) → AllByRecursion P (references (row.Assembly items matrix)) → AllByRecursion (λ (p : Placed). P p.item) items
  unfolding references_of
  items_all P items matrix h = named_items P items (all_left P (items_of items) (matrices_of items) (all_right P (matrix_named matrix) (items_of items ++ matrices_of items) h))

  child_all : (P : ℕ → Type 0) (c matrix : ℕ) → AllByRecursion P (references (row.Instance c matrix)) → P c
  unfolding references_of
  child_all P c matrix h = (all_right P (matrix_named matrix) (reference.Solid c ∷ []) h).0

  pub operand_numbers : (e : ℕ) (items : List Item) (matrix : ℕ) → row_at rows e ≡ row.Tree items matrix → AllByRecursion (HasNumber rows) (map target (operands_of items))
  operand_numbers e items matrix is = operands_all (HasNumber rows) items matrix (row_numbers e (row.Tree items matrix) is)

  pub item_numbers : (e : ℕ) (items : List Placed) (matrix : ℕ) → row_at rows e ≡ row.Assembly items matrix → AllByRecursion (NamesEntity rows) items
  item_numbers e items matrix is = items_all (HasNumber rows) items matrix (row_numbers e (row.Assembly items matrix) is)

  module _ (e levels : ℕ) (deep : depth_of rows e ≤ levels) (read : (k : ℕ) → ¬ ReachesOpaque rows e k) where
    -- an entity that e names has a level less, and reaches nothing unread
    pub record IsBelow (c : ℕ) : Type 0 where
      pub less : depth_of rows c ≤ levels - 1
      pub reads : (k : ℕ) → ¬ ReachesOpaque rows c k

    named_below : (c : ℕ) → Refers rows e c → IsBelow c
    named_below c refers = record { less = omega (arith, (no_levels rows sound.shallow e).falls c refers, deep); reads = λ k h. read k (further refers h.0, h.1) }

    all_below : (r : Row) → row_at rows e ≡ r → AllByRecursion IsBelow (references r)
    all_below r is = subst (λ r. AllByRecursion IsBelow (references r)) is (all_named IsBelow (references (row_at rows e)) named_below)

    pub operands_below : (items : List Item) (matrix : ℕ) → row_at rows e ≡ row.Tree items matrix → AllByRecursion IsBelow (map target (operands_of items))
    operands_below items matrix is = operands_all IsBelow items matrix (all_below (row.Tree items matrix) is)

    pub items_below : (items : List Placed) (matrix : ℕ) → row_at rows e ≡ row.Assembly items matrix → AllByRecursion (λ (p : Placed). IsBelow p.item) items
    items_below items matrix is = items_all IsBelow items matrix (all_below (row.Assembly items matrix) is)

    pub child_below : (c matrix : ℕ) → row_at rows e ≡ row.Instance c matrix → IsBelow c
    child_below c matrix is = child_all IsBelow c matrix (all_below (row.Instance c matrix) is)

    -- so it has as many uses as it weighs
    long : (c : ℕ) (s : Span3) → IsBelow c → length (uses (solid_of rows c) s) ≡ weight_of rows c
    long c s h = uses_counted (solid_of rows c) s ∙ count_exact rows c lawful h.reads

    all_long : (s : Span3) (cs : List ℕ) → AllByRecursion IsBelow cs → AllByRecursion (λ c. length (operand_uses (solid_of rows) s c) ≡ weight_of rows c) cs
    all_long s [] h = tt
    all_long s (c ∷ cs) h = (long c s h.0, all_long s cs h.1)

    items_long : (s : Span3) (items : List Placed) → AllByRecursion (λ (p : Placed). IsBelow p.item) items → AllByRecursion (λ p. length (item_uses (solid_of rows) (chain_of rows) s p) ≡ item_weight rows p) items
    items_long s [] h = tt
    items_long s (p ∷ items) h = (long p.item (spans_through (chain_of rows p.matrix) s) h.0, items_long s items h.1)

    -- ---- the use at a place is that of a part
    pub found_in_tree : (items : List Item) (matrix k n rest m : ℕ) (s back t : Span3) → row_at rows e ≡ row.Tree items matrix → back ≡ spans_through (chain_of rows matrix) s
        → Passes (weight_of rows) (map target (operands_of items)) k n rest → IsUseAt (solid_of rows n) back rest m t → IsUseAt (solid_of rows e) s k m t
    found_in_tree items matrix k n rest m s back t is pulled passes found =
        let child = solid_of rows in
        let lawfully = subst IsLawfulRow is (lawful-row rows e lawful) in
        let tree : IsPostOrder items = lawfully.2 in
        ap (λ l. slice_get l k) (row_uses rows e (row.Tree items matrix) s sound is)
        ∙ ap (λ x. slice_get (uses (solid_of_items child items) x) k) (sym pulled)
        ∙ ap (λ l. slice_get l k) (items_uses child items back tree)
        ∙ place_passed (operand_uses child back) (weight_of rows) (map target (operands_of items)) k n rest (all_long back (map target (operands_of items)) (operands_below items matrix is)) passes
        ∙ found

    pub found_in_assembly : (items : List Placed) (matrix k rest m : ℕ) (p : Placed) (s back there t : Span3) → row_at rows e ≡ row.Assembly items matrix → back ≡ spans_through (chain_of rows matrix) s
        → there ≡ spans_through (chain_of rows p.matrix) back → Passes (item_weight rows) items k p rest → IsUseAt (solid_of rows p.item) there rest m t → IsUseAt (solid_of rows e) s k m t
    found_in_assembly items matrix k rest m p s back there t is pulled placed passes found =
        let child = solid_of rows in
        let chain = chain_of rows in
        ap (λ l. slice_get l k) (row_uses rows e (row.Assembly items matrix) s sound is)
        ∙ ap (λ x. slice_get (uses (united chain child nothing items) x) k) (sym pulled)
        ∙ ap (λ l. slice_get l k) (united_uses child chain items back)
        ∙ place_passed (item_uses child chain back) (item_weight rows) items k p rest (items_long back items (items_below items matrix is)) passes
        ∙ ap (λ x. slice_get (uses (child p.item) x) rest) (sym placed)
        ∙ found

    pub found_in_instance : (c matrix k m : ℕ) (s back t : Span3) → row_at rows e ≡ row.Instance c matrix → back ≡ spans_through (chain_of rows matrix) s → IsUseAt (solid_of rows c) back k m t → IsUseAt (solid_of rows e) s k m t
    found_in_instance c matrix k m s back t is pulled found =
        ap (λ l. slice_get l k) (row_uses rows e (row.Instance c matrix) s sound is) ∙ ap (λ x. slice_get (uses (solid_of rows c) x) k) (sym pulled) ∙ found

    pub found_here : (p : Primitive) (matrix k : ℕ) (s : Span3) → row_at rows e ≡ row.Prim p matrix → k < weight_of rows e → IsUseAt (solid_of rows e) s k e s
    found_here p matrix k s is within =
        let weight : weight_of rows e ≡ 1 = row_weighs rows lawful sound e (row.Prim p matrix) is in
        let first : k ≡ 0 = omega (arith, weight, within) in
        ap (slice_get (uses (solid_of rows e) s)) first ∙ ap (λ l. slice_get l 0) (row_uses rows e (row.Prim p matrix) s sound is)

    -- a row that is no solid has no place
    pub no_place : (r : Row) (k : ℕ) → row_at rows e ≡ r → row_weight (weight_of rows) r ≡ 0 → k < weight_of rows e → ⊥
    no_place r k is none within = let weight = row_weighs rows lawful sound e r is in omega (arith, weight, none, within)

    pub no_unread : (kind form matrix : ℕ) (text : List ℕ) → row_at rows e ≡ row.Opaque kind form matrix text → ⊥
    no_unread kind form matrix text is = read e (here, rw is tt)

    pub no_level : levels ≡ 0 → ⊥
    no_level none = let one = (no_levels rows sound.shallow e).depth in omega (arith, one, deep, none)

-- ---- what the least unread entity tells
pub none_unread : (rows : List Entity) (e n : ℕ) → IsFirstOpaque rows e n → n ≡ 0 → (k : ℕ) → ¬ ReachesOpaque rows e k
unfolding row_at
none_unread rows e n (inl h) is k r = h.1 k r
none_unread rows e n (inr h) is k r = subst (λ n. IsUnread (row_at rows n)) is h.0.1
