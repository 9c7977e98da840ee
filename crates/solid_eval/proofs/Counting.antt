-- What holds of the items of a tree or an assembly that are left, and what they weigh.
use Rattle.std.proofs.Common.{◌≡◌, ℕ, ◌+◌, ◌≤◌, ◌<◌, List, ◌∷◌, map, length, drop, get_or, subst, ap, ◌∙◌, arith, sum_by}
use Rattle.std.specs.List.{AllByRecursion}
use Rattle.std.proofs.lemmas.List.{drop_more}
use Rattle.std.proofs.lemmas.List.Sums.{sum_by-cons}
use Rattle.solid_base.specs.declared.solids.Item.{Item}
use Rattle.solid_base.specs.declared.solids.Item.TheVariants as item
use Rattle.solid_base.specs.declared.solids.Placed.{Placed}
use Rattle.solid_base.specs.Ledgers.{RisesUpTo}
use Rattle.solid_base.specs.References.{target, operands_of, items_of}
use Rattle.solid_base.specs.Trees.{Operation, item_of}
use Rattle.boolean_tree.proofs.Counts.{operands_of-operation}

-- no tick
pub no_tick : (old most : ℕ) → RisesUpTo old old most
no_tick old most = (omega arith, omega arith)

-- no more than that
pub up_to : (old new less more : ℕ) → less ≤ more → RisesUpTo old new less → RisesUpTo old new more
up_to old new less more le f = (f.0, omega (arith, f.1, le))

-- ---- what holds of the operands of the rest
module _ (P : ℕ → Type 0) (items : List Item) (at : ℕ) (d : Item) (inside : at < length items) where
  -- of which the next one stands first
  pub operand_rest : (number : ℕ) → get_or items at d ≡ item.Operand number → AllByRecursion P (map target (operands_of (drop at items))) → P number × AllByRecursion P (map target (operands_of (drop (at + 1) items)))
  operand_rest number is h = subst (λ l. AllByRecursion P (map target (operands_of l))) (drop_more items at d inside ∙ ap (λ x. x ∷ drop (at + 1) items) is) h

  pub operation_rest : (o : Operation) → get_or items at d ≡ item_of o → AllByRecursion P (map target (operands_of (drop at items))) → AllByRecursion P (map target (operands_of (drop (at + 1) items)))
  operation_rest o is h =
      let same = ap operands_of (drop_more items at d inside ∙ ap (λ x. x ∷ drop (at + 1) items) is) ∙ operands_of-operation o (drop (at + 1) items) in
      subst (λ l. AllByRecursion P (map target l)) same h

-- ---- the counts of the rest, of which the next item stands first
module _ (count : ℕ → ℕ) where
  pub operand_counts : (items : List Item) (at number : ℕ) (d : Item) → at < length items → get_or items at d ≡ item.Operand number
      → sum_by count (map target (operands_of (drop at items))) ≡ count number + sum_by count (map target (operands_of (drop (at + 1) items)))
  operand_counts items at number d inside is =
      ap (λ l. sum_by count (map target (operands_of l))) (drop_more items at d inside ∙ ap (λ x. x ∷ drop (at + 1) items) is)
      ∙ sum_by-cons count number (map target (operands_of (drop (at + 1) items)))

  pub operation_counts : (items : List Item) (at : ℕ) (d : Item) (o : Operation) → at < length items → get_or items at d ≡ item_of o
      → sum_by count (map target (operands_of (drop at items))) ≡ sum_by count (map target (operands_of (drop (at + 1) items)))
  operation_counts items at d o inside is =
      ap (λ l. sum_by count (map target (operands_of l))) (drop_more items at d inside ∙ ap (λ x. x ∷ drop (at + 1) items) is)
      ∙ ap (λ l. sum_by count (map target l)) (operands_of-operation o (drop (at + 1) items))

  pub item_counts : (items : List Placed) (at : ℕ) (d : Placed) → at < length items
      → sum_by count (map target (items_of (drop at items))) ≡ count (get_or items at d).item + sum_by count (map target (items_of (drop (at + 1) items)))
  item_counts items at d inside =
      ap (λ l. sum_by count (map target (items_of l))) (drop_more items at d inside)
      ∙ sum_by-cons count (get_or items at d).item (map target (items_of (drop (at + 1) items)))
