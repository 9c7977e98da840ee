-- How many operands a list has.
use Rattle.std.proofs.Common.{◌≡◌, ℕ, suc, ◌+◌, ◌<◌, List, [], ◌∷◌, ◌++◌, length, get_or, drop, refl, ap, ◌∙◌, arith, length-append}
use Rattle.std.proofs.lemmas.List.{drop_more}
use Rattle.solid_base.specs.declared.references.Reference.TheVariants as reference
use Rattle.solid_base.specs.declared.solids.Item.{Item}
use Rattle.solid_base.specs.declared.solids.Item.TheVariants as item
use Rattle.solid_base.specs.References.{operands_of}
use Rattle.solid_base.specs.Trees.{Operation, union, intersection, difference, Tree, operand, combination, item_of, post_order}
use Rattle.boolean_tree.specs.Verdicts.{operand_count}

pub operands_of-append : (a b : List Item) → operands_of (a ++ b) ≡ operands_of a ++ operands_of b
operands_of-append [] b = refl
operands_of-append (item.Operand entity ∷ a) b = ap (λ l. reference.Solid entity ∷ l) (operands_of-append a b)
operands_of-append (item.Join ∷ a) b = operands_of-append a b
operands_of-append (item.Meet ∷ a) b = operands_of-append a b
operands_of-append (item.Less ∷ a) b = operands_of-append a b

pub operands_of-operation : (o : Operation) (items : List Item) → operands_of (item_of o ∷ items) ≡ operands_of items
operands_of-operation union items = refl
operands_of-operation intersection items = refl
operands_of-operation difference items = refl

-- a tree's list has the operands of the tree
pub operands_counted : (t : Tree) → length (operands_of (post_order t)) ≡ operand_count t
operands_counted (operand entity) = refl
operands_counted (combination o a b) =
    omega (
      arith,
      ap length (operands_of-append (post_order a ++ post_order b) (item_of o ∷ [])),
      length-append (operands_of (post_order a ++ post_order b)) (operands_of (item_of o ∷ [])),
      ap length (operands_of-append (post_order a) (post_order b)),
      length-append (operands_of (post_order a)) (operands_of (post_order b)),
      ap length (operands_of-operation o []),
      operands_counted a,
      operands_counted b,
    )

-- an operand at a place counts one, an operation none
pub counted_operand : (items : List Item) (at entity : ℕ) (d : Item) → at < length items → get_or items at d ≡ item.Operand entity → length (operands_of (drop at items)) ≡ suc (length (operands_of (drop (at + 1) items)))
counted_operand items at entity d inside is = ap (λ l. length (operands_of l)) (drop_more items at d inside ∙ ap (λ x. x ∷ drop (at + 1) items) is)

pub counted_operation : (items : List Item) (at : ℕ) (d : Item) (o : Operation) → at < length items → get_or items at d ≡ item_of o → length (operands_of (drop at items)) ≡ length (operands_of (drop (at + 1) items))
counted_operation items at d o inside is =
    ap (λ l. length (operands_of l)) (drop_more items at d inside ∙ ap (λ x. x ∷ drop (at + 1) items) is) ∙ ap length (operands_of-operation o (drop (at + 1) items))
