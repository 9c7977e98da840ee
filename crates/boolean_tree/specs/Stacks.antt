-- solidd's own: what the items of a post-order list make of a stack of verdicts as it stands, the
-- last verdict at its end.
use Rattle.std.specs.Prelude.{◌≡◌, List, [], ◌∷◌, ◌++◌}
use Rattle.solid_base.specs.declared.classes.Verdict.{Verdict}
use Rattle.solid_base.specs.declared.solids.Item.{Item}
use Rattle.solid_base.specs.declared.solids.Item.TheVariants as item
use Rattle.solid_base.specs.Trees.{Operation, union, intersection, difference}
use Rattle.boolean_tree.specs.Verdicts.{verdict_of}

-- solidd's own: the stack ends in two verdicts, and what goes on finds in their place the verdict
-- on the result of an operation on them
pub record TakesTwo (o : Operation) (GoesOn : List Verdict → Type 0) (stack : List Verdict)
    : Type 0 where
  pub below : List Verdict
  pub left : Verdict
  pub right : Verdict
  pub stands : stack ≡ below ++ left ∷ right ∷ []
  pub goes_on : GoesOn (below ++ verdict_of o left right ∷ [])

-- IGES 5.3, type 180: this is what the items leave of a stack, where each operand pushes the next
-- of the leaves, until none is left, and each operation takes the last two verdicts
abbrev pub StackBecomes : List Verdict → List Item → List Verdict → List Verdict → Type 0
StackBecomes after [] [] stack = after ≡ stack
StackBecomes after [] (v ∷ leaves) stack = ⊥
StackBecomes after (item.Operand entity ∷ items) [] stack = ⊥
StackBecomes after (item.Operand entity ∷ items) (v ∷ leaves) stack =
    StackBecomes after items leaves (stack ++ v ∷ [])
StackBecomes after (item.Join ∷ items) leaves stack =
    TakesTwo union (StackBecomes after items leaves) stack
StackBecomes after (item.Meet ∷ items) leaves stack =
    TakesTwo intersection (StackBecomes after items leaves) stack
StackBecomes after (item.Less ∷ items) leaves stack =
    TakesTwo difference (StackBecomes after items leaves) stack
