-- Worked lists of trees, so that a wrong post-order does not check.
use Rattle.std.proofs.Common.{◌≡◌, [], ◌∷◌, refl}
use Rattle.solid_base.specs.declared.solids.Item.TheVariants.{Operand, Join, Meet, Less}
use Rattle.solid_base.specs.Trees.{union, intersection, difference, operand, combination, post_order}

-- entity 1 less the union of entities 3 and 5
pub less_a_union : post_order (combination difference (operand 1) (combination union (operand 3) (operand 5))) ≡ Operand 1 ∷ Operand 3 ∷ Operand 5 ∷ Join ∷ Less ∷ []
less_a_union = refl

-- the intersection of entities 1 and 3, less entity 5
pub a_common_part_less : post_order (combination difference (combination intersection (operand 1) (operand 3)) (operand 5)) ≡ Operand 1 ∷ Operand 3 ∷ Meet ∷ Operand 5 ∷ Less ∷ []
a_common_part_less = refl
