-- Worked lists, so that a wrong rule in the specs does not check.
use Rattle.std.proofs.Common.{◌≡◌, List, [], ◌∷◌, refl, arith}
use Rattle.solid_base.specs.declared.classes.Class.TheVariants.{Mixed, Inside}
use Rattle.solid_base.specs.declared.classes.Verdict.{Verdict}
use Rattle.solid_base.specs.declared.solids.Item.{Item}
use Rattle.solid_base.specs.declared.solids.Item.TheVariants.{Operand, Join, Less}
use Rattle.solid_base.specs.Trees.{union, intersection, difference, operand, combination, IsPostOrder}
use Rattle.boolean_tree.specs.Faults.{LacksOperands, LeavesOthers}
use Rattle.boolean_tree.specs.Verdicts.{outside, folded}

-- ---- lists
-- a list of one operand is a tree
pub one_operand : IsPostOrder (Operand 1 ∷ [])
one_operand = (operand 1, refl)

-- an operation alone is at fault, at parameter 2
pub operation_alone : LacksOperands 2 (Join ∷ [])
operation_alone = record { trees = []; operation = union; rest = []; few = omega arith; spelt = refl; place = refl }

-- an operation after one operand is at fault, at parameter 3, whatever stands after it
pub operation_on_one : (rest : List Item) → LacksOperands 3 (Operand 1 ∷ Less ∷ rest)
operation_on_one rest = record { trees = operand 1 ∷ []; operation = difference; rest = rest; few = omega arith; spelt = refl; place = refl }

-- no items, and two operands, leave other than one tree
pub no_items : LeavesOthers []
no_items = record { trees = []; not_one = λ e. omega (arith, e); spelt = refl }

pub two_operands : LeavesOthers (Operand 1 ∷ Operand 3 ∷ [])
two_operands = record { trees = operand 1 ∷ operand 3 ∷ []; not_one = λ e. omega (arith, e); spelt = refl }

-- ---- verdicts
abbrev pub inside : Verdict
inside = record { class = Inside; leaf = 0 }

abbrev pub seven : Verdict
seven = record { class = Mixed; leaf = 7 }

abbrev pub nine : Verdict
nine = record { class = Mixed; leaf = 9 }

-- a solid less what holds all of it is empty, and less what holds none of it is whole
pub less_all : folded (combination difference (operand 1) (operand 3)) (inside ∷ inside ∷ []) ≡ outside
less_all = refl

pub less_nothing : folded (combination difference (operand 1) (operand 3)) (inside ∷ outside ∷ []) ≡ inside
less_nothing = refl

-- of two mixed sides the first one gives the leaf
pub first_leaf : folded (combination union (operand 1) (operand 3)) (seven ∷ nine ∷ []) ≡ seven
first_leaf = refl

-- the third operand alone is mixed in 1 less the union of 3 and 5
pub third_leaf : folded (combination difference (operand 1) (combination union (operand 3) (operand 5))) (inside ∷ outside ∷ nine ∷ []) ≡ nine
third_leaf = refl

-- what is outside one side is outside what both share
pub shared : folded (combination intersection (operand 1) (operand 3)) (seven ∷ outside ∷ []) ≡ outside
shared = refl
