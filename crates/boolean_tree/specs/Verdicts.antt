-- solidd's own: what the operations of a Boolean tree make of classes and verdicts. The order of
-- the classes is Outside < Mixed < Inside.
use Rattle.std.specs.Prelude.{◌≡◌, ℕ, ◌+◌, List, [], ◌∷◌, drop}
use Rattle.solid_base.specs.declared.classes.Class.{Class}
use Rattle.solid_base.specs.declared.classes.Class.TheVariants.{Outside, Mixed, Inside}
use Rattle.solid_base.specs.declared.classes.Verdict.{Verdict}
use Rattle.solid_base.specs.declared.solids.Item.{Item}
use Rattle.solid_base.specs.Trees.{Operation, union, intersection, difference}
use Rattle.solid_base.specs.Trees.{Tree, operand, combination, item_of}

-- ---- classes

-- solidd's own: the place of a class in their order
abbrev pub rank : Class → ℕ
rank Outside = 0
rank Mixed = 1
rank Inside = 2

-- IGES 5.3, type 180: the class of a union is the greater of the classes of its sides
abbrev pub join_of : Class → Class → Class
join_of Outside b = b
join_of Mixed Outside = Mixed
join_of Mixed Mixed = Mixed
join_of Mixed Inside = Inside
join_of Inside b = Inside

-- IGES 5.3, type 180: the class of an intersection is the lesser of the classes of its sides
abbrev pub meet_of : Class → Class → Class
meet_of Outside b = Outside
meet_of Mixed Outside = Outside
meet_of Mixed Mixed = Mixed
meet_of Mixed Inside = Mixed
meet_of Inside b = b

-- solidd's own: the class of what a solid leaves out
abbrev pub reversed : Class → Class
reversed Outside = Inside
reversed Mixed = Mixed
reversed Inside = Outside

-- IGES 5.3, type 180: the class of an operation's result. A difference is what the left side shares
-- with all that the right side leaves out
abbrev pub class_of : Operation → Class → Class → Class
class_of union a b = join_of a b
class_of intersection a b = meet_of a b
class_of difference a b = meet_of a (reversed b)

-- solidd's own: k is Mixed, which says nothing of c, or c is k
abbrev pub Decides : Class → Class → Type 0
Decides Outside c = c ≡ Outside
Decides Mixed c = Unit {0}
Decides Inside c = c ≡ Inside

-- ---- verdicts

-- solidd's own: the verdict on what holds nothing
abbrev pub outside : Verdict
outside = record { class = Outside; leaf = 0 }

-- solidd's own: the leaf of the left side where that is Mixed, else the leaf of the right side
abbrev pub mixed_leaf : Verdict → Verdict → ℕ
mixed_leaf a b = elim a.class [ Outside ↦ b.leaf | Mixed ↦ a.leaf | Inside ↦ b.leaf ]

-- solidd's own: a class that isn't Mixed has leaf 0; else the leaf is that of the first side that
-- is Mixed
abbrev pub leaf_of : Class → Verdict → Verdict → ℕ
leaf_of Outside a b = 0
leaf_of Mixed a b = mixed_leaf a b
leaf_of Inside a b = 0

-- solidd's own: the verdict on an operation's result, from those on its sides
abbrev pub verdict_of : Operation → Verdict → Verdict → Verdict
verdict_of o a b = let k = class_of o a.class b.class in record { class = k; leaf = leaf_of k a b }

-- ---- trees

-- IGES 5.3, type 180: how many operands a tree has, each as often as it stands
abbrev pub operand_count : Tree → ℕ
operand_count (operand entity) = 1
operand_count (combination o a b) = operand_count a + operand_count b

-- solidd's own: the first of some verdicts
abbrev pub first : List Verdict → Verdict
first [] = outside
first (v ∷ vs) = v

-- solidd's own: the verdict on a tree, from those on its operands in order: the left tree takes as
-- many of them as it has operands, the right tree those after
abbrev pub folded : Tree → List Verdict → Verdict
folded (operand entity) leaves = first leaves
folded (combination o a b) leaves =
    verdict_of o (folded a leaves) (folded b (drop (operand_count a) leaves))

-- ---- items

-- IGES 5.3, type 180: the item is an operation
abbrev pub IsOperation : Item → Type 0
IsOperation i = (o : Operation) × (i ≡ item_of o)
