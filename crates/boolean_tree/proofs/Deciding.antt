-- One class decides another through each operation: this serves "what a box shows holds of each place in it" and "of each box within" alike.
use Rattle.std.proofs.Common.{◌≡◌, refl, ap}
use Rattle.solid_base.specs.declared.classes.Class.{Class}
use Rattle.solid_base.specs.declared.classes.Class.TheVariants.{Outside, Mixed, Inside}
use Rattle.solid_base.specs.Trees.{Operation, union, intersection, difference}
use Rattle.boolean_tree.specs.Verdicts.{join_of, meet_of, reversed, class_of, Decides}

meet_out : (c : Class) → meet_of c Outside ≡ Outside
meet_out Outside = refl
meet_out Mixed = refl
meet_out Inside = refl

join_in : (c : Class) → join_of c Inside ≡ Inside
join_in Outside = refl
join_in Mixed = refl
join_in Inside = refl

meet_decides : (k l c d : Class) → Decides k c → Decides l d → Decides (meet_of k l) (meet_of c d)
meet_decides Outside l c d h i = rw h refl
meet_decides Mixed Outside c d h i = rw i (meet_out c)
meet_decides Mixed Mixed c d h i = tt
meet_decides Mixed Inside c d h i = tt
meet_decides Inside Outside c d h i = rw (h, i) refl
meet_decides Inside Mixed c d h i = tt
meet_decides Inside Inside c d h i = rw (h, i) refl

join_decides : (k l c d : Class) → Decides k c → Decides l d → Decides (join_of k l) (join_of c d)
join_decides Outside Outside c d h i = rw (h, i) refl
join_decides Outside Mixed c d h i = tt
join_decides Outside Inside c d h i = rw (h, i) refl
join_decides Mixed Outside c d h i = tt
join_decides Mixed Mixed c d h i = tt
join_decides Mixed Inside c d h i = rw i (join_in c)
join_decides Inside l c d h i = rw h refl

reversed_decides : (l d : Class) → Decides l d → Decides (reversed l) (reversed d)
reversed_decides Outside d i = ap reversed i
reversed_decides Mixed d i = tt
reversed_decides Inside d i = ap reversed i

-- where classes decide others, the class of an operation on them decides that of the operation on the others
pub two_decides : (o : Operation) (k l c d : Class) → Decides k c → Decides l d → Decides (class_of o k l) (class_of o c d)
two_decides union k l c d h i = join_decides k l c d h i
two_decides intersection k l c d h i = meet_decides k l c d h i
two_decides difference k l c d h i = meet_decides k (reversed l) c (reversed d) h (reversed_decides l d i)
