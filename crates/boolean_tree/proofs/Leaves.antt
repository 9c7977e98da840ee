-- A verdict on a result names a primitive exactly where its class is mixed, where those on its sides do.
use Rattle.std.proofs.Common.{◌≡◌, ◌≢◌, ℕ, zero, suc, List, [], ◌∷◌, ◌++◌, drop, refl, subst}
use Rattle.std.specs.List.{AllByRecursion}
use Rattle.solid_base.specs.declared.classes.Class.{Class}
use Rattle.solid_base.specs.declared.classes.Class.TheVariants.{Outside, Mixed, Inside}
use Rattle.solid_base.specs.declared.classes.Verdict.{Verdict}
use Rattle.solid_base.specs.Classes.{IsLeafOf, IsVerdict}
use Rattle.solid_base.specs.Trees.{Operation, union, intersection, difference, Tree, operand, combination}
use Rattle.boolean_tree.specs.Verdicts.{join_of, meet_of, reversed, class_of, leaf_of, verdict_of, operand_count, first, folded}

-- ---- the second side of a mixed result is mixed where the first one isn't
meet_mixed : (k l : Class) → meet_of k l ≡ Mixed → k ≢ Mixed → l ≡ Mixed
meet_mixed Outside l is n = absurd cc
meet_mixed Mixed l is n = absurd (n refl)
meet_mixed Inside l is n = is

join_mixed : (k l : Class) → join_of k l ≡ Mixed → k ≢ Mixed → l ≡ Mixed
join_mixed Outside l is n = is
join_mixed Mixed l is n = absurd (n refl)
join_mixed Inside l is n = absurd cc

reversed_mixed : (l : Class) → reversed l ≡ Mixed → l ≡ Mixed
reversed_mixed Outside is = absurd cc
reversed_mixed Mixed is = refl
reversed_mixed Inside is = absurd cc

pub other_mixed : (o : Operation) (k l : Class) → class_of o k l ≡ Mixed → k ≢ Mixed → l ≡ Mixed
other_mixed union k l is n = join_mixed k l is n
other_mixed intersection k l is n = meet_mixed k l is n
other_mixed difference k l is n = reversed_mixed l (meet_mixed k (reversed l) is n)

-- ---- leaves
leaf_kept : (c k l : Class) (i j : ℕ) → (c ≡ Mixed → k ≢ Mixed → l ≡ Mixed) → IsLeafOf k i → IsLeafOf l j
    → IsLeafOf c (leaf_of c (record { class = k; leaf = i }) (record { class = l; leaf = j }))
leaf_kept Outside k l i j other h g = refl
leaf_kept Mixed Outside l i j other h g = subst (λ c. IsLeafOf c j) (other refl (λ e. cc)) g
leaf_kept Mixed Mixed l i j other h g = h
leaf_kept Mixed Inside l i j other h g = subst (λ c. IsLeafOf c j) (other refl (λ e. cc)) g
leaf_kept Inside k l i j other h g = refl

pub verdict_kept : (o : Operation) (a b : Verdict) → IsVerdict a → IsVerdict b → IsVerdict (verdict_of o a b)
verdict_kept o a b h g = leaf_kept (class_of o a.class b.class) a.class b.class a.leaf b.leaf (other_mixed o a.class b.class) h g

-- ---- lists of verdicts
pub all_joined : (a b : List Verdict) → AllByRecursion IsVerdict a → AllByRecursion IsVerdict b → AllByRecursion IsVerdict (a ++ b)
all_joined [] b h g = g
all_joined (v ∷ a) b h g = (h.0, all_joined a b h.1 g)

pub all_front : (a b : List Verdict) → AllByRecursion IsVerdict (a ++ b) → AllByRecursion IsVerdict a
all_front [] b h = tt
all_front (v ∷ a) b h = (h.0, all_front a b h.1)

pub all_rest : (a b : List Verdict) → AllByRecursion IsVerdict (a ++ b) → AllByRecursion IsVerdict b
all_rest [] b h = h
all_rest (v ∷ a) b h = all_rest a b h.1

all_dropped : (n : ℕ) (leaves : List Verdict) → AllByRecursion IsVerdict leaves → AllByRecursion IsVerdict (drop n leaves)
all_dropped zero leaves h = h
all_dropped (suc n) [] h = tt
all_dropped (suc n) (v ∷ leaves) h = all_dropped n leaves h.1

first_kept : (leaves : List Verdict) → AllByRecursion IsVerdict leaves → IsVerdict (first leaves)
first_kept [] h = refl
first_kept (v ∷ leaves) h = h.0

pub folded_kept : (t : Tree) (leaves : List Verdict) → AllByRecursion IsVerdict leaves → IsVerdict (folded t leaves)
folded_kept (operand entity) leaves h = first_kept leaves h
folded_kept (combination o a b) leaves h =
    verdict_kept o (folded a leaves) (folded b (drop (operand_count a) leaves)) (folded_kept a leaves h) (folded_kept b (drop (operand_count a) leaves) (all_dropped (operand_count a) leaves h))
