-- What is taken from a state, where verdicts are evaluated and where they are given.
use Rattle.std.proofs.Common.{◌≡◌, ℕ, ◌+◌, ◌≤◌, List, drop, refl, sym, ap, ◌∙◌, arith}
use Rattle.std.proofs.lemmas.List.{drop-drop}
use Rattle.solid_base.specs.declared.classes.Verdict.{Verdict}
use Rattle.solid_base.specs.Ledgers.{most_count, counted, RisesUpTo, within_most}
use Rattle.solid_base.proofs.Counts.{counted_twice, counted_none}
use Rattle.fixed_enclosure.specs.Places.{Span3}
use Rattle.boolean_tree.specs.Verdicts.{verdict_of}
use Rattle.affine_pull.specs.Chains.{spans_through}
use Rattle.solid_eval.specs.Solids.{Solid, nothing, primitive, moved, entity, combined}
use Rattle.solid_eval.specs.Taking.{taken_from, evaluated, next_given}
use Rattle.solid_eval.specs.Uses.{leaf_count, verdict_from}
use Rattle.solid_eval.specs.Written.{written}

-- ---- verdicts that are evaluated

-- are together the verdict on the solid
pub evaluated_verdict : (solid : Solid) (s : Span3) (count : ℕ) → (taken_from evaluated solid s count).0 ≡ written solid s
evaluated_verdict nothing s count = refl
evaluated_verdict (primitive e chain p) s count = refl
evaluated_verdict (moved chain part) s count = evaluated_verdict part (spans_through chain s) count
evaluated_verdict (entity e part) s count = evaluated_verdict part s count
evaluated_verdict (combined o a b) s count =
    let left = taken_from evaluated a s count in
    ap (λ v. verdict_of o v (taken_from evaluated b s left.1).0) (evaluated_verdict a s count) ∙ ap (verdict_of o (written a s)) (evaluated_verdict b s left.1)

-- and each is counted
pub evaluated_count : (solid : Solid) (s : Span3) (count : ℕ) → count ≤ most_count → (taken_from evaluated solid s count).1 ≡ counted count (leaf_count solid)
evaluated_count nothing s count bound = sym (counted_none count bound)
evaluated_count (primitive e chain p) s count bound = refl
evaluated_count (moved chain part) s count bound = evaluated_count part (spans_through chain s) count bound
evaluated_count (entity e part) s count bound = evaluated_count part s count bound
evaluated_count (combined o a b) s count bound =
    let left = (taken_from evaluated a s count).1 in
    let is = evaluated_count a s count bound in
    ap (λ n. (taken_from evaluated b s n).1) is ∙ evaluated_count b s (counted count (leaf_count a)) (within_most (count + leaf_count a)) ∙ counted_twice count (leaf_count a) (leaf_count b)

-- so the count rises by no more
pub rises_by : (old n : ℕ) → old ≤ most_count → RisesUpTo old (counted old n) n
rises_by old n bound = (omega (arith, bound), omega arith)

-- ---- verdicts that are given

-- leave those after
given_rest : (solid : Solid) (s : Span3) (verdicts : List Verdict) → (taken_from next_given solid s verdicts).1 ≡ drop (leaf_count solid) verdicts
given_rest nothing s verdicts = refl
given_rest (primitive e chain p) s verdicts = refl
given_rest (moved chain part) s verdicts = given_rest part (spans_through chain s) verdicts
given_rest (entity e part) s verdicts = given_rest part s verdicts
given_rest (combined o a b) s verdicts =
    ap (λ l. (taken_from next_given b s l).1) (given_rest a s verdicts) ∙ given_rest b s (drop (leaf_count a) verdicts) ∙ drop-drop (leaf_count b) (leaf_count a) verdicts

-- and give the verdict on the solid
pub given_verdict : (solid : Solid) (s : Span3) (verdicts : List Verdict) → (taken_from next_given solid s verdicts).0 ≡ verdict_from solid verdicts
given_verdict nothing s verdicts = refl
given_verdict (primitive e chain p) s verdicts = refl
given_verdict (moved chain part) s verdicts = given_verdict part (spans_through chain s) verdicts
given_verdict (entity e part) s verdicts = given_verdict part s verdicts
given_verdict (combined o a b) s verdicts =
    let rest = (taken_from next_given a s verdicts).1 in
    ap (λ v. verdict_of o v (taken_from next_given b s rest).0) (given_verdict a s verdicts)
    ∙ ap (verdict_of o (verdict_from a verdicts)) (ap (λ l. (taken_from next_given b s l).0) (given_rest a s verdicts) ∙ given_verdict b s (drop (leaf_count a) verdicts))
