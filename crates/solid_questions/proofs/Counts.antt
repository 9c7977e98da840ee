-- Cells that lie inside aren't outside.
use Rattle.std.proofs.Common.{◌≤◌, arith, List, cond}
use Rattle.std.proofs.lemmas.List.Sums.{sum_by-le-sum_by}
use Rattle.solid_base.specs.declared.classes.Class.{Class}
use Rattle.solid_base.specs.declared.classes.Class.TheVariants as class
use Rattle.solid_base.specs.declared.classes.Verdict.{Verdict}
use Rattle.volume_bounds.specs.Counts.{inside_count, not_outside_count, class_is_inside, class_is_not_outside, is_inside, is_not_outside}

-- what one cell adds
one_cell : (c : Class) → cond (class_is_inside c) 1 0 ≤ cond (class_is_not_outside c) 1 0
one_cell class.Outside = omega arith
one_cell class.Mixed = omega arith
one_cell class.Inside = omega arith

pub fewer_inside : (verdicts : List Verdict) → inside_count verdicts ≤ not_outside_count verdicts
fewer_inside verdicts = sum_by-le-sum_by (λ v. cond (is_inside v) 1 0) (λ v. cond (is_not_outside v) 1 0) verdicts (λ v. one_cell v.class)
