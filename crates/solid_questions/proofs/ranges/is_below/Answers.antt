use Rattle.std.proofs.Common.{refl, sym, ◌∙◌}
use Rattle.std.proofs.lemmas.Bool.{true≢false}
use Rattle.solid_questions.proofs.Grids.{plain}
use Rattle.solid_questions.proofs.ranges.is_below.Goals as goal

pub returns-then-not-is_at_most : goal.returns-then-not-is_at_most
returns-then-not-is_at_most c =
    let p = c.requires.first in
    let q = c.requires.second in
    let x = rw (plain _ p.0, plain _ q.0) at c.is_at_most.ensures in
    (λ t. absurd (true≢false (sym t)), λ h. absurd (true≢false (sym (x.1 h.0) ∙ c.if-not-is_at_most.true)))

pub returns-then-is_at_most : goal.returns-then-is_at_most
returns-then-is_at_most c =
    let p = c.requires.first in
    let q = c.requires.second in
    let x = (rw (c.if-not-is_at_most.false, plain _ p.0, plain _ q.0) at c.is_at_most.ensures).0 refl in
    let y = (rw (c.if-is_at_most.true, plain _ p.1, plain _ q.1) at c.is_at_most-2.ensures).0 refl in
    let z = rw (plain _ p.2, plain _ q.2) at c.is_at_most-then-is_at_most.ensures in
    (λ t. (x, y, z.0 t), λ h. z.1 h.2)

pub returns-else-is_at_most : goal.returns-else-is_at_most
returns-else-is_at_most c =
    let p = c.requires.first in
    let q = c.requires.second in
    let y = rw (plain _ p.1, plain _ q.1) at c.is_at_most-2.ensures in
    (λ t. absurd (true≢false (sym t ∙ c.if-is_at_most.false)), λ h. y.1 h.1)
