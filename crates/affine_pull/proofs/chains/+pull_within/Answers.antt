use Rattle.std.proofs.Common.{◌∙◌}
use Rattle.affine_pull.proofs.LawfulChains.{lawful-affine}
use Rattle.affine_pull.proofs.Levels.{single-within}
use Rattle.affine_pull.proofs.chains.+pull_within.Goals as goal

pub pull-requires-clause-matrix : goal.pull-requires-clause-matrix
pull-requires-clause-matrix t c = lawful-affine c.args.rows.now c.args.matrix _ _ _ c.requires.rows (c.in-Some-Matrix.ensures.or_null ∙ c.in-Some-Matrix.field-0-is)

pub pull-requires-2-clause-matrix : goal.pull-requires-2-clause-matrix
pull-requires-2-clause-matrix t c = lawful-affine c.args.rows.now c.args.matrix _ _ _ c.requires.rows (c.in-Some-Matrix.ensures.or_null ∙ c.in-Some-Matrix.field-0-is)

pub returns-then-next-eq0-clause-value : goal.returns-then-next-eq0-clause-value
returns-then-next-eq0-clause-value t c =
    let m = c.in-Some-Matrix in
    rw (single-within c.args.levels c.args.rows.now c.args.matrix _ _ m.affine c.if-levels-eq0.false (m.ensures.or_null ∙ m.field-0-is) c.if-next-eq0.true) c.pull.ensures.value
