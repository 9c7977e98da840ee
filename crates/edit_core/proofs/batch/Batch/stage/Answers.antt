use Rattle.std.proofs.Common.{◌∙◌, List, sym, subst, ap}
use Rattle.edit_core.specs.Batches.{Staged, stage, AreLawful}
use Rattle.edit_core.proofs.Batches.{entries_are, stage_lawful}
use Rattle.edit_core.proofs.batch.Batch.stage.Goals as goal

pub invariant_of-self-2 : goal.invariant_of-self-2
invariant_of-self-2 c =
    let e = c.self.inside.changes.entries in
    subst AreLawful (sym (c.in_ok-insert.ensures.entries ∙ entries_are e c.args.de c.args.change)) (stage_lawful e c.args.de c.args.change c.requires.lawful c.self.invariant)

pub returns-clause-ok : goal.returns-clause-ok
returns-clause-ok c =
    let e = c.self.inside.changes.entries in
    c.in_ok-insert.ensures.entries ∙ entries_are e c.args.de c.args.change ∙ ap (λ (b : List Staged). stage b c.args.de c.args.change) c.self.view_is
