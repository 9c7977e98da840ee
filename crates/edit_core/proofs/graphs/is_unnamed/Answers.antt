use Rattle.std.proofs.Common.{◌∙◌, sym}
use Rattle.edit_core.proofs.Uses.{unnamed}
use Rattle.edit_core.proofs.graphs.is_unnamed.Goals as goal

pub returns-then-is_some : goal.returns-then-is_some
returns-then-is_some c none =
    unnamed c.args.rows.now c.args.named.now c.args.number (λ x. x.now) c.entity.result c.has.result c.requires c.entity.ensures (sym c.is_some.ensures ∙ c.if-is_some.true) c.has.ensures none
