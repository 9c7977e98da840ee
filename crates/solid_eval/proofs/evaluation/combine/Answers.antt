use Rattle.std.proofs.Common.{sym, ap, ◌∙◌}
use Rattle.fixed_enclosure.specs.Places.{Span3}
use Rattle.fixed_enclosure.specs.Spans.{Every}
use Rattle.solid_eval.specs.Solids.{solid_of}
use Rattle.solid_eval.specs.Uses.{verdict_from}
use Rattle.solid_eval.proofs.FromUses.{verdict_of_uses}
use Rattle.solid_eval.proofs.Taken.{given_verdict}
use Rattle.solid_eval.proofs.evaluation.combine.Goals as goal

pub returns-clause-verdict : goal.returns-clause-verdict
unfolding solid_of
returns-clause-verdict c =
    let anywhere : Span3 = record { x = Every; y = Every; z = Every } in
    (c.entity_verdict.ensures.takes anywhere tt).0 ∙ given_verdict (solid_of c.args.rows.now c.args.e) anywhere c.args.leaves.now

pub returns-clause-of_uses : goal.returns-clause-of_uses
returns-clause-of_uses c s is =
    let solid = solid_of c.args.rows.now c.args.e in
    returns-clause-verdict c ∙ ap (verdict_from solid) is ∙ sym (verdict_of_uses c.args.rows.now c.args.e s)
