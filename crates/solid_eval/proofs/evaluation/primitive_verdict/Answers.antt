use Rattle.std.proofs.Common.{sym, ap, ◌∙◌}
use Rattle.fixed_enclosure.specs.Places.{spans_of}
use Rattle.csg_primitives.specs.WrittenMargins.{span_class, written_margins}
use Rattle.solid_eval.specs.Written.{named, written}
use Rattle.solid_eval.proofs.FromUses.{primitive_solid}
use Rattle.solid_eval.proofs.evaluation.primitive_verdict.Goals as goal

pub returns-in-Some-Prim-clause-verdict : goal.returns-in-Some-Prim-clause-verdict
returns-in-Some-Prim-clause-verdict g c =
    let e = c.args.e in
    let prim = c.in-Some-Prim.prim in
    c.evaluate.ensures.verdict
    ∙ ap (λ s. named e (span_class (written_margins prim s))) c.pull_chain-back.ensures.value
    ∙ sym (ap (λ x. written x (spans_of c.args.at.now)) (primitive_solid c.args.rows.now e c.in-Some-Prim.matrix prim (c.in-Some-Prim.ensures.or_null ∙ c.in-Some-Prim.field-0-is)))
