use Rattle.std.proofs.Common.{◌≡◌, get_or, true, false}
use Rattle.std.proofs.lemmas.Option.{slice_get-get_or}
use Rattle.solid_base.specs.declared.references.Reference.TheVariants as reference
use Rattle.entity_graph.specs.Rules.{Breaks}
use Rattle.entity_graph.proofs.Firsts.{none_more, first_here}
use Rattle.entity_graph.proofs.rules.Rule.first_in.Goals as goal

pub returns-then-is_broken : goal.returns-then-is_broken
returns-then-is_broken c =
    first_here (Breaks c.args.rows.now c.args.self) c.args.references.now c.loop-reference.reference-index (get_or c.args.references.now c.loop-reference.reference-index (reference.Matrix 0)) c.number.result
    (slice_get-get_or c.args.references.now c.loop-reference.reference-index (reference.Matrix 0) c.loop-reference-test.true) c.loop-reference.invariant (c.is_broken.ensures.0 c.if-is_broken.true) c.number.ensures

pub loop-reference-preserved : goal.loop-reference-preserved
loop-reference-preserved c =
    none_more (Breaks c.args.rows.now c.args.self) c.args.references.now c.loop-reference.reference-index (get_or c.args.references.now c.loop-reference.reference-index (reference.Matrix 0))
    (slice_get-get_or c.args.references.now c.loop-reference.reference-index (reference.Matrix 0) c.loop-reference-test.true) c.loop-reference.invariant
    (λ b. let t : c.is_broken.result ≡ true = c.is_broken.ensures.1 b in let f : c.is_broken.result ≡ false = c.if-is_broken.false in absurd cc)
