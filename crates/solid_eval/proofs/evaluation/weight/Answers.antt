use Rattle.std.proofs.Common.{◌≡◌, sym, subst}
use Rattle.solid_base.specs.declared.solids.Row.TheVariants as row
use Rattle.solid_base.specs.Graph.{AreSound, weight_of}
use Rattle.solid_eval.proofs.Heavy.{row_weighs}
use Rattle.solid_eval.proofs.evaluation.weight.Goals as goal

pub returns-in-None : goal.returns-in-None
returns-in-None c =
    let none : weight_of c.args.rows.now c.args.e ≡ 0 = row_weighs c.args.rows.now c.requires.rows (subst AreSound c.requires.graph c.obeys.ensures.sound) c.args.e row.Null c.in-None.ensures.or_null in
    sym none
