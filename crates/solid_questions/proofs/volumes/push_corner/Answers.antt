use Rattle.std.proofs.lemmas.Result.{on_ok_weaker}
use Rattle.solid_questions.proofs.Grids.{plain}
use Rattle.solid_questions.proofs.Joins.{joined}
use Rattle.solid_questions.specs.Bodies.{measure_words}
use Rattle.solid_questions.proofs.volumes.push_corner.Goals as goal

pub returns-clause-ok : goal.returns-clause-ok
returns-clause-ok c =
    let near = c.requires in
    let at = c.args.corner.now in
    let x = rw (plain _ near.0) at c.in_ok-push_measure.ensures.ok in
    let y = rw (plain _ near.1) at c.in_ok-push_measure-2.ensures.ok in
    let z = rw (plain _ near.2) at c.push_measure-3.ensures.ok in
    on_ok_weaker c.push_measure-3.result
    (λ end. joined c.args.out.now c.push_measure.new.out c.push_measure-2.new.out c.push_measure-3.new.out (measure_words 12 at.x) (measure_words 12 at.y) (measure_words 12 at.z) x y end)
    z
