use Rattle.ask_core.proofs.PlaceLaws.{point_inside, point_outside, point_open}
use Rattle.ask_core.proofs.laws.points.Goals as goal

pub returns : goal.returns
returns c = record {
  inside = λ model e at text lawful. point_inside model.rows e lawful at text;
  outside = λ model e at text lawful. point_outside model.rows e lawful at text;
  undecided = λ model. point_open model.rows;
}
