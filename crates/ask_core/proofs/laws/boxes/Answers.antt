use Rattle.ask_core.proofs.PlaceLaws.{cell_inside, cell_outside, cell_open}
use Rattle.ask_core.proofs.laws.boxes.Goals as goal

pub returns : goal.returns
returns c = record {
  inside = λ model e cube text lawful. cell_inside model.rows e lawful cube text;
  outside = λ model e cube text lawful. cell_outside model.rows e lawful cube text;
  undecided = λ model. cell_open model.rows;
}
