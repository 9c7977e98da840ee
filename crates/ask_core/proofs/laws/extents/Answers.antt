use Rattle.ask_core.proofs.ExtentLaws.{extents_hold, empty_outside}
use Rattle.ask_core.proofs.laws.extents.Goals as goal

pub returns : goal.returns
returns c = record {
  outside = λ model e cube depth text rest sound lawful is. extents_hold model.rows e cube depth text sound lawful is rest;
  empty = λ model. empty_outside model.rows;
}
