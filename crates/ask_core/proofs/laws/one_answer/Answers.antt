use Rattle.ask_core.proofs.OneAnswer.{evaluates_some, evaluates_once}
use Rattle.ask_core.proofs.Exports.{one_answer_some, one_answer_once}
use Rattle.ask_core.proofs.laws.one_answer.Goals as goal

pub returns : goal.returns
returns c = record { some = one_answer_some; once = one_answer_once; some_count = evaluates_some; count_once = evaluates_once }
