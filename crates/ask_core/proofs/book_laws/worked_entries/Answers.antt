use Rattle.ask_core.proofs.RightEntries.{own_right_later}
use Rattle.ask_core.proofs.book_laws.worked_entries.Goals as goal

pub returns : goal.returns
returns c run log entry running front own = own_right_later run running log entry front own
