use Rattle.ask_core.proofs.RightEntries.{right_later}
use Rattle.ask_core.proofs.book_laws.later_versions.Goals as goal

pub returns : goal.returns
returns c opening log rest entry h = right_later opening log rest entry h
