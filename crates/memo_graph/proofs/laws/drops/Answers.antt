use Rattle.memo_graph.proofs.Keeping.{room-filled, held-filled, full-filled}
use Rattle.memo_graph.proofs.laws.drops.Goals as goal

pub returns-clause-room : goal.returns-clause-room
returns-clause-room c = room-filled

pub returns-clause-held : goal.returns-clause-held
returns-clause-held c = held-filled

pub returns-clause-full : goal.returns-clause-full
returns-clause-full c = full-filled
