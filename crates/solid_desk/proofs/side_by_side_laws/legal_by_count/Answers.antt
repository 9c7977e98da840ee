use Rattle.solid_desk.proofs.LegalByCount.{legal_by_count, count_of_legal}
use Rattle.solid_desk.proofs.side_by_side_laws.legal_by_count.Goals as goal

pub returns : goal.returns
returns c = record { legal = legal_by_count; count = count_of_legal }
