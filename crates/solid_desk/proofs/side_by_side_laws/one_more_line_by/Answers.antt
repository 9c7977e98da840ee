use Rattle.solid_desk.proofs.SideBySide.{one_more_by, count_more}
use Rattle.solid_desk.proofs.side_by_side_laws.one_more_line_by.Goals as goal

pub returns-clause-one_more : goal.returns-clause-one_more
returns-clause-one_more c opening front after seen later session commands outcomes command outcome h goes_on more came =
    one_more_by opening front after seen later session commands outcomes command outcome h goes_on more came

pub returns-clause-count : goal.returns-clause-count
returns-clause-count c outcomes outcome = count_more outcomes outcome
