use Rattle.solid_desk.proofs.LongerLogs.{one_more, stands_after}
use Rattle.solid_desk.proofs.laws.one_more_line.Goals as goal

pub returns-clause-one_more : goal.returns-clause-one_more
returns-clause-one_more c opening log session at commands outcomes command outcome h i = one_more opening log session at commands outcomes command outcome h i

pub returns-clause-stands : goal.returns-clause-stands
returns-clause-stands c opening log session at commands outcomes command outcome h = stands_after opening log session at commands outcomes command outcome h
