use Rattle.iges_cards.proofs.FirstFaultLaws.{fault_found, fault_read, one_fault}
use Rattle.iges_cards.proofs.laws.one_fault.Goals as goal

pub returns-clause-read : goal.returns-clause-read
returns-clause-read c bytes fault = (fault_read bytes fault, fault_found bytes fault)

pub returns-clause-once : goal.returns-clause-once
returns-clause-once c bytes a b h k = one_fault bytes a b h k
