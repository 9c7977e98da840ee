use Rattle.iges_parameters.proofs.RecordFaultsRead.{fault_read_is_first, first_fault_is_read, first_fault_unique}
use Rattle.iges_parameters.proofs.laws.one_fault.Goals as goal

pub returns-clause-refused : goal.returns-clause-refused
returns-clause-refused c kind form matrix fields fault = (fault_read_is_first kind form matrix fields fault, first_fault_is_read kind form matrix fields fault)

pub returns-clause-unique : goal.returns-clause-unique
returns-clause-unique c kind form fields fault other first second = first_fault_unique kind form fields fault other first second
