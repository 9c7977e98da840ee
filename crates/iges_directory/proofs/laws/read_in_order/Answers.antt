use Rattle.iges_directory.proofs.DirectoryForms.{directory_again, directory_takes}
use Rattle.iges_directory.proofs.FirstFaultLaws.{fault_again, fault_takes}
use Rattle.iges_directory.proofs.laws.read_in_order.Goals as goal

pub returns-clause-entries : goal.returns-clause-entries
returns-clause-entries c params lines pairs = (directory_again params lines pairs, directory_takes params lines pairs)

pub returns-clause-fault : goal.returns-clause-fault
returns-clause-fault c params lines fault = (fault_again params lines fault, fault_takes params lines fault)
