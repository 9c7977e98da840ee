use Rattle.iges_file.proofs.WrittenFiles.{written_size}
use Rattle.iges_file.proofs.write_laws.written_sizes.Goals as goal

pub returns : goal.returns
returns c = written_size
