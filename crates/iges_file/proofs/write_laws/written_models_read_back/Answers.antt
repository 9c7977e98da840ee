use Rattle.std.proofs.Common.{length}
use Rattle.iges_write.specs.CanonicalFile.{canonical_text}
use Rattle.iges_file.proofs.OneOutcome.{reads_once}
use Rattle.iges_file.proofs.WrittenFiles.{read_back, read_before}
use Rattle.iges_file.proofs.write_laws.written_models_read_back.Goals as goal

pub returns-clause-read_back : goal.returns-clause-read_back
returns-clause-read_back c model accepted = read_back model accepted

pub returns-clause-only : goal.returns-clause-only
returns-clause-only c model other end accepted h =
    reads_once (canonical_text model) other model end (length (canonical_text model)) h (read_back model accepted)

pub returns-clause-before : goal.returns-clause-before
returns-clause-before c model after accepted = read_before model after accepted
