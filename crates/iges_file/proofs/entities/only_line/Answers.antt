use Rattle.iges_file.proofs.JoinedLines.{join_one}
use Rattle.iges_file.proofs.entities.only_line.Goals as goal

pub returns : goal.returns
returns c = join_one c.args.lines.now c.args.first c.get.result.now c.get.ensures
