use Rattle.std.proofs.Common.{sym}
use Rattle.std.proofs.lemmas.List.{drop-drop}
use Rattle.solid_eval.proofs.leaves.GivenLeaves.verdict.Goals as goal

pub returns-then-given-clause-seen : goal.returns-then-given-clause-seen
returns-then-given-clause-seen c s u = sym (drop-drop 1 c.args.given.now.next c.args.given.now.verdicts.now)
