use Rattle.std.proofs.Common.{rules}
use Rattle.solid_eval.specs.LevelStack.{outer}
use Rattle.solid_eval.proofs.LevelsLeft.{index_set}
use Rattle.solid_eval.proofs.level_stack.Levels.set_index.Goals as goal

pub returns-clause-list : goal.returns-clause-list
returns-clause-list c =
    rw (← c.self.view_is)
    (λ l is. index_set c.self.inside.levels.items (outer c.self.inside.levels.items) c.len-last.result c.args.index c.index_mut.result.now l (search rules) (search rules) is)
