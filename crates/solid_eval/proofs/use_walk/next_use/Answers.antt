use Rattle.std.proofs.Common.{◌+◌, [], ◌∷◌, ◌++◌, sym, ap, ◌∙◌}
use Rattle.solid_eval.specs.Walking.{levels_uses}
use Rattle.solid_eval.specs.LevelStack.{outer}
use Rattle.solid_eval.proofs.LevelsLeft.{uses_pushed, stack_popped, before_last, innermost, part_taken, left_below}
use Rattle.solid_eval.proofs.use_walk.next_use.Goals as goal

pub enter_part-requires-clause-level : goal.enter_part-requires-clause-level
enter_part-requires-clause-level c =
    (innermost c.args.rows.now c.loop-level.levels c.in-Some.level.now c.loop-level.invariant.stack c.in-Some.ensures).1.at

pub part_from-requires-clause-read : goal.part_from-requires-clause-read
part_from-requires-clause-read c =
    (innermost c.args.rows.now c.loop-level.levels c.in-Some.level.now c.loop-level.invariant.stack c.in-Some.ensures).1.reads

pub first_use-requires-clause-deep : goal.first_use-requires-clause-deep
first_use-requires-clause-deep c =
    let rows = c.args.rows.now in
    let levels = c.loop-level.levels in
    let last = innermost rows levels c.in-Some.level.now c.loop-level.invariant.stack c.in-Some.ensures in
    (part_taken rows (before_last rows levels) c.set_index.new.self c.in-Some.level.now c.in-Some-part_from.part last.0 last.1 c.in-Some-part_from.ensures
    (c.set_index.ensures.list c.in-Some.level.now c.in-Some.ensures) (ap (λ n. n + 1) c.set_index.ensures.spare)).1

pub first_use-requires-clause-stack : goal.first_use-requires-clause-stack
first_use-requires-clause-stack c =
    let rows = c.args.rows.now in
    let levels = c.loop-level.levels in
    let last = innermost rows levels c.in-Some.level.now c.loop-level.invariant.stack c.in-Some.ensures in
    (part_taken rows (before_last rows levels) c.set_index.new.self c.in-Some.level.now c.in-Some-part_from.part last.0 last.1 c.in-Some-part_from.ensures
    (c.set_index.ensures.list c.in-Some.level.now c.in-Some.ensures) (ap (λ n. n + 1) c.set_index.ensures.spare)).0

pub returns-in-Some-part_from-clause-first : goal.returns-in-Some-part_from-clause-first
returns-in-Some-part_from-clause-first c =
    let rows = c.args.rows.now in
    let levels = c.loop-level.levels in
    c.loop-level.invariant.left ∙ ap (levels_uses rows) c.in-Some.ensures ∙ uses_pushed rows (outer levels.list) c.in-Some.level.now
    ∙ left_below rows (before_last rows levels) c.set_index.new.self c.in-Some.level.now c.in-Some-part_from.part c.enter_part.new.at _ c.in-Some-part_from.ensures
    (c.set_index.ensures.list c.in-Some.level.now c.in-Some.ensures) c.enter_part.ensures.spans c.first_use.ensures.first

pub loop-level-preserved : goal.loop-level-preserved
loop-level-preserved c =
    let rows = c.args.rows.now in
    let left = c.leave.new.self in
    let level = c.in-Some.level.now in
    let list = c.in-Some.ensures ∙ ap (λ levels. levels ++ level ∷ []) (sym c.leave.ensures.list) in
    record {
      left = c.loop-level.invariant.left ∙ ap (levels_uses rows) list ∙ uses_pushed rows left.list level ∙ ap (λ u. u ++ levels_uses rows left.list) c.in-None.ensures;
      stack = (stack_popped rows c.loop-level.levels left level c.loop-level.invariant.stack list c.leave.ensures.spare).0;
      at = c.loop-level.invariant.at;
    }
