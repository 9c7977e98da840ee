use Rattle.std.proofs.Common.{rules, ◌+◌, ◌≤◌, ◌<◌, ℕ, ◌++◌, length, ap, ◌∙◌}
use Rattle.solid_base.specs.Graph.{most_levels, depth_of, weight_of}
use Rattle.fixed_enclosure.specs.Places.{spans_of}
use Rattle.entity_graph.specs.Opaque.{ReachesOpaque}
use Rattle.solid_eval.specs.declared.level_stack.Level.{Level}
use Rattle.solid_eval.specs.Walking.{levels_uses, IsLevel, IsStack}
use Rattle.solid_eval.proofs.LevelsLeft.{part_taken, left_below, opened_left, itself_left, some_left}
use Rattle.solid_eval.proofs.use_walk.+first_use.Goals as goal

pub first_use-requires : goal.first_use-requires
first_use-requires t c =
    let rows = c.args.rows.now in
    let below = c.args.levels.now in
    let part = c.in-Some-part_from.part in
    let h = c.in-Some-part_from.ensures in
    let opened : Level = record { e = c.args.e; at = c.pull_chain.result; index = 0 } in
    let level : IsLevel rows (length below.list) opened = record { at = c.pull_chain.ensures.within; deep = c.requires.deep; reads = c.requires.read } in
    let taken = part_taken rows below c.push.new.self opened part c.requires.stack level h c.push.ensures.list c.push.ensures.spare in
    let less : depth_of rows part.number < depth_of rows c.args.e = h.less in
    let stack : IsStack rows c.push.new.self = taken.0 in
    let deep : depth_of rows part.number + length c.push.new.self.list ≤ most_levels = taken.1 in
    let reads : (k : ℕ) → ¬ ReachesOpaque rows part.number k = h.reads in
    let heavy : 1 ≤ weight_of rows part.number = h.weighs in
    search rules

pub returns-in-Some-part_from-clause-first : goal.returns-in-Some-part_from-clause-first
returns-in-Some-part_from-clause-first t c =
    let rows = c.args.rows.now in
    let below = c.args.levels.now in
    let opened : Level = record { e = c.args.e; at = c.pull_chain.result; index = 0 } in
    ap (λ u. u ++ levels_uses rows below.list) (opened_left rows c.args.e c.in-Some.matrix c.args.at.now c.pull_chain.result c.requires.rows c.requires.sound c.requires.read c.requires.weighs c.in-Some.ensures c.pull_chain.ensures.value)
    ∙ left_below rows below c.push.new.self opened c.in-Some-part_from.part c.enter_part.new.at _ c.in-Some-part_from.ensures c.push.ensures.list c.enter_part.ensures.spans c.first_use.ensures.first

pub returns-in-None-part_from-clause-first : goal.returns-in-None-part_from-clause-first
returns-in-None-part_from-clause-first t c =
    absurd (some_left c.args.rows.now c.requires.rows c.args.e (spans_of c.args.at.now) c.requires.read c.requires.weighs
    (opened_left c.args.rows.now c.args.e c.in-Some.matrix c.args.at.now c.pull_chain.result c.requires.rows c.requires.sound c.requires.read c.requires.weighs c.in-Some.ensures c.pull_chain.ensures.value ∙ c.in-None-part_from.ensures))

pub returns-in-None-clause-first : goal.returns-in-None-clause-first
returns-in-None-clause-first t c =
    let rows = c.args.rows.now in
    ap (λ u. u ++ levels_uses rows c.args.levels.now.list)
    (itself_left rows c.args.e (spans_of c.args.at.now) c.requires.rows c.requires.sound c.requires.read c.requires.weighs c.in-None.ensures)
