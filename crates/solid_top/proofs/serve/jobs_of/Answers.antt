use Rattle.std.proofs.Common.{◌≡◌, [], sym, ◌∙◌}
use Rattle.std.proofs.lemmas.List.{nil_from_length}
use Rattle.solid_top.proofs.ServeSteps.{jobs_none, jobs_all, job_more, room_to_split}
use Rattle.solid_top.proofs.serve.jobs_of.Goals as goal

pub loop-lines-init : goal.loop-lines-init
loop-lines-init c =
    jobs_none c.args.turn.now c.args.pass.now c.args.sessions.items _ c.into_iter-lines-iterator.result.rest.items c.requires.of_turn c.requires.idle c.requires.lawful
    c.in_ok-jobs.ensures.items c.into_iter-lines-iterator.ensures.into_iter_gives.0

pub split-own-requires-clause-parts : goal.split-own-requires-clause-parts
split-own-requires-clause-parts c =
    room_to_split c.args.turn.now c.args.pass.now c.args.sessions.items c.loop-lines.pass c.loop-lines.jobs.items _ c.next.new.self.rest.items c.in-Some.lines c.loop-lines.invariant c.in-Some.ensures.steps.0 c.requires.parts

pub loop-lines-preserved : goal.loop-lines-preserved
loop-lines-preserved c =
    let split = c.split-own.ensures in
    job_more c.args.turn.now c.args.pass.now c.args.sessions.items c.loop-lines.pass c.loop-lines.jobs.items _ c.next.new.self.rest.items c.in-Some.lines c.loop-lines.invariant c.in-Some.ensures.steps.0
    c.split-own.new.pass c.split-own.result c.push.new.self.items split.of_turn split.idle split.same_made.0 split.parts split.second_of_turn split.second_idle split.second_nothing_made.0 split.second_parts
    c.in_ok-push.ensures.items

pub returns-clause-lines : goal.returns-clause-lines
returns-clause-lines c =
    let none : c.loop-lines.lines-iterator.rest.items ≡ [] = nil_from_length c.loop-lines.lines-iterator.rest.items (sym c.loop-lines.lines-iterator.rest.ok.0 ∙ c.in-None.ensures.steps.0) in
    jobs_all c.args.turn.now c.args.pass.now c.args.sessions.items c.loop-lines.pass c.loop-lines.jobs.items _ c.loop-lines.invariant none
