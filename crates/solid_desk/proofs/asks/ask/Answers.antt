use Rattle.std.proofs.Common.{subst}
use Rattle.solid_desk.specs.Holds.{IsBegunUnder}
use Rattle.solid_desk.proofs.Asked.{comes_at_once, asking_begins, asking_on, asking_ends, asking_comes}
use Rattle.solid_desk.proofs.asks.ask.Goals as goal

pub returns-in-Answered-clause-answer : goal.returns-in-Answered-clause-answer
returns-in-Answered-clause-answer g c = λ opening opens.
    comes_at_once c.args.turn.now c.args.pass.now c.begin.new.pass opening c.args.session c.args.question.now c.args.live c.in-Answered.reply
    (subst (IsBegunUnder c.args.turn.now c.begin.new.pass c.args.question.now c.args.live) c.in-Answered.is c.in_ok-reply.ensures.begun) opens
    c.begin.ensures.goes_on.seen c.begin.ensures.shown c.begin.ensures.same.1

pub loop-run-init : goal.loop-run-init
loop-run-init g c =
    asking_begins c.args.turn.now c.args.pass.now c.begin.new.pass c.args.question.now c.args.live c.in-Running.run' (g.L.Ledger.count c.args.leaves.now)
    (subst (IsBegunUnder c.args.turn.now c.begin.new.pass c.args.question.now c.args.live) c.in-Running.is c.in_ok-reply.ensures.begun)
    c.begin.ensures.goes_on c.begin.ensures.same.0 c.begin.ensures.same.1 c.begin.ensures.shown

pub loop-run-preserved : goal.loop-run-preserved
loop-run-preserved g c =
    let now = c.round.ensures in
    asking_on c.args.turn.now c.args.pass.now c.loop-run.pass c.round.new.pass c.args.question.now c.args.live c.loop-run.run c.round.new.run _ _ _ c.in_ok-reply-2.field-0 c.in_default.is c.loop-run.invariant
    now.goes_on now.made now.running now.run c.in_ok-reply-2.ensures.fewer c.in_ok-reply-2.ensures.heard now.often now.light

-- what stands where a round is the last one, part by part
first : {A B C D : Type 0} → A × B × C × D → A
first p = p.0

last : {A B C D : Type 0} → A × B × C × D → D
last p = p.3

pub returns-in_err-reply-2-clause-goes_on : goal.returns-in_err-reply-2-clause-goes_on
returns-in_err-reply-2-clause-goes_on g c =
    let now = c.round.ensures in
    first (asking_ends c.args.turn.now c.args.pass.now c.loop-run.pass c.round.new.pass c.args.question.now c.args.live c.loop-run.run c.round.new.run _ _ _ c.loop-run.invariant
    now.goes_on now.made now.running now.run now.often now.light)

pub returns-in_err-reply-2-clause-light : goal.returns-in_err-reply-2-clause-light
returns-in_err-reply-2-clause-light g c =
    let now = c.round.ensures in
    last (asking_ends c.args.turn.now c.args.pass.now c.loop-run.pass c.round.new.pass c.args.question.now c.args.live c.loop-run.run c.round.new.run _ _ _ c.loop-run.invariant
    now.goes_on now.made now.running now.run now.often now.light)

pub returns-in-Some-clause-goes_on : goal.returns-in-Some-clause-goes_on
returns-in-Some-clause-goes_on g c =
    let now = c.round.ensures in
    first (asking_ends c.args.turn.now c.args.pass.now c.loop-run.pass c.round.new.pass c.args.question.now c.args.live c.loop-run.run c.round.new.run _ _ _ c.loop-run.invariant
    now.goes_on now.made now.running now.run now.often now.light)

pub returns-in-Some-clause-light : goal.returns-in-Some-clause-light
returns-in-Some-clause-light g c =
    let now = c.round.ensures in
    last (asking_ends c.args.turn.now c.args.pass.now c.loop-run.pass c.round.new.pass c.args.question.now c.args.live c.loop-run.run c.round.new.run _ _ _ c.loop-run.invariant
    now.goes_on now.made now.running now.run now.often now.light)

pub returns-in-Some-clause-answer : goal.returns-in-Some-clause-answer
returns-in-Some-clause-answer g c = λ opening opens.
    let now = c.round.ensures in
    asking_comes c.args.turn.now c.args.pass.now c.loop-run.pass c.round.new.pass opening c.args.session c.args.question.now c.args.live c.loop-run.run _ _ c.in_ok-reply-2.field-0 c.in-Some.reply c.in-Some.is
    c.loop-run.invariant now.goes_on now.running opens c.in_ok-reply-2.ensures.heard
