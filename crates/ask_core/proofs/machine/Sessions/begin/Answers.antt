use Rattle.std.proofs.Common.{rules, ◌<◌, refl, length, arith}
use Rattle.ask_core.specs.Machine.{IsBegin}
use Rattle.ask_core.specs.declared.events.Event.TheVariants as event
use Rattle.ask_core.proofs.Evaluated.{ok_then}
use Rattle.ask_core.proofs.FrugalSteps.{nothing_frugal, begun_frugal}
use Rattle.ask_core.proofs.StateSteps.{held_at, free_at, void_step, begin_step, run_step, pushed_at}
use Rattle.ask_core.proofs.machine.Sessions.begin.Goals as goal

pub returns-then-is_some : goal.returns-then-is_some
returns-then-is_some c =
    let runs = c.args.self.now.runs.items in
    let within : c.args.session < length runs = omega (arith, c.requires.places.of_runs, c.requires.session.1) in
    let held = held_at runs c.args.session c.index.result.now within c.index.ensures (search rules) in
    record {
      step = λ opening state h. void_step opening c.args.self.now.book runs c.args.self.now.transcripts.items state c.args.session held.0
          (IsBegin opening state c.args.session c.args.question.now c.args.live) held.1 h;
      frugal = λ count. nothing_frugal c.args.self.now _ (event.Begin c.args.session c.args.question.now c.args.live) refl refl tt count;
    }

pub returns-in-Answered : goal.returns-in-Answered
returns-in-Answered c =
    let runs = c.args.self.now.runs.items in
    let ts = c.args.self.now.transcripts.items in
    let within : c.args.session < length runs = omega (arith, c.requires.places.of_runs, c.requires.session.1) in
    let inside : c.args.session < length ts = omega (arith, c.requires.places.of_replies, c.requires.session.1) in
    let none = free_at runs c.args.session c.index.result.now within c.index.ensures (search rules) in
    let begun = rw c.in-Answered.is at c.in_ok-reply.ensures.begun in
    record {
      step = ok_then c.push.result (λ pushed. λ opening state h. begin_step opening c.args.self.now.book c.args.question.now c.args.live c.in-Answered.reply runs ts _ state c.args.session
          c.obeys.ensures begun.0 begun.1 c.requires.session.1 none (pushed_at ts c.args.session c.index_mut.result.now c.in-Answered.reply c.push.new.self inside c.index_mut.ensures.value pushed) h) c.push.ensures.ok;
      frugal = ok_then c.push.result (λ pushed. λ count. nothing_frugal c.args.self.now _ (event.Begin c.args.session c.args.question.now c.args.live) refl refl tt count) c.push.ensures.ok;
    }

pub returns-in-Running : goal.returns-in-Running
returns-in-Running c =
    let runs = c.args.self.now.runs.items in
    let within : c.args.session < length runs = omega (arith, c.requires.places.of_runs, c.requires.session.1) in
    let none = free_at runs c.args.session c.index.result.now within c.index.ensures (search rules) in
    let begun = rw c.in-Running.is at c.in_ok-reply.ensures.begun in
    record {
      step = λ opening state h. run_step opening c.args.self.now.book c.args.question.now c.args.live c.in-Running.run' runs c.args.self.now.transcripts.items state c.args.session
          c.obeys.ensures begun.0 begun.1 c.requires.session.1 none h;
      frugal = λ count. begun_frugal c.args.self.now _ c.args.session c.args.question.now c.args.live c.in-Running.run' c.obeys.ensures begun.1 within none refl refl count;
    }
