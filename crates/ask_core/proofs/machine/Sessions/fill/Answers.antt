use Rattle.std.proofs.Common.{◌<◌, refl, sym, length, None, Some, arith}
use Rattle.ask_core.proofs.Evaluated.{ok_then}
use Rattle.ask_core.proofs.FrugalSteps.{fill_frugal}
use Rattle.ask_core.proofs.StateSteps.{value_at, fill_step, pushed_at}
use Rattle.ask_core.proofs.machine.Sessions.fill.Goals as goal

pub returns-in-Some : goal.returns-in-Some
returns-in-Some c =
    let runs = c.args.self.now.runs.items in
    let ts = c.args.self.now.transcripts.items in
    let within : c.args.session < length runs = omega (arith, c.requires.places.of_runs, c.requires.session.1) in
    let inside : c.args.session < length ts = omega (arith, c.requires.places.of_replies, c.requires.session.1) in
    let at = sym (value_at runs c.args.session c.index_mut.result.now None within c.index_mut.ensures.value) in
    let filled = rw c.in-Some.is at c.in_ok-reply.ensures.place in
    record {
      step = ok_then c.push.result (λ pushed. λ opening state h. fill_step opening c.args.self.now.book c.fill.new.book c.index_mut.result.now c.fill.new.place (Some c.in-Some.reply) runs ts _ state c.args.session
          filled c.in_ok-reply.ensures.opening c.in_ok-reply.ensures.log c.requires.session.1 at (pushed_at ts c.args.session c.index_mut-in-Some.result.now c.in-Some.reply c.push.new.self inside c.index_mut-in-Some.ensures.value pushed) h) c.push.ensures.ok;
      frugal = ok_then c.push.result (λ pushed. λ count. fill_frugal c.args.self.now _ c.args.session c.index_mut.result.now c.fill.new.place within at refl (Some c.in-Some.reply) filled count) c.push.ensures.ok;
    }

pub returns-in-None : goal.returns-in-None
returns-in-None c =
    let runs = c.args.self.now.runs.items in
    let ts = c.args.self.now.transcripts.items in
    let within : c.args.session < length runs = omega (arith, c.requires.places.of_runs, c.requires.session.1) in
    let at = sym (value_at runs c.args.session c.index_mut.result.now None within c.index_mut.ensures.value) in
    let filled = rw c.in-None.is at c.in_ok-reply.ensures.place in
    record {
      step = λ opening state h. fill_step opening c.args.self.now.book c.fill.new.book c.index_mut.result.now c.fill.new.place None runs ts ts state c.args.session
          filled c.in_ok-reply.ensures.opening c.in_ok-reply.ensures.log c.requires.session.1 at refl h;
      frugal = λ count. fill_frugal c.args.self.now _ c.args.session c.index_mut.result.now c.fill.new.place within at refl None filled count;
    }
