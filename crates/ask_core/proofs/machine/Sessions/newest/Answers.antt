use Rattle.std.proofs.Common.{rules, ◌≡◌, ◌<◌, refl, sym, length, None, arith}
use Rattle.ask_core.specs.declared.events.Event.TheVariants as event
use Rattle.ask_core.proofs.Evaluated.{ok_then}
use Rattle.ask_core.proofs.FrugalSteps.{nothing_frugal, newest_frugal}
use Rattle.ask_core.proofs.StateSteps.{value_at, newest_step, held_step, pushed_at}
use Rattle.ask_core.proofs.machine.Sessions.newest.Goals as goal

pub returns-in-Some : goal.returns-in-Some
returns-in-Some c =
    let runs = c.args.self.now.runs.items in
    let ts = c.args.self.now.transcripts.items in
    let within : c.args.session < length runs = omega (arith, c.requires.places.of_runs, c.requires.session.1) in
    let inside : c.args.session < length ts = omega (arith, c.requires.places.of_replies, c.requires.session.1) in
    let at = sym (value_at runs c.args.session c.index.result.now None within c.index.ensures) in
    let without_run = rw c.in-Some.is at c.in_ok-reply.ensures in
    let count : c.len-newest.result ≡ length c.args.self.now.book.log = search rules in
    record {
      step = ok_then c.push.result (λ pushed. λ opening state h. newest_step opening c.args.self.now.book c.index.result.now c.len-newest.result c.in-Some.reply runs ts _ state c.args.session
          without_run count c.requires.session.1 at (pushed_at ts c.args.session c.index_mut-in-Some.result.now c.in-Some.reply c.push.new.self inside c.index_mut-in-Some.ensures.value pushed) h) c.push.ensures.ok;
      frugal = ok_then c.push.result (λ pushed. λ count. newest_frugal c.args.self.now _ c.args.session c.index.result.now None within at refl c.len-newest.result c.in-Some.reply without_run refl refl count) c.push.ensures.ok;
    }

pub returns-in-None : goal.returns-in-None
returns-in-None c =
    let runs = c.args.self.now.runs.items in
    let ts = c.args.self.now.transcripts.items in
    let within : c.args.session < length runs = omega (arith, c.requires.places.of_runs, c.requires.session.1) in
    let at = sym (value_at runs c.args.session c.index.result.now None within c.index.ensures) in
    let without_run = rw c.in-None.is at c.in_ok-reply.ensures in
    let count : c.len-newest.result ≡ length c.args.self.now.book.log = search rules in
    record {
      step = λ opening state h. held_step opening c.args.self.now.book c.index.result.now c.len-newest.result runs ts state c.args.session without_run count at h;
      frugal = λ count. nothing_frugal c.args.self.now _ (event.Newest c.args.session) refl refl tt count;
    }
