use Rattle.std.proofs.Common.{rules, ◌<◌, refl, ap, length, arith}
use Rattle.memo_graph.specs.Memos.{MemoFacts}
use Rattle.ask_core.specs.Machine.{IsCommit}
use Rattle.ask_core.specs.declared.events.Event.TheVariants as event
use Rattle.ask_core.proofs.Evaluated.{ok_then}
use Rattle.ask_core.proofs.FrugalSteps.{nothing_frugal}
use Rattle.ask_core.proofs.StateSteps.{held_at, free_at, void_step, commit_step, pushed_at}
use Rattle.ask_core.proofs.machine.Sessions.commit.Goals as goal

pub returns-then-is_some : goal.returns-then-is_some
returns-then-is_some c =
    let runs = c.args.self.now.runs.items in
    let within : c.args.session < length runs = omega (arith, c.requires.places.of_runs, c.requires.session.1) in
    let held = held_at runs c.args.session c.index.result.now within c.index.ensures (search rules) in
    record {
      step = λ opening state h. void_step opening c.args.self.now.book runs c.args.self.now.transcripts.items state c.args.session held.0
          (IsCommit opening state c.args.session c.args.line c.args.batch) held.1 h;
      frugal = λ count. nothing_frugal c.args.self.now _ (event.Commit c.args.session c.args.line c.args.batch) refl refl tt count;
    }

pub returns : goal.returns
returns c =
    let runs = c.args.self.now.runs.items in
    let ts = c.args.self.now.transcripts.items in
    let within : c.args.session < length runs = omega (arith, c.requires.places.of_runs, c.requires.session.1) in
    let inside : c.args.session < length ts = omega (arith, c.requires.places.of_replies, c.requires.session.1) in
    let none = free_at runs c.args.session c.index.result.now within c.index.ensures (search rules) in
    record {
      step = ok_then c.push.result (λ pushed. λ opening state h. commit_step opening c.args.self.now.book c.commit_reply.new.book _ c.in_ok-reply.reply runs ts _ state
          c.obeys.ensures c.in_ok-reply.ensures.committed c.in_ok-reply.ensures.opening c.requires.session.1 none (pushed_at ts c.args.session c.index_mut.result.now c.in_ok-reply.reply c.push.new.self inside c.index_mut.ensures.value pushed) h) c.push.ensures.ok;
      frugal = ok_then c.push.result (λ pushed. λ count. nothing_frugal c.args.self.now _ (event.Commit c.args.session c.args.line c.args.batch)
          (ap (λ (m : MemoFacts). m.entries) c.commit_reply.ensures.memo) refl tt count) c.push.ensures.ok;
    }
