use Rattle.std.proofs.Common.{◌<◌, refl, ◌∙◌, arith}
use Rattle.ask_core.specs.Runs.{left_of}
use Rattle.ask_core.proofs.ThriftyRounds.{next_idle, further_self, further_twice, goes_on_still, rises_twice, thrifty_none, thrifty_twice, thrifty_before}
use Rattle.ask_core.proofs.asking.finish.Goals as goal

pub loop-book-init : goal.loop-book-init
loop-book-init g c = record {
  further = further_self c.args.run.now c.obeys.ensures c.requires.idle;
  front = c.requires.front;
  light = (omega arith, omega arith);
  thrifty = thrifty_none c.args.run.now.table c.args.run.now.question c.args.book.now.memo.entries (g.L.Ledger.count c.args.leaves.now);
  opening = refl;
  log = refl;
  table = refl;
}

pub round-requires-clause-idle : goal.round-requires-clause-idle
round-requires-clause-idle g c =
    let left : 0 < left_of c.loop-book.run = omega (arith, c.left.ensures, c.loop-book-test.true) in
    c.loop-book.invariant.further.stage ∙ next_idle (left_of c.loop-book.run) left

pub loop-book-preserved : goal.loop-book-preserved
loop-book-preserved g c =
    let was = c.loop-book.invariant in
    let now = c.round.ensures in
    record {
      further = further_twice c.args.run.now c.loop-book.run c.round.new.run was.further now.further;
      front = goes_on_still c.loop-book.run c.round.new.run c.loop-book.book c.round.new.book now.further was.front now.opening now.log;
      light = rises_twice _ _ _ (left_of c.args.run.now) (left_of c.loop-book.run) (left_of c.round.new.run) was.further.left now.further.left was.light now.light;
      thrifty = thrifty_twice c.args.run.now.table c.args.run.now.question _ _ _ _ _ _ was.thrifty
          (thrifty_before c.args.run.now c.loop-book.run _ _ _ _ was.further c.in_ok-round.ensures.thrifty);
      opening = now.opening ∙ was.opening;
      log = now.log ∙ was.log;
      table = now.table ∙ was.table;
    }
