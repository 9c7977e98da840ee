use Rattle.std.proofs.Common.{◌≡◌, ◌-◌}
use Rattle.solid_base.specs.Ledgers.{RisesUpTo}
use Rattle.ask_core.specs.Runs.{GoesOnWith, left_of}
use Rattle.ask_core.specs.Thrift.{IsFurther, IsThrifty}
use Rattle.ask_core.proofs.asking.finish.Given as goal

-- the run is further, on the same version, and each evaluation left an entry
abbrev pub invariant-loop-book : goal.invariant-loop-book
invariant-loop-book g l = record {
  further : IsFurther l.fn.run l.run;
  front : GoesOnWith l.run l.book;
  light : RisesUpTo (g.L.Ledger.count l.fn.leaves) (g.L.Ledger.count l.leaves) (left_of l.fn.run - left_of l.run);
  thrifty : IsThrifty l.fn.run.table l.fn.run.question l.fn.book.memo.entries l.book.memo.entries (g.L.Ledger.count l.fn.leaves) (g.L.Ledger.count l.leaves);
  opening : l.book.opening ≡ l.fn.book.opening;
  log : l.book.log ≡ l.fn.book.log;
  table : l.book.table ≡ l.fn.book.table;
}

abbrev pub decreases-loop-book : goal.decreases-loop-book
decreases-loop-book g l = left_of l.run
