use Rattle.std.proofs.Common.{◌≡◌, ◌++◌, List, drop}
use Rattle.memo_graph.specs.Memos.{Entry, IsMemo}
use Rattle.ask_core.specs.Rounds.{fresh_entries}
use Rattle.ask_core.specs.Runs.{kept_all}
use Rattle.ask_core.proofs.rounds.keep.Given as goal

-- the first of the fresh entries are kept, and the others are those of the keys that are left
abbrev pub invariant-loop-place : goal.invariant-loop-place
invariant-loop-place l = record {
  front : List Entry;
  all : fresh_entries l.values l.keys l.found ≡ front ++ fresh_entries (drop l.place l.values) (drop l.place l.keys) (drop l.place l.found);
  so_far : l.memo.entries ≡ kept_all l.fn.memo.capacity front l.fn.memo.entries;
  capacity : l.memo.capacity ≡ l.fn.memo.capacity;
  valid : IsMemo l.memo;
}
