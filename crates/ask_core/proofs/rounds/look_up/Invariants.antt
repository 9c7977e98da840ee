use Rattle.std.proofs.Common.{◌≡◌, ◌+◌, ◌≤◌, ◌++◌, length, map, drop}
use Rattle.memo_graph.specs.declared.key.Key.{Key}
use Rattle.memo_graph.specs.Memos.{verdict_of}
use Rattle.ask_core.specs.Runs.{looked}
use Rattle.ask_core.proofs.rounds.look_up.Given as goal

-- what was found so far, and what is held under the keys that are left
abbrev pub invariant-loop-place : goal.invariant-loop-place
invariant-loop-place l = record {
  found : l.found.list ++ map (λ key. verdict_of key l.fn.memo.entries) (drop l.place l.keys) ≡ l.fn.found.list ++ map (λ key. verdict_of key l.fn.memo.entries) l.keys;
  entries : looked (drop l.place l.keys) l.memo.entries ≡ looked l.keys l.fn.memo.entries;
  same : (key : Key) → verdict_of key l.memo.entries ≡ verdict_of key l.fn.memo.entries;
  capacity : l.memo.capacity ≡ l.fn.memo.capacity;
  kept : length l.found.list + l.found.spare ≡ length l.fn.found.list + l.fn.found.spare;
  room : length l.keys ≤ l.place + l.found.spare;
}
